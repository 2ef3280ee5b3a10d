-- The prefixes that both views have.
use Rattle.std.specs.Prelude.{◌≡◌, ◌↔◌, ◌&&◌, bit_and, Option, Some, None}
use Rattle.trie_model.specs.Nets.{Net}
use Rattle.view_model.specs.Find.{longer}
use Rattle.trie_model.specs.Views.{ViewValue}

-- What contracts see of an intersection of views at one place.
abbrev pub intersection_told : {X Y : Type 0} → ViewValue X → ViewValue Y → ViewValue (X × Y)
intersection_told left right = record {
  place = left.place;
  data_bits = bit_and left.data_bits right.data_bits;
  child_bits = bit_and left.child_bits right.child_bits;
  at = λ n p. left.at n p.0 × right.at n p.1;
  frugal = left.frugal && right.frugal;
}

-- What an intersection of two views is: their common prefixes at the longer place, or that there is none.
abbrev pub FindsCommon : {V X Y : Type 0} → (V → Type 0) → (V → ViewValue (X × Y)) → ViewValue X
    → ViewValue Y → Option V → Type 0
FindsCommon {V} {X} {Y} valid tell s t None =
    ((n : Net) (x : X) (y : Y) → s.at n x → t.at n y → ⊥) × (s.place ≡ t.place → ⊥)
FindsCommon {V} {X} {Y} valid tell s t (Some v) = valid v × ((tell v).place ≡ longer s.place t.place) ×
    ((n : Net) (p : X × Y) → (tell v).at n p ↔ (s.at n p.0 × t.at n p.1))
