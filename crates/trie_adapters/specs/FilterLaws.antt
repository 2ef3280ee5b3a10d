-- Filtered views keep the laws.
use Rattle.std.proofs.Common.{◌≡◌, ℕ, zero, suc, ◌+◌, ◌<◌, ◌≤◌, ◌∙◌, sym, ap, subst, refl, arith}
use Rattle.std.proofs.Common.{true, List, Option, Some, inl, inr}
use Rattle.std.specs.Prelude.{◌⊎◌, slice_get}
use Rattle.std.specs.Int.{bit_at}
use Rattle.trie_model.specs.Nets.{Net, IsNet, covers}
use Rattle.trie_model.specs.Spots.{data_bit_of}
use Rattle.trie_model.specs.Views.{ViewValue, IsView, data_net, child_toward, depth_at, level_of}
use Rattle.trie_model.proofs.FullLaws.{some_bit}
use Rattle.trie_model.proofs.NodeLaws.{data_is_net, same_some}
use Rattle.trie_model.proofs.Places.{bit_below, level_le}
use Rattle.trie_model.proofs.RootLaws.{no_bit}
use Rattle.trie_model.proofs.SpotLaws.{bit_back}
use Rattle.trie_adapters.specs.Filtered.{accepted, HasKept, filtered, KeepsItems}

-- ---- data bits

-- Data bits with one prefix are one.
pub net_bit_one : (w : ℕ) (place : Net) (b c : ℕ) → b < 31 → c < 31 → depth_at place.len + level_of b ≤ w
    → depth_at place.len + level_of c ≤ w → data_net w place b ≡ data_net w place c → b ≡ c
net_bit_one w place b c hb hc fb fc e =
    sym (bit_back w (depth_at place.len) place.bits b hb fb)
    ∙ ap (λ n. data_bit_of w (depth_at place.len) n.bits n.len) e
    ∙ bit_back w (depth_at place.len) place.bits c hc fc

-- The prefix of a data bit is shorter than the places of the children.
pub data_short : (w : ℕ) (place : Net) (b : ℕ) → (data_net w place b).len < depth_at place.len + 5
data_short w place b = let le = level_le b in omega (arith, le)

-- A view that has no data bits has no pair of a data bit.
pub no_pair : {X : Type 0} (w : ℕ) (t : ViewValue X) → IsView w t → t.data_bits ≡ 0 → (b : ℕ) (x : X) → b < 31
    → t.at (data_net w t.place b) x → ⊥
no_pair w t ok spent b x small h = no_bit t.data_bits b spent (ok.untold b x small h)

-- A view with no pairs of data bits has no data bits.
pub no_bits : {X : Type 0} (w : ℕ) (t : ViewValue X) → IsView w t
    → ((b : ℕ) (x : X) → b < 31 → t.at (data_net w t.place b) x → ⊥) → t.data_bits ≡ 0
no_bits {X} w t ok none = by (some_or t.data_bits)
  where
    some_or : (n : ℕ) → (n ≡ 0) ⊎ (0 < n)
    some_or zero = inl refl
    some_or (suc n) = inr (omega arith)

    by : (t.data_bits ≡ 0) ⊎ (0 < t.data_bits) → t.data_bits ≡ 0
    by (inl e) = e
    by (inr lt) =
        let b = some_bit t.data_bits 31 ok.data_fit lt in
        let small = bit_below 31 t.data_bits b.0 ok.data_fit b.1 in
        let h = ok.told b.0 small b.1 in
        absurd (none b.0 h.0 small h.1)

-- ---- the laws

-- A filtered view keeps the laws.
pub filter_laws : {T X : Type 0} (item : T → X) (accepts : Net → X → Type 0) (w bits : ℕ) (kept : List (Option T))
    (t : ViewValue X) → IsView w t → KeepsItems w bits kept t → IsView w (filtered item accepts w bits kept t)
filter_laws {T} {X} item accepts w bits kept t ok keeps = record {
  place_ok = ok.place_ok;
  data_fit = keeps.fit;
  children_fit = ok.children_fit;
  pairs = pair;
  one = single;
  told = λ bit small set. let s = keeps.some bit set in (item s.0, inl (bit, (s.0, set, refl, s.1, refl)));
  untold = λ bit x small h. set_of bit x small h;
  below = λ n x h deep. deeper n x h deep;
  deep = ok.deep;
}
  where
    at : Net → X → Type 0
    at n x = HasKept item w t.place bits kept n x ⊎ accepted accepts t n x

    pair : (n : Net) (x : X) → at n x → IsNet w n × (covers w t.place n ≡ true)
    pair n x (inl k) =
        let small = bit_below 31 bits k.0 keeps.fit k.1.1 in (
          subst (IsNet w) k.1.2 (data_is_net w t.place k.0 ok.place_ok.bits_fit small (keeps.short k.0 k.1.1)),
          subst (λ q. covers w t.place q ≡ true) k.1.2 (keeps.inside k.0 k.1.1),
        )
    pair n x (inr h) = ok.pairs n x h.0

    single : (n : Net) (x y : X) → at n x → at n y → x ≡ y
    single n x y (inl k) (inl l) =
        let same : k.0 ≡ l.0 = net_bit_one w t.place k.0 l.0 (bit_below 31 bits k.0 keeps.fit k.1.1)
        (bit_below 31 bits l.0 keeps.fit l.1.1) (keeps.short k.0 k.1.1) (keeps.short l.0 l.1.1)
        (k.1.2 ∙ sym l.1.2) in
        let items : k.1.0 ≡ l.1.0 = same_some k.1.0 l.1.0
        (same_some (Some k.1.0) (Some l.1.0) (sym k.1.3 ∙ ap (slice_get kept) same ∙ l.1.3)) in
        sym k.1.4 ∙ ap item items ∙ l.1.4
    single n x y (inl k) (inr h) = absurd (no_pair w t ok keeps.spent k.0 y (bit_below 31 bits k.0 keeps.fit k.1.1)
        (subst (λ q. t.at q y) (sym k.1.2) h.0))
    single n x y (inr h) (inl k) = absurd (no_pair w t ok keeps.spent k.0 x (bit_below 31 bits k.0 keeps.fit k.1.1)
        (subst (λ q. t.at q x) (sym k.1.2) h.0))
    single n x y (inr h) (inr k) = ok.one n x y h.0 k.0

    set_of : (bit : ℕ) (x : X) → bit < 31 → at (data_net w t.place bit) x → bit_at bits bit ≡ 1
    set_of bit x small (inl k) =
        let fits = data_is_net w t.place k.0 ok.place_ok.bits_fit (bit_below 31 bits k.0 keeps.fit k.1.1)
        (keeps.short k.0 k.1.1) in
        let len : depth_at t.place.len + level_of bit ≤ w = subst (λ n. n.len ≤ w) k.1.2 fits.len_fits in
        let same : k.0 ≡ bit = net_bit_one w t.place k.0 bit (bit_below 31 bits k.0 keeps.fit k.1.1) small
        (keeps.short k.0 k.1.1) len k.1.2 in
        subst (λ b. bit_at bits b ≡ 1) same k.1.1
    set_of bit x small (inr h) = absurd (no_pair w t ok keeps.spent bit x small h.0)

    deeper : (n : Net) (x : X) → at n x → depth_at t.place.len + 5 ≤ n.len
        → bit_at t.child_bits (child_toward w (depth_at t.place.len) n.bits) ≡ 1
    deeper n x (inl k) deep = absurd (let short = data_short w t.place k.0 in
        let len : (data_net w t.place k.0).len ≡ n.len = ap (λ q. q.len) k.1.2 in
        let no : ⊥ = omega (arith, short, len, deep) in no)
    deeper n x (inr h) deep = ok.below n x h.0 deep
