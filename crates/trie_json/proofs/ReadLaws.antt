-- What was read of a list so far.
use Rattle.std.proofs.Common.{◌≡◌, ℕ, ◌+◌, ◌<◌, ◌∙◌, sym, ap, subst, refl, List, [], ◌∷◌, ◌++◌, length, map}
use Rattle.std.proofs.Common.{reverse, take, get_or, Option, Some, cond, false, inl, inr}
use Rattle.std.specs.Prelude.{◌⊎◌, slice_get, option_map}
use Rattle.std.proofs.lemmas.Option.{slice_get-map, slice_get_read, get_or_from_slice_get}
use Rattle.std.proofs.Math.Seq.{take-suc}
use Rattle.std.proofs.Math.Numerals.{suc-eq-add-one}
use Rattle.std.proofs.lemmas.List.{reverse-append, length-map}
use Rattle.serde_json.specs.Data.{Data}
use Rattle.trie_model.specs.Nets.{Net, IsNet}
use Rattle.trie_model.specs.Maps.{with_entry, pairs, value_at, inserted}
use Rattle.trie_model.specs.Views.{same_net}
use Rattle.trie_model.proofs.MapLists.{OfWidth, pairs_with, pairs_none}
use Rattle.trie_model.proofs.MapLaws.{nets_or, same_map}
use Rattle.trie_model.proofs.MaskLaws.{masked_net}
use Rattle.trie_json.specs.Writing.{list_data}
use Rattle.trie_json.specs.Reading.{AreRead, IsListRead, ReadsNet, StopsAt, last_of_each, ReadsEntry, IsNoPair}
use Rattle.trie_json.specs.Reading.{HasBadPrefix, HasBadItem, IsBadEntry, RefusesMap}
use Rattle.trie_json.specs.declared.refusal.JsonRefusal.{JsonRefusal}
use Rattle.trie_json.specs.declared.refusal.JsonRefusal.TheVariants.{NotList, NotPair, BadPrefix, BadItem, NoMemory}

-- What was read of some elements, and what came of it.
pub record ReadSoFar {X : Type 0} (reads : Data → Net → X → Type 0) (w : ℕ) (ds : List Data) (ps : List (Net × X)) : Type 0 where
  pub pairs : List (Net × X)
  pub each : AreRead reads ds pairs
  pub nets : OfWidth w (value_at (reverse pairs))
  pub last : ps ≡ last_of_each w pairs

-- A prefix that is read is one of this width.
pub read_net : (w : ℕ) (d : Data) (n : Net) → ReadsNet w d n → IsNet w n
read_net w d n read = subst (IsNet w) (sym read.net) (masked_net w read.len read.bits read.prefix.len_fits read.prefix.bits_fit)

-- ---- one element more

same_order : (a b : Net) → same_net a b ≡ same_net b a
same_order a b = by (nets_or a b) (nets_or b a)
  where
    by : (a ≡ b) ⊎ (same_net a b ≡ false) → (b ≡ a) ⊎ (same_net b a ≡ false) → same_net a b ≡ same_net b a
    by (inl e) h = ap (λ x. same_net x b) e ∙ ap (λ x. same_net b x) (sym e)
    by (inr f) (inl e) = ap (λ x. same_net a x) e ∙ ap (λ x. same_net x a) (sym e)
    by (inr f) (inr g) = f ∙ sym g

each_more : {X : Type 0} (reads : Data → Net → X → Type 0) (ds : List Data) (ps : List (Net × X)) (d : Data) (n : Net) (x : X) → AreRead reads ds ps
    → reads d n x → AreRead reads (ds ++ d ∷ []) (ps ++ (n, x) ∷ [])
unfolding AreRead
each_more reads [] [] d n x each now = (now, tt)
each_more reads [] (p ∷ ps) d n x each now = absurd each
each_more reads (e ∷ ds) [] d n x each now = absurd each
each_more reads (e ∷ ds) (p ∷ ps) d n x each now = (each.0, each_more reads ds ps d n x each.1 now)

-- The value of a prefix after one pair more.
pub value_more : {X : Type 0} (ps : List (Net × X)) (n : Net) (x : X) → value_at (reverse (ps ++ (n, x) ∷ [])) ≡ with_entry (value_at (reverse ps)) n x
unfolding value_at
value_more ps n x = ap value_at (reverse-append ps ((n, x) ∷ [])) ∙ same_map _ _ (λ k. ap (λ b. cond b (Some x) (value_at (reverse ps) k)) (same_order k n))

-- At the start nothing was read.
pub none_read : {X : Type 0} (reads : Data → Net → X → Type 0) (w : ℕ) (ps : List (Net × X)) → ps ≡ [] → ReadSoFar reads w [] ps
unfolding AreRead value_at
none_read {X} reads w ps e = record {
  pairs = [];
  each = tt;
  nets = λ n x h. absurd (let no : ⊥ = cc in no);
  last = e ∙ sym (pairs_none w (value_at []) (same_map _ _ (λ n. refl)));
}

-- One element more was read, and its pair put in.
pub more_read : {X : Type 0} (reads : Data → Net → X → Type 0) (w : ℕ) (ds : List Data) (ps qs : List (Net × X)) (d : Data) (n : Net) (x : X)
    → ReadSoFar reads w ds ps → reads d n x → IsNet w n → qs ≡ inserted w ps n x → ReadSoFar reads w (ds ++ d ∷ []) qs
more_read {X} reads w ds ps qs d n x so now net put =
    let values = value_more so.pairs n x in
    record {
      pairs = so.pairs ++ (n, x) ∷ [];
      each = each_more reads ds so.pairs d n x so.each now;
      nets = subst (OfWidth w) (sym values) (λ k y h. width (nets_or n k) h);
      last = put ∙ ap (λ zs. inserted w zs n x) so.last ∙ sym (ap (pairs w) values ∙ pairs_with w (value_at (reverse so.pairs)) n x net so.nets);
    }
  where
    width : {k : Net} {y : X} → (n ≡ k) ⊎ (same_net n k ≡ false) → with_entry (value_at (reverse so.pairs)) n x k ≡ Some y → IsNet w k
    width (inl e) h = subst (IsNet w) e net
    width {k} {y} (inr f) h = so.nets k y (ap (λ b. cond b (Some x) (value_at (reverse so.pairs) k)) (sym f) ∙ h)

-- The elements up to and with the one at a place.
pub take_next : {X : Type 0} (xs : List X) (at : ℕ) (d x : X) → at < length xs → get_or xs at d ≡ x → take (at + 1) xs ≡ take at xs ++ x ∷ []
take_next xs at d x lt e = ap (λ k. take k xs) (sym (suc-eq-add-one at)) ∙ take-suc xs at d lt ∙ ap (λ z. take at xs ++ z ∷ []) e

-- The element at a place of what a list is seen as.
pub element_at : {A B : Type 0} (f : A → B) (xs : List A) (at : ℕ) (x : A) → at < length xs → x ≡ get_or xs at x → slice_get (map f xs) at ≡ Some (f x)
element_at f xs at x lt e = slice_get-map f xs at ∙ ap (option_map f) (slice_get_read xs (length xs) at x refl lt e)

-- The elements up to and with it.
pub take_element : {A B : Type 0} (f : A → B) (xs : List A) (at : ℕ) (x : A) → at < length xs → x ≡ get_or xs at x
    → take (at + 1) (map f xs) ≡ take at (map f xs) ++ f x ∷ []
take_element f xs at x lt e =
    take_next (map f xs) at (f x) (f x) (subst (λ k. at < k) (sym (length-map xs f)) lt)
    (get_or_from_slice_get (map f xs) at (f x) (f x) (element_at f xs at x lt e))

-- ---- the end

-- The list stops at a bad element.
pub stops : {X : Type 0} (reads : Data → Net → X → Type 0) (bad : Data → Type 0) (w : ℕ) (d : Data) (ds : List Data) (ps : List (Net × X))
    (at : ℕ) (element : Data)
    → d ≡ list_data ds → ReadSoFar reads w (take at ds) ps → slice_get ds at ≡ Some element → bad element → StopsAt reads bad d at
stops reads bad w d ds ps at element is so there why = record {
  elements = ds;
  list = is;
  pairs = so.pairs;
  before = so.each;
  element = element;
  there = there;
  is_bad = why;
}

-- What is wrong with an element is what is wrong with the list.
pub refused_at : {X : Type 0} (w : ℕ) (read : Data → Option X) (d : Data) (ds : List Data) (ps : List (Net × X)) (at : ℕ) (element : Data) (e : JsonRefusal)
    → d ≡ list_data ds → ReadSoFar (ReadsEntry w read) w (take at ds) ps → slice_get ds at ≡ Some element → IsBadEntry w read element at e
    → RefusesMap w read d e
refused_at w read d ds ps at element NotList is so there why = absurd why
refused_at w read d ds ps at element (NotPair k) is so there why =
    subst (StopsAt (ReadsEntry w read) IsNoPair d) (sym why.0) (stops (ReadsEntry w read) IsNoPair w d ds ps at element is so there why.1)
refused_at w read d ds ps at element (BadPrefix k) is so there why = subst (StopsAt (ReadsEntry w read) (HasBadPrefix w) d) (sym why.0)
    (stops (ReadsEntry w read) (HasBadPrefix w) w d ds ps at element is so there why.1)
refused_at w read d ds ps at element (BadItem k) is so there why = subst (StopsAt (ReadsEntry w read) (HasBadItem w read) d) (sym why.0)
    (stops (ReadsEntry w read) (HasBadItem w read) w d ds ps at element is so there why.1)
refused_at w read d ds ps at element NoMemory is so there why = tt

-- All elements were read.
pub all_read : {X : Type 0} (reads : Data → Net → X → Type 0) (w : ℕ) (d : Data) (ds : List Data) (ps : List (Net × X)) → d ≡ list_data ds
    → ReadSoFar reads w ds ps → IsListRead reads w d ps
all_read reads w d ds ps is so = record { elements = ds; list = is; pairs = so.pairs; each = so.each; last = so.last }
