-- What a search finds as the side of a new view, and as the view of a prefix.
use Rattle.std.proofs.Common.{◌≡◌, ℕ, ◌<◌, ◌≤◌, ◌∙◌, sym, ap, subst, refl, arith, Bool, true, leb, Option, Some, None}
use Rattle.std.specs.Prelude.{IsTrue, min, ◌↔◌}
use Rattle.std.proofs.lemmas.Bool.{le-leb}
use Rattle.trie_model.specs.Nets.{Net, IsNet, IsCommonLen, covers, masked}
use Rattle.trie_model.specs.Views.{ViewValue, Has, IsView}
use Rattle.trie_model.proofs.Places.{covers_len}
use Rattle.view_model.specs.Find.{longer, IsPartIn, HasNoneIn, FindsPart, HasCover, CoverFound}
use Rattle.view_model.specs.LongestMatch.{PairOf}
use Rattle.view_model.specs.Union.{IsLongestCommon}
use Rattle.std.proofs.lemmas.Bool.{eq-eqb}
use Rattle.trie_model.proofs.Places.{both_hold, covers_bits, masked_less}
use Rattle.view_model.specs.Sides.{SideHasItem, IsInnerSide, SideHasPrefix, side_frugal}
use Rattle.view_model.specs.CoveringDifference.{IsCovered}
use Rattle.view_model.proofs.SideLaws.{covers_self}
use Rattle.view_model.proofs.LongestLaws.{same_cover}
use Rattle.view_model.proofs.Bits.{either, lt_cases}
use Rattle.view_model.proofs.FindLaws.{longer_left, longer_right}

-- ---- the side of a new view

-- What a search found lies in the prefix.
pub found_in : {V X : Type 0} (valid : V → Type 0) (tell : V → ViewValue X) (w : ℕ) (net : Net) (t : ViewValue X) (side : Option V) →
    FindsPart valid tell w net t side → IsInnerSide valid tell w net side
found_in valid tell w net t None h = tt
found_in valid tell w net t (Some v) h = (h.0, h.1.inside)

-- What a search found has exactly the pairs inside the prefix.
pub found_at : {V X : Type 0} (valid : V → Type 0) (tell : V → ViewValue X) (w : ℕ) (net : Net) (t : ViewValue X) (side : Option V) →
    FindsPart valid tell w net t side → (n : Net) (x : X) → SideHasItem tell side n x ↔ (t.at n x × (covers w net n ≡ true))
found_at valid tell w net t None h n x = ((λ k. absurd k), (λ k. absurd (h.none n x k.0 k.1)))
found_at valid tell w net t (Some v) h n x = h.1.at n x

-- What a search found in a view that takes no memory takes none.
pub found_frugal : {V X : Type 0} (valid : V → Type 0) (tell : V → ViewValue X) (w : ℕ) (net : Net) (t : ViewValue X) (side : Option V) →
    FindsPart valid tell w net t side → IsTrue t.frugal → IsTrue (side_frugal tell side)
found_frugal valid tell w net t None h f = refl
found_frugal valid tell w net t (Some v) h f = h.1.frugal f

-- A difference with what lies in the place is the difference.
pub difference_made : {V X Y : Type 0} (valid : V → Type 0) (tell : V → ViewValue Y) (w : ℕ) (left : ViewValue X) (t : ViewValue Y) (side : Option V) →
    IsView w left → FindsPart valid tell w left.place t side → (n : Net) (x : X) → (left.at n x × (SideHasPrefix tell side n → ⊥)) ↔
    (left.at n x × (Has t n → ⊥))
difference_made valid tell w left t side ok found n x = (
  (λ h. (h.0, λ k. h.1 (k.0, (found_at valid tell w left.place t side found n k.0).1 (k.1, (ok.pairs n x h.0).1)))),
  (λ h. (h.0, λ k. h.1 (k.0, ((found_at valid tell w left.place t side found n k.0).0 k.1).0))),
)

-- A covering difference with what the search gives is the covering difference.
pub outside_made : {V X Y : Type 0} (valid : V → Type 0) (tell : V → ViewValue Y) (w : ℕ) (left : ViewValue X) (t : ViewValue Y)
    (covered : Bool) (side : Option V) →
    IsView w left → CoverFound valid tell w left.place t covered side → (n : Net) (x : X) → (left.at n x × (IsCovered w tell covered side n → ⊥)) ↔
    (left.at n x × (HasCover w t n → ⊥))
outside_made valid tell w left t covered side ok met n x = (
  (λ h. let p = ok.pairs n x h.0 in (h.0, λ k. h.1 ((met.same n p.0.len_fits p.1).1 k))),
  (λ h. let p = ok.pairs n x h.0 in (h.0, λ k. h.1 ((met.same n p.0.len_fits p.1).0 k))),
)

-- ---- an intersection at one place

-- The other view was narrowed to the place of this one.
pub both_made : {X Y : Type 0} (w : ℕ) (left : ViewValue X) (t u : ViewValue Y) → IsView w left → IsPartIn w left.place t u → (n : Net) (x : X) (y : Y) →
    (left.at n x × u.at n y) ↔ (left.at n x × t.at n y)
both_made w left t u ok in_u n x y = (
  (λ h. (h.0, ((in_u.at n y).0 h.1).0)),
  (λ h. (h.0, (in_u.at n y).1 (h.1, (ok.pairs n x h.0).1))),
)

-- Where the second view has nothing in the place of the first, no prefix is in both.
pub none_made : {X Y : Type 0} (w : ℕ) (left : ViewValue X) (t : ViewValue Y) → IsView w left → HasNoneIn w left.place t → (n : Net) (x : X) (y : Y) →
    left.at n x → t.at n y → ⊥
none_made w left t ok lacks n x y p q = lacks.none n y q (ok.pairs n x p).1

-- A view that is narrowed to a place that is no shorter stands there.
pub place_same : {X : Type 0} (w : ℕ) (net : Net) (t u : ViewValue X) → IsNet w u.place → t.place.len ≤ net.len → IsPartIn w net t u → u.place ≡ net
place_same w net t u ok le in_u = same_cover w u.place net u.place (ap (λ p. p.len) in_u.place ∙ length_is) (covers_self w u.place ok) in_u.inside
  where
    length_is : (longer t.place net).len ≡ net.len
    length_is = either
        (λ lt. ap (λ p. p.len) (sym (longer_right t.place net lt)))
        (λ ge. ap (λ p. p.len) (sym (longer_left t.place net ge)) ∙ (let e : t.place.len ≡ net.len = omega (arith, le, ge) in e))
        (lt_cases t.place.len net.len)

-- ---- the common prefix of two

-- The common bits of two places, no more than either has, are the longest prefix that contains both.
pub common_of : (w : ℕ) (a b : Net) (l : ℕ) → IsNet w a → l ≤ a.len → l ≤ b.len → masked w a.bits l ≡ masked w b.bits l →
    ((k : ℕ) → l < k → k ≤ a.len → k ≤ b.len → masked w a.bits k ≡ masked w b.bits k → ⊥) → IsLongestCommon w a b (record { bits = masked w a.bits l; len = l })
common_of w a b l ok p q e most = record {
  left = both_hold (leb l a.len) _ (le-leb l a.len p) (eq-eqb _ _ refl);
  right = both_hold (leb l b.len) _ (le-leb l b.len q) (eq-eqb _ _ (sym e));
  longest = λ m ca cb.
      either
      (λ lt. absurd (most m.len lt (covers_len w m a ca) (covers_len w m b cb) (covers_bits w m a ca ∙ sym (covers_bits w m b cb))))
      (λ ge. ge)
      (lt_cases l m.len);
}

-- As many common bits as both numbers have, and no more than either place.
pub common_short : (w : ℕ) (a b : Net) (common l : ℕ) → IsNet w a → IsCommonLen w a.bits b.bits common → l ≡ min (min common a.len) b.len →
    IsLongestCommon w a b (record { bits = masked w a.bits l; len = l })
common_short w a b common l ok is e =
    let le : l ≤ common = omega (arith, e) in
    common_of w a b l ok (omega (arith, e)) (omega (arith, e))
    (sym (masked_less w common l a.bits is.fits le) ∙ ap (λ x. masked w x l) is.same ∙ masked_less w common l b.bits is.fits le)
    (λ k more p q same. let top = ok.len_fits in let most = is.most k (omega (arith, p, top)) same in let no' : ⊥ = omega (arith, e, more, p, q, most) in no')

-- Where one place is the other, the search for it finds something.
pub same_found : {X : Type 0} (w : ℕ) (net : Net) (t : ViewValue X) → IsView w t → HasNoneIn w net t → t.place ≡ net → ⊥
same_found w net t ok lacks e = lacks.not_all (subst (λ p. covers w p t.place ≡ true) e (covers_self w t.place ok.place_ok))

-- ---- a prefix that has a pair

-- Nothing lies in a prefix, so it has no pair.
pub entry_missing : {X : Type 0} (w : ℕ) (net : Net) (t : ViewValue X) → IsNet w net → HasNoneIn w net t → Has t net → ⊥
entry_missing w net t ok none h = none.none net h.0 h.1 (covers_self w net ok)

-- A part at a longer place is no pair's.
pub entry_longer : {X : Type 0} (w : ℕ) (net : Net) (t u : ViewValue X) → IsNet w net → IsView w t → IsView w u → (u.place.len ≡ net.len → ⊥) →
    IsPartIn w net t u → Has t net → ⊥
entry_longer w net t u ok view okv ne part h =
    ne (ap (λ p. p.len) (place_same w net t u okv.place_ok (covers_len w t.place net (view.pairs net h.0 h.1).1) part))

-- A part at a place of the prefix's length stands at the prefix.
pub part_place : {X : Type 0} (w : ℕ) (net : Net) (t u : ViewValue X) → IsView w u → u.place.len ≡ net.len → IsPartIn w net t u → u.place ≡ net
part_place w net t u ok e part = same_cover w u.place net u.place e (covers_self w u.place ok.place_ok) part.inside

-- The part has the prefix's pair where the view does.
pub part_has : {X : Type 0} (w : ℕ) (net : Net) (t u : ViewValue X) → IsNet w net → u.place ≡ net → IsPartIn w net t u → Has u u.place ↔ Has t net
part_has {X} w net t u ok e part = (
  (λ h. (h.0, ((part.at net h.0).0 (subst (λ p. u.at p h.0) e h.1)).0)),
  (λ h. (h.0, subst (λ p. u.at p h.0) (sym e) ((part.at net h.0).1 (h.1, covers_self w net ok)))),
)

-- The pair of a part's own place is the prefix's pair.
pub pair_of_part : {P T X : Type 0} (w : ℕ) (net : Net) (t u : ViewValue X) (f : P → Net) (item : T → X) → IsNet w net → u.place ≡ net →
    IsPartIn w net t u → (l : Option (P × T)) → PairOf f item u u.place l → PairOf f item t net l
pair_of_part w net t u f item ok e part None h = λ k. h ((part_has w net t u ok e part).1 k)
pair_of_part w net t u f item ok e part (Some p) h = (h.0 ∙ e, ((part.at net (item p.1)).0 (subst (λ k. u.at k (item p.1)) e h.1)).0)
