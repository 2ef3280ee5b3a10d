-- What the data bits of a side hide.
use Rattle.std.proofs.Common.{◌≡◌, ◌≢◌, ℕ, ◌+◌, ◌*◌, ◌%◌, ◌^◌, ◌<◌, ◌≤◌, ◌∙◌, sym, ap, subst, refl, arith, Bool}
use Rattle.std.proofs.Common.{true, false, cond, eqb, bit_and, Option, inl, inr}
use Rattle.std.specs.Prelude.{◌⊎◌}
use Rattle.std.specs.Int.{bit_at, bit_not, trailing_zeros, w32}
use Rattle.std.specs.Int.RustNames.{bit_or}
use Rattle.std.proofs.lemmas.Bool.{eq-eqb, eqb-true}
use Rattle.std.proofs.lemmas.Nat.{and_le_l}
use Rattle.std.proofs.lemmas.Nat.Bits.{bit_at-trailing_zeros, bit_at-zero, bit_at_clear_other, bit_at_clear_same}
use Rattle.trie_model.specs.Nets.{Net, covers}
use Rattle.trie_model.specs.Spots.{rows_below, children_below, data_bit_of}
use Rattle.trie_model.specs.Views.{depth_at, level_of, data_net, child_net, ViewValue, IsView}
use Rattle.trie_model.proofs.Places.{bit_below, elim-false, level_le}
use Rattle.trie_model.proofs.MaskNets.{for_bit_rows, for_bit_children}
use Rattle.trie_model.proofs.LongestLaws.{cond_is}
use Rattle.view_model.specs.Sides.{SideHasPrefix, IsAlignedSide, side_data_bits}
use Rattle.view_model.specs.CoveringDifference.{CoveredBits, IsCoverOf, IsCoverOfTaken}
use Rattle.view_model.proofs.Bits.{and_bit_l, one-zero, or_bit, or_bit_l, or_bit_r, either}
use Rattle.view_model.proofs.SideLaws.{side_told}
use Rattle.view_model.proofs.LongestLaws.{has_data_bit}

-- ---- the masks of one data bit after the other

-- At first nothing is taken.
pub cover_at_first : (cover : ℕ → ℕ) (bits : ℕ) → IsCoverOfTaken cover bits bits 0
cover_at_first cover bits b = ((λ h. absurd (one-zero _ h (bit_at-zero b))), (λ h. absurd (one-zero _ h.1.1 h.1.2)))

same_or_not : (a t : ℕ) → (a ≡ t) ⊎ (a ≢ t)
same_or_not a t = at (eqb a t) refl
  where
    at : (s : Bool) → eqb a t ≡ s → (a ≡ t) ⊎ (a ≢ t)
    at true e = inl (eqb-true a t e)
    at false e = inr (λ q. elim-false (sym e ∙ eq-eqb a t q))

-- The mask of one more data bit comes to those of the ones before.
pub cover_took : (cover : ℕ → ℕ) (bits rest left m c t : ℕ) → t < 31 → bit_at bits t ≡ 1 → bit_at rest t ≡ 1 → bit_at left t ≡ 0 →
    ((i : ℕ) → i < 31 → i ≢ t → bit_at left i ≡ bit_at rest i) → c ≡ cover (t + 1) → IsCoverOfTaken cover bits rest m →
    IsCoverOfTaken cover bits left (bit_or m c)
cover_took cover bits rest left m c t lt on there gone same is s b = (
  (λ h. either before now (or_bit m c b h)),
  (λ h. either (λ e. or_bit_r m c b (ap (λ x. bit_at x b) is ∙ subst (λ a. bit_at (cover (a + 1)) b ≡ 1) e h.1.3))
      (λ ne. or_bit_l m c b ((s b).1 (h.0, (h.1.0, h.1.1, sym (same h.0 h.1.0 ne) ∙ h.1.2, h.1.3)))) (same_or_not h.0 t)),
)
  where
    Found : Type 0
    Found = (a : ℕ) × ((a < 31) × (bit_at bits a ≡ 1) × (bit_at left a ≡ 0) × (bit_at (cover (a + 1)) b ≡ 1))

    before : bit_at m b ≡ 1 → Found
    before k =
        let j = (s b).0 k in
        (j.0, (j.1.0, j.1.1, same j.0 j.1.0 (λ e. one-zero _ there (ap (bit_at rest) (sym e) ∙ j.1.2)) ∙ j.1.2, j.1.3))

    now : bit_at c b ≡ 1 → Found
    now k = (t, (lt, on, gone, ap (λ x. bit_at x b) (sym is) ∙ k))

-- Where nothing is left, all masks are there.
pub cover_at_end : (cover : ℕ → ℕ) (bits rest m : ℕ) → rest ≡ 0 → IsCoverOfTaken cover bits rest m → IsCoverOf cover bits m
cover_at_end cover bits rest m e s b = (
  (λ h. let j = (s b).0 h in (j.0, (j.1.0, j.1.1, j.1.3))),
  (λ h. (s b).1 (h.0, (h.1.0, h.1.1, ap (λ x. bit_at x h.0) e ∙ bit_at-zero h.0, h.1.2))),
)

-- The lowest bit of the rest, and what is left without it.
pub record TakesLowest (rest left bit : ℕ) : Type 0 where
  pub small : bit < 31
  pub set : bit_at rest bit ≡ 1
  pub gone : bit_at left bit ≡ 0
  pub same : (i : ℕ) → i < 31 → i ≢ bit → bit_at left i ≡ bit_at rest i
  pub less : left < rest
  pub within : (i : ℕ) → bit_at left i ≡ 1 → bit_at rest i ≡ 1

-- The lowest bit is taken.
pub takes_lowest : (rest : ℕ) → rest < 2 ^ 31 → rest ≢ 0 →
    TakesLowest rest (bit_and rest (bit_not w32 (1 * 2 ^ trailing_zeros w32 rest % 2 ^ 32))) (trailing_zeros w32 rest)
takes_lowest rest fits some = record {
  small = small;
  set = low.1;
  gone = gone;
  same = λ i lt ne. bit_at_clear_other w32 rest t low.0 i (omega arith) ne;
  less = less_of _ _ (and_le_l rest clear) (λ e. one-zero _ low.1 (ap (λ x. bit_at x t) (sym e) ∙ gone));
  within = λ i h. and_bit_l rest clear i h;
}
  where
    t : ℕ
    t = trailing_zeros w32 rest

    clear : ℕ
    clear = bit_not w32 (1 * 2 ^ t % 2 ^ 32)

    low : (t < 32) × (bit_at rest t ≡ 1) × ((i : ℕ) → i < t → bit_at rest i ≡ 0)
    low = bit_at-trailing_zeros w32 rest (omega (arith, some)) (omega (arith, fits))

    small : t < 31
    small = bit_below 31 rest t fits low.1

    gone : bit_at (bit_and rest clear) t ≡ 0
    gone = bit_at_clear_same w32 rest t low.0

    less_of : (a b : ℕ) → a ≤ b → (a ≡ b → ⊥) → a < b
    less_of a b le ne = let apart : a ≢ b = ne in omega (arith, le, apart)

-- ---- the masks of a side

-- The masks of a side's data bits tell what lies in a prefix of the side.
pub covered_bits_of : {V Y : Type 0} (w : ℕ) (valid : V → Type 0) (tell : V → ViewValue Y) (law : (v : V) → valid v →
    IsView w (tell v)) (place : Net) (side : Option V) (bits covered_data covered_children : ℕ) → IsAlignedSide valid tell w place side →
    bits ≡ side_data_bits tell (depth_at place.len) side → covered_data < 2 ^ 32 → covered_children < 2 ^ 32 →
    IsCoverOf rows_below bits covered_data → IsCoverOf children_below bits covered_children →
    CoveredBits w place tell false side covered_data covered_children
covered_bits_of {V} {Y} w valid tell law place side bits covered_data covered_children ok e fit_m fit_k rows below = record {
  data_fit = fit_m;
  children_fit = fit_k;
  data_in = λ bit lt fits h.
      let s = (rows bit).0 h in
      let over = cond_is _ _ (for_bit_rows w (depth_at place.len) place.bits s.0 bit s.1.0 lt fits) s.1.2 in
      inr (data_net w place s.0, (short s.0, over, has s.0 s.1.0 s.1.1));
  data_all = λ bit lt fits h. either (λ f. absurd (elim-false f)) (λ s. data_set bit lt fits s.0 s.1.0 s.1.1 s.1.2) h;
  children_in = λ bit lt fits h.
      let s = (below bit).0 h in
      let over = cond_is _ _ (for_bit_children w (depth_at place.len) place.bits s.0 bit s.1.0 lt fits) s.1.2 in
      inr (data_net w place s.0, (short s.0, over, has s.0 s.1.0 s.1.1));
  children_all = λ bit lt fits h. either (λ f. absurd (elim-false f)) (λ s. child_set bit lt fits s.0 s.1.0 s.1.1 s.1.2) h;
}
  where
    short : (a : ℕ) → (data_net w place a).len < depth_at place.len + 5
    short a = let l = level_le a in omega (arith, l)

    has : (a : ℕ) → a < 31 → bit_at bits a ≡ 1 → SideHasPrefix tell side (data_net w place a)
    has a lt on = side_told w valid tell law place side ok a lt (ap (λ x. bit_at x a) (sym e) ∙ on)

    data_set : (bit : ℕ) → bit < 31 → depth_at place.len + level_of bit ≤ w → (m : Net) → m.len < depth_at place.len + 5 →
        covers w m (data_net w place bit) ≡ true → SideHasPrefix tell side m → bit_at covered_data bit ≡ 1
    data_set bit lt fits m small over h =
        let k = has_data_bit w valid tell law place side ok m h.0 (small, h.1) in
        let a : ℕ = data_bit_of w (depth_at place.len) m.bits m.len in
        (rows bit).1 (
          a,
          (
            k.small,
            ap (λ x. bit_at x a) e ∙ k.set,
            for_bit_rows w (depth_at place.len) place.bits a bit k.small lt fits ∙
                ap (λ t. cond t 1 0) (ap (λ p. covers w p (data_net w place bit)) k.net ∙ over),
          ),
        )

    child_set : (bit : ℕ) → bit < 32 → depth_at place.len + 5 ≤ w → (m : Net) → m.len < depth_at place.len + 5 →
        covers w m (child_net w place bit) ≡ true → SideHasPrefix tell side m → bit_at covered_children bit ≡ 1
    child_set bit lt fits m small over h =
        let k = has_data_bit w valid tell law place side ok m h.0 (small, h.1) in
        let a : ℕ = data_bit_of w (depth_at place.len) m.bits m.len in
        (below bit).1 (
          a,
          (
            k.small,
            ap (λ x. bit_at x a) e ∙ k.set,
            for_bit_children w (depth_at place.len) place.bits a bit k.small lt fits ∙
                ap (λ t. cond t 1 0) (ap (λ p. covers w p (child_net w place bit)) k.net ∙ over),
          ),
        )
