-- The longest visible prefix that contains an address, with its first route, is the best of its family.
use Rattle.std.proofs.Common.{◌≡◌, ◌||◌, ℕ, ◌<◌, ◌≤◌, Bool, true, false, List, [], ◌∷◌, Option, Some, None, inl, inr, refl, sym, ◌∙◌, ap, arith}
use Rattle.std.specs.Prelude.{◌⊎◌}
use Rattle.std.specs.Option.{option_and_then}
use Rattle.trie_model.specs.Nets.{Net, covers, masked}
use Rattle.trie_model.specs.Views.{SamePairs}
use Rattle.trie_model.specs.Walks.{Within}
use Rattle.trie_model.specs.Maps.{value_at}
use Rattle.trie_model.proofs.MapLists.{value_within}
use Rattle.trie_model.proofs.Places.{covers_bits}
use Rattle.mirror_model.proofs.Tests.{some_inside, or_true_first, or_true_second}
use Rattle.route_table.specs.declared.change.Hop.{Hop}
use Rattle.route_table.specs.Answers.{FamilyRoute, MayAnswer, IsBestIn, is_hidden}
use Rattle.route_table.specs.Entries.{AreNets}
use Rattle.route_table.specs.Lists.{hop_under}
use Rattle.route_table.proofs.Entries.{value_there}

-- ---- hidden prefixes

module _ (w : ℕ) (n : Net) where
  -- A prefix that a blocked one contains is hidden.
  pub hidden_by : (bs : List (Net × Unit {0})) (m : Net) (x : Unit {0}) → Within bs m x → covers w m n ≡ true → is_hidden w bs n ≡ true
  unfolding Within
  hidden_by [] m x here c = absurd here
  hidden_by (b ∷ bs) m x (inl same) c = or_true_first (covers w b.0 n) (is_hidden w bs n) (ap (λ k. covers w k n) same.0 ∙ c)
  hidden_by (b ∷ bs) m x (inr later) c = or_true_second (covers w b.0 n) (is_hidden w bs n) (hidden_by bs m x later c)

  -- A prefix that no blocked one contains isn't hidden.
  pub visible_by : (bs : List (Net × Unit {0})) → ((m : Net) (x : Unit {0}) → Within bs m x → covers w m n ≡ true → ⊥) → is_hidden w bs n ≡ false
  unfolding Within
  visible_by [] none = refl
  visible_by (b ∷ bs) none = by (covers w b.0 n) refl (visible_by bs (λ m x here c. none m x (inr here) c))
    where
      by : (t : Bool) → covers w b.0 n ≡ t → is_hidden w bs n ≡ false → (t || is_hidden w bs n) ≡ false
      by true is rest = absurd (none b.0 b.1 (inl (refl, refl)) is)
      by false is rest = rest

-- ---- the best of a family

-- What an option that is chained has comes from what it had.
pub from_some : {A B : Type 0} (f : A → Option B) (o : Option A) (y : B) → option_and_then f o ≡ Some y → (x : A) × (o ≡ Some x) × (f x ≡ Some y)
from_some f None y h = absurd (let never : None ≡ Some y = h in cc)
from_some f (Some x) y h = (x, refl, h)

shorter_or : (a b : ℕ) → a ≤ b → (a < b) ⊎ (a ≡ b)
shorter_or a b h = by (grind arith)
  where
    by : (a < b) ⊎ (a ≡ b) → (a < b) ⊎ (a ≡ b)
    by e = e

module _ (w : ℕ) (ps : List (Net × List (ℕ × Hop))) (bs : List (Net × Unit {0})) (address : Net)
    (all visible : Net → List (ℕ × Hop) → Type 0) (hidden : Net → Unit {0} → Type 0)
    (all_are : SamePairs all (Within ps)) (hidden_are : SamePairs hidden (Within bs))
    (visible_are : SamePairs visible (λ n es. all n es × ((m : Net) × ((covers w m n ≡ true) × ((x : Unit {0}) × hidden m x)) → ⊥))) where
  -- A visible prefix is one of the family, and not hidden.
  seen : (n : Net) (es : List (ℕ × Hop)) → visible n es → Within ps n es × (is_hidden w bs n ≡ false)
  seen n es h =
      let both = (visible_are n es).0 h in
      ((all_are n es).0 both.0, visible_by w n bs (λ m x here c. both.1 (m, (c, (x, (hidden_are m x).1 here)))))

  -- What may answer is visible.
  is_seen : (r : FamilyRoute) → MayAnswer w ps bs address r → (es : List (ℕ × Hop)) × visible r.net es × (value_at ps r.net ≡ Some es) × (hop_under es r.priority ≡ Some r.hop)
  is_seen r may =
      let had = from_some (λ es. hop_under es r.priority) (value_at ps r.net) r.hop may.there in
      let shown = (visible_are r.net had.0).1 (
        (all_are r.net had.0).1 (value_within ps r.net had.0 had.1),
        λ c. absurd (let yes = hidden_by w r.net bs c.0 c.1.1.0 ((hidden_are c.0 c.1.1.0).0 c.1.1.1) c.1.0 in
            let never : true ≡ false = sym yes ∙ may.visible in cc),
      ) in
      (had.0, shown, had.1, had.2)

  -- Where no visible prefix contains the address, nothing may answer.
  pub none_best : ((n : Net) (es : List (ℕ × Hop)) → visible n es → covers w n address ≡ true → ⊥) → IsBestIn w ps bs address None
  none_best none r may = let s = is_seen r may in none r.net s.0 s.1 may.contains

  -- The first route of the longest visible prefix is the best.
  pub first_best : AreNets w ps → (n : Net) (es : List (ℕ × Hop)) (priority : ℕ) (hop : Hop) → visible n es → covers w n address ≡ true
      → ((m : Net) (fs : List (ℕ × Hop)) → visible m fs → covers w m address ≡ true → m.len ≤ n.len)
      → hop_under es priority ≡ Some hop → ((p : ℕ) (h : Hop) → hop_under es p ≡ Some h → priority ≤ p)
      → IsBestIn w ps bs address (Some (record { net = n; priority = priority; hop = hop }))
  first_best ok n es priority hop here contains longest first least = (
    record {
      there = ap (option_and_then (λ e. hop_under e priority)) there ∙ first;
      contains = contains;
      visible = (seen n es here).1;
    },
    λ r may. let s = is_seen r may in against r s (shorter_or r.net.len n.len (longest r.net s.0 s.1 may.contains)) may,
  )
    where
      there : value_at ps n ≡ Some es
      there = value_there w ps ok n es (seen n es here).0

      against : (r : FamilyRoute) → (fs : List (ℕ × Hop)) × visible r.net fs × (value_at ps r.net ≡ Some fs) × (hop_under fs r.priority ≡ Some r.hop)
          → (r.net.len < n.len) ⊎ (r.net.len ≡ n.len) → MayAnswer w ps bs address r → (r.net.len < n.len) ⊎ ((r.net.len ≡ n.len) × (priority ≤ r.priority))
      against r s (inl shorter) may = inl shorter
      against r s (inr same) may =
          let bits : r.net.bits ≡ n.bits = sym (covers_bits w r.net address may.contains) ∙ ap (masked w address.bits) same ∙ covers_bits w n address contains in
          let net : r.net ≡ n = λ i. record { bits = bits i; len = same i } in
          let list : s.0 ≡ es = some_inside s.0 es (sym s.2 ∙ ap (value_at ps) net ∙ there) in
          inr (same, least r.priority r.hop (ap (λ fs. hop_under fs r.priority) (sym list) ∙ s.3))
