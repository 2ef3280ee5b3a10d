-- What a walk over a view has still to give, and the list that it gives.
use Rattle.std.specs.Prelude.{◌≡◌, ◌↔◌, ◌⊎◌, ⊤, zero, suc, ℕ, ◌+◌, ◌-◌, ◌*◌, ◌/◌, ◌^◌, ◌<◌, ◌≤◌, Bool, false, cond, leb, bit_and, List, [], ◌∷◌, IsTrue, map}
use Rattle.std.specs.Int.{bit_at}
use Rattle.trie_model.specs.Nets.{Net}
use Rattle.trie_model.specs.Views.{ViewValue, IsView, depth_at, same_net}
use Rattle.trie_model.specs.Spots.{ltb, rank_at, spot_of, order_key}

-- ---- what a stack has still to give

-- The pairs of the views of a stack.
unfoldable pub Left : {L X : Type 0} → (L → ViewValue X) → List L → Net → X → Type 0
Left tell [] n x = ⊥
Left tell (l ∷ ls) n x = (tell l).at n x ⊎ Left tell ls n x

-- What stands higher in the stack comes first.
unfoldable pub Sorted : {L X : Type 0} → ℕ → (L → ViewValue X) → List L → Type 0
Sorted w tell [] = ⊤
Sorted {L} {X} w tell (l ∷ ls) = ((n m : Net) (x y : X) → Left tell ls n x → (tell l).at m y → order_key w n < order_key w m) × Sorted w tell ls

-- No pair of the view lies before the spot.
unfoldable pub Ahead : {X : Type 0} → ℕ → ViewValue X → ℕ → Type 0
Ahead {X} w t h = (n : Net) (x : X) → t.at n x → rank_at h ≤ rank_at (spot_of w (depth_at t.place.len) n)

-- The bits below n whose test holds.
unfoldable pub bits_where : ℕ → (ℕ → Bool) → ℕ
bits_where zero f = 0
bits_where (suc n) f = bits_where n f + cond (f n) (2 ^ n) 0

-- The data bits from a spot on.
unfoldable pub data_from : ℕ → ℕ
data_from h = bits_where 31 (λ b. leb (rank_at h) (rank_at (b + 1)))

-- The children from a spot on.
unfoldable pub children_from : ℕ → ℕ
children_from h = bits_where 32 (λ c. leb (rank_at h) (rank_at (32 + c)))

-- The pairs of a view from a spot on.
abbrev pub rest : {X : Type 0} → ℕ → ViewValue X → ℕ → ViewValue X
rest w t h = record {
  place = t.place;
  data_bits = bit_and t.data_bits (data_from h);
  child_bits = bit_and t.child_bits (children_from h);
  at = λ n x. t.at n x × (rank_at h ≤ rank_at (spot_of w (depth_at t.place.len) n));
  frugal = t.frugal;
}

-- The prefix is this one or comes after it, or only the latter.
abbrev pub From : ℕ → Bool → Net → Net → Type 0
From w inclusive net n = order_key w net < order_key w n + cond inclusive 1 0

-- Exactly the pairs from a prefix on, or after it.
abbrev pub IsPartFrom : {X : Type 0} → ℕ → Bool → Net → (Net → X → Type 0) → (Net → X → Type 0) → Type 0
IsPartFrom {X} w inclusive net whole part = (n : Net) (x : X) → part n x ↔ (whole n x × From w inclusive net n)

-- The pairs from a prefix on came to those that were there.
abbrev pub GainsFrom : {X : Type 0} → ℕ → Bool → Net → (Net → X → Type 0) → (Net → X → Type 0) → (Net → X → Type 0) → Type 0
GainsFrom {X} w inclusive net at old new = (n : Net) (x : X) → new n x ↔ ((at n x × From w inclusive net n) ⊎ old n x)

-- Each of the first pairs comes before each of the others.
abbrev pub AllBefore : {X : Type 0} → ℕ → (Net → X → Type 0) → (Net → X → Type 0) → Type 0
AllBefore {X} w at others = (n m : Net) (x y : X) → at n x → others m y → order_key w n < order_key w m

-- A level of the stack.
pub record LevelOk {L X : Type 0} (good : L → Type 0) (tell : L → ViewValue X) (spot : L → ℕ) (w : ℕ) (l : L) : Type 0 where
  pub usable : good l
  pub view : IsView w (tell l)
  pub first : 1 ≤ spot l
  pub last : spot l ≤ 64
  pub ahead : Ahead w (tell l) (spot l)

-- Each level may be walked on.
unfoldable pub EachOk : {L X : Type 0} → (L → Type 0) → (L → ViewValue X) → (L → ℕ) → ℕ → List L → Type 0
EachOk good tell spot w [] = ⊤
EachOk good tell spot w (l ∷ ls) = LevelOk good tell spot w l × EachOk good tell spot w ls

-- A stack that may be walked on.
pub record WalkOk {L X : Type 0} (good : L → Type 0) (tell : L → ViewValue X) (spot : L → ℕ) (w : ℕ) (ls : List L) : Type 0 where
  pub each : EachOk good tell spot w ls
  pub sorted : Sorted w tell ls

-- n is the first of what is left, and the others stay.
pub record Gives {L X : Type 0} (w : ℕ) (tell : L → ViewValue X) (old new : List L) (n : Net) (x : X) : Type 0 where
  pub had : Left tell old n x
  pub least : (m : Net) (y : X) → Left tell new m y → order_key w n < order_key w m
  pub others : (m : Net) (y : X) → Left tell new m y ↔ (Left tell old m y × (same_net n m ≡ false))

-- The pair is one of the list.
unfoldable pub Within : {X : Type 0} → List (Net × X) → Net → X → Type 0
Within [] n x = ⊥
Within (p ∷ ps) n x = ((p.0 ≡ n) × (p.1 ≡ x)) ⊎ Within ps n x

-- Each pair of the list comes before those after it.
unfoldable pub Ascends : {X : Type 0} → ℕ → List (Net × X) → Type 0
Ascends w [] = ⊤
Ascends {X} w (p ∷ ps) = ((n : Net) (x : X) → Within ps n x → order_key w p.0 < order_key w n) × Ascends w ps

-- The list of the pairs of a relation, in order.
pub record IsListOf {X : Type 0} (w : ℕ) (at : Net → X → Type 0) (ps : List (Net × X)) : Type 0 where
  pub ascends : Ascends w ps
  pub same : (n : Net) (x : X) → Within ps n x ↔ at n x

-- The pairs of a list from a prefix on, or after it.
unfoldable pub pairs_from : {X : Type 0} → ℕ → Bool → Net → List (Net × X) → List (Net × X)
pairs_from w inclusive net [] = []
pairs_from w inclusive net (p ∷ ps) = cond (ltb (order_key w net) (order_key w p.0 + cond inclusive 1 0)) (p ∷ pairs_from w inclusive net ps) (pairs_from w inclusive net ps)

-- A list that begins with a pair and goes on with the list of a relation.
pub record ListGoesOn {X : Type 0} (w : ℕ) (at : Net → X → Type 0) (n : Net) (x : X) (ps qs : List (Net × X)) : Type 0 where
  pub begins : ps ≡ (n, x) ∷ qs
  pub list : IsListOf w at qs

-- How much walking a level has still to do at most: its spots, and those of each child.
unfoldable pub level_work : {L X : Type 0} → ℕ → (L → ViewValue X) → (L → ℕ) → L → ℕ
level_work w tell spot l = (197 - rank_at (spot l)) * 2 ^ (8 * ((w - depth_at (tell l).place.len) / 5 + 1)) + 1

-- The same of a stack.
unfoldable pub work : {L X : Type 0} → ℕ → (L → ViewValue X) → (L → ℕ) → List L → ℕ
work w tell spot [] = 0
work w tell spot (l ∷ ls) = level_work w tell spot l + work w tell spot ls

-- A fact of each level, with its place in the stack.
unfoldable pub EachFrom : {L : Type 0} → (ℕ → L → Type 0) → ℕ → List L → Type 0
EachFrom Q i [] = ⊤
EachFrom Q i (l ∷ ls) = Q i l × EachFrom Q (i + 1) ls

-- The levels stand at ever deeper nodes, and the stack has room for as many as there can be.
pub record Roomy {L X : Type 0} (w : ℕ) (tell : L → ViewValue X) (ls : List L) (capacity : ℕ) : Type 0 where
  pub room : w / 5 + 1 ≤ capacity
  pub deeper : EachFrom (λ i l. 5 * i ≤ (tell l).place.len) 0 ls

-- No view of the stack takes memory.
abbrev pub AllFrugal : {L X : Type 0} → (L → ViewValue X) → List L → Type 0
AllFrugal tell ls = EachFrom (λ i l. IsTrue (tell l).frugal) 0 ls

-- The pairs have only one list in order.
abbrev pub HasOneList : {X : Type 0} → ℕ → (Net → X → Type 0) → Type 0
HasOneList {X} w at = (ps qs : List (Net × X)) → IsListOf w at ps → IsListOf w at qs → ps ≡ qs

-- These values stand for the list of the pairs in order.
abbrev pub GivesListOf : {P T X : Type 0} → ℕ → (P → Net) → (T → X) → (Net → X → Type 0) → List (P × T) → Type 0
GivesListOf w net item at pairs = IsListOf w at (map (λ p. (net p.0, item p.1)) pairs)
