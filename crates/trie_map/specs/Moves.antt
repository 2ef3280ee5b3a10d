-- What one step of a walk does to the view that it stands in, and to the stack.
use Rattle.std.specs.Prelude.{◌≡◌, ℕ, ◌+◌, ◌-◌, ◌<◌, ◌≤◌, ◌↔◌, List}
use Rattle.std.specs.Int.{bit_at}
use Rattle.trie_model.specs.Nets.{Net}
use Rattle.trie_model.specs.Spots.{next_spot, rank_at}
use Rattle.trie_model.specs.Views.{ViewValue, data_net, TookData, TookChild, IsChild}
use Rattle.trie_model.specs.Walks.{Left, Gives, rest, work}
use Rattle.trie_map.specs.declared.walk.Step.{Step}
use Rattle.trie_map.specs.declared.walk.Step.TheVariants.{Done, Item, Child}
use Rattle.std.specs.declared.vec.Vec.{Vec}
use Rattle.std.specs.declared.alloc.Global.{Global}
use Rattle.trie_map.specs.declared.walk.Level.{Level}
use Rattle.trie_map.specs.declared.walk.Move.{Move}
use Rattle.trie_map.specs.declared.walk.Move.TheVariants.{End, On, Found}

-- Something stands at the spot, by the bits of a node.
abbrev pub IsSetAt : ℕ → ℕ → ℕ → Type 0
IsSetAt data_bits child_bits spot = (spot < 32 → bit_at data_bits (spot - 1) ≡ 1) × (32 ≤ spot → bit_at child_bits (spot - 32) ≡ 1)

-- Nothing stands at the spot, by the bits of a node.
abbrev pub IsClearAt : ℕ → ℕ → ℕ → Type 0
IsClearAt data_bits child_bits spot = (spot < 32 → bit_at data_bits (spot - 1) ≡ 1 → ⊥) × (32 ≤ spot → bit_at child_bits (spot - 32) ≡ 1 → ⊥)

-- The spot comes no earlier than the first, and nothing stands from the first on and before it.
pub record PassesTo (data_bits child_bits first spot : ℕ) : Type 0 where
  pub later : rank_at first ≤ rank_at spot
  pub clear : (k : ℕ) → 1 ≤ k → k < 64 → rank_at first ≤ rank_at k → rank_at k < rank_at spot → IsClearAt data_bits child_bits k

-- The same of the spots of a level, by the bits of its view.
abbrev pub LevelPassesTo : {V X : Type 0} → (V → ViewValue X) → Level V → ℕ → Type 0
LevelPassesTo tell level spot = PassesTo (tell level.view).data_bits (tell level.view).child_bits level.spot spot

-- The level gave the pair of this data bit, which it had first, and came to the spot after it.
pub record TakesItem {V X : Type 0} (tell : V → ViewValue X) (w : ℕ) (old new : Level V) (net : Net) (x : X) (bit : ℕ) : Type 0 where
  pub small : bit < 31
  pub passed : LevelPassesTo tell old (bit + 1)
  pub pair : (tell old.view).at (data_net w (tell old.view).place bit) x
  pub at : net ≡ data_net w (tell old.view).place bit
  pub took : TookData w bit (tell old.view) (tell new.view)
  pub next : new.spot ≡ next_spot (bit + 1)

-- The level gave the child of this bit, which it had first, and came to the spot after it.
pub record TakesChild {V X : Type 0} (valid : V → Type 0) (tell : V → ViewValue X) (w : ℕ) (old new : Level V) (child : V) (bit : ℕ) : Type 0 where
  pub small : bit < 32
  pub passed : LevelPassesTo tell old (32 + bit)
  pub set : bit_at (tell old.view).child_bits bit ≡ 1
  pub usable : valid child
  pub is : IsChild w bit (tell old.view) (tell child)
  pub took : TookChild w bit (tell old.view) (tell new.view)
  pub next : new.spot ≡ next_spot (32 + bit)

-- The level has nothing any more and is as before, or gave its first pair, or the child that has it.
abbrev pub StepOf : {V P T X : Type 0} → (V → Type 0) → (V → ViewValue X) → (T → X) → (P → Net) → (P → ℕ) → ℕ → Level V → Level V → Step P T V → Type 0
StepOf valid tell item net raw w old new Done = (new ≡ old) × LevelPassesTo tell old 64
StepOf valid tell item net raw w old new (Item p x) = (bit : ℕ) × (TakesItem tell w old new (net p) (item x) bit × (raw p ≡ (net p).bits))
StepOf valid tell item net raw w old new (Child c) = (bit : ℕ) × TakesChild valid tell w old new c bit

-- The end, or a step that leaves what is left, or the first pair of what is left.
abbrev pub MoveOf : {L P T X : Type 0} → (L → ViewValue X) → (T → X) → (P → Net) → (P → ℕ) → ℕ → List L → List L → Move P T → Type 0
MoveOf {L} {P} {T} {X} tell item net raw w old new End = (n : Net) (x : X) → Left tell old n x → ⊥
MoveOf {L} {P} {T} {X} tell item net raw w old new On = (n : Net) (x : X) → Left tell new n x ↔ Left tell old n x
MoveOf tell item net raw w old new (Found p x) = Gives w tell old new (net p) (item x) × (raw p ≡ (net p).bits)

-- A move leaves less to do, and at the end nothing is left to do.
abbrev pub Lessens : {L P T X : Type 0} → (L → ViewValue X) → (L → ℕ) → ℕ → List L → List L → Move P T → Type 0
Lessens tell spot w old new End = work w tell spot new ≡ 0
Lessens tell spot w old new On = work w tell spot new < work w tell spot old
Lessens tell spot w old new (Found p x) = work w tell spot new < work w tell spot old

-- ---- the same of a stack of levels

-- What a move does to what the stack has still to give.
abbrev pub StackMoves : {V P T X : Type 0} → (V → ViewValue X) → (T → X) → (P → Net) → (P → ℕ) → ℕ → Vec (Level V) Global → Vec (Level V) Global → Move P T → Type 0
StackMoves tell item net raw w old new move = MoveOf (λ l. rest w (tell l.view) l.spot) item net raw w old.items new.items move

-- What a move leaves to do.
abbrev pub StackLessens : {V P T X : Type 0} → (V → ViewValue X) → ℕ → Vec (Level V) Global → Vec (Level V) Global → Move P T → Type 0
StackLessens tell w old new move = Lessens (λ l. tell l.view) (λ l. l.spot) w old.items new.items move
