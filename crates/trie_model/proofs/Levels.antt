-- The steps of the stack, from the equations that the code gives.
use Rattle.std.proofs.Common.{◌≡◌, ℕ, ◌+◌, ◌<◌, sym, subst, List, [], ◌∷◌, ◌++◌}
use Rattle.std.specs.Prelude.{◌↔◌}
use Rattle.std.specs.Int.{bit_at}
use Rattle.trie_model.specs.Nets.{Net}
use Rattle.trie_model.specs.Views.{data_net, ViewValue, TookData, TookChild, IsChild}
use Rattle.trie_model.specs.Walks.{Left}
use Rattle.trie_model.proofs.WalkLaws.{left_top, left_under, left_cases, either}
use Rattle.trie_model.specs.Walks.{LevelOk, WalkOk, EachOk, Gives}
use Rattle.trie_model.proofs.WalkSteps.{each_top, walk_pop, walk_on, walk_item, walk_child}

-- The top level of a stack that may be walked on may be walked on.
pub top_of : {L X : Type 0} (good : L → Type 0) (tell : L → ViewValue X) (spot : L → ℕ) (w : ℕ) (old ls : List L) (l : L) → old ≡ ls ++ l ∷ [] → WalkOk good tell spot w old → LevelOk good tell spot w l
top_of good tell spot w old ls l e ok = each_top good tell spot w ls l (subst (EachOk good tell spot w) e ok.each)

-- A stack without a top level that is done gives the same pairs.
pub popped : {L X : Type 0} (good : L → Type 0) (tell : L → ViewValue X) (spot : L → ℕ) (w : ℕ) (old ls : List L) (l : L) → old ≡ ls ++ l ∷ []
    → WalkOk good tell spot w old → spot l ≡ 64 → WalkOk good tell spot w ls × ((n : Net) (x : X) → Left tell ls n x ↔ Left tell old n x)
popped good tell spot w old ls l e ok done =
    let was = walk_pop good tell spot w ls l (subst (WalkOk good tell spot w) e ok) done in
    (was.0, λ n x. subst (λ o. Left tell ls n x ↔ Left tell o n x) (sym e) (was.1 n x))

-- A stack whose top level moved past a spot with nothing gives the same pairs.
pub went_on : {L X : Type 0} (good : L → Type 0) (tell : L → ViewValue X) (spot : L → ℕ) (w : ℕ) (old new ls : List L) (l u : L) → old ≡ ls ++ l ∷ []
    → new ≡ ls ++ u ∷ [] → WalkOk good tell spot w old → LevelOk good tell spot w u → ((n : Net) (x : X) → (tell u).at n x ↔ (tell l).at n x) → WalkOk
    good tell spot w new × ((n : Net) (x : X) → Left tell new n x ↔ Left tell old n x)
went_on good tell spot w old new ls l u e f ok level same = (
  subst (WalkOk good tell spot w) (sym f) (walk_on good tell spot w ls l u (subst (WalkOk good tell spot w) e ok) level (λ n x. (same n x).0)),
  λ n x. subst (λ o. Left tell new n x ↔ Left tell o n x) (sym e) (subst (λ o. Left tell o n x ↔ Left tell (ls ++ l ∷ []) n x) (sym f) (
    (λ h. either (left_under tell ls l n x) (λ k. left_top tell ls l n x ((same n x).0 k)) (left_cases tell ls u n x h)),
    (λ h. either (left_under tell ls u n x) (λ k. left_top tell ls u n x ((same n x).1 k)) (left_cases tell ls l n x h)),
  )),
)

-- A stack whose top level gave the item of its spot gives that pair first, and then the rest.
pub gave : {L X : Type 0} (good : L → Type 0) (tell : L → ViewValue X) (spot : L → ℕ) (w : ℕ) (old new ls : List L) (l u : L) (bit : ℕ) (x : X) → old
    ≡ ls ++ l ∷ [] → new ≡ ls ++ u ∷ [] → WalkOk good tell spot w old → LevelOk good tell spot w u → bit < 31 → spot l ≡ bit + 1 → (tell l).at
    (data_net w (tell l).place bit) x → TookData w bit (tell l) (tell u) → WalkOk good tell spot w new × Gives w tell old new
    (data_net w (tell l).place bit) x
gave good tell spot w old new ls l u bit x e f ok level lt is at took =
    let was = subst (WalkOk good tell spot w) e ok in
    let n : Net = data_net w (tell l).place bit in (
      subst (WalkOk good tell spot w) (sym f) (walk_on good tell spot w ls l u was level (λ m y h. ((took.at m y).0 h).0)),
      subst (λ o. Gives w tell o new n x) (sym e) (subst (λ o. Gives w tell (ls ++ l ∷ []) o n x) (sym f) (walk_item good tell spot w ls l u bit x was lt is at took)),
    )

-- A stack with the child of the top level's spot pushed gives the same pairs.
pub went_down : {L X : Type 0} (good : L → Type 0) (tell : L → ViewValue X) (spot : L → ℕ) (w : ℕ) (old mid new ls : List L) (l u c : L) (bit : ℕ)
    → old ≡ ls ++ l ∷ [] → mid ≡ ls ++ u ∷ [] → new ≡ mid ++ c ∷ [] → WalkOk good tell spot w old → LevelOk good tell spot w u → LevelOk good tell
    spot w c → bit < 32 → spot l ≡ 32 + bit → bit_at (tell l).child_bits bit ≡ 1 → IsChild w bit (tell l) (tell c) → TookChild w bit (tell l) (tell u)
    → WalkOk good tell spot w new × ((n : Net) (x : X) → Left tell new n x ↔ Left tell old n x)
went_down good tell spot w old mid new ls l u c bit e f g ok level child lt is set child_is took =
    let both = walk_child good tell spot w ls l u c bit (subst (WalkOk good tell spot w) e ok) lt is set child_is took level child in
    let h : new ≡ (ls ++ u ∷ []) ++ c ∷ [] = subst (λ o. new ≡ o ++ c ∷ []) f g in (
      subst (WalkOk good tell spot w) (sym h) both.0,
      λ n x. subst (λ o. Left tell new n x ↔ Left tell o n x) (sym e) (subst (λ o. Left tell o n x ↔ Left tell (ls ++ l ∷ []) n x) (sym h) (both.1 n x)),
    )
