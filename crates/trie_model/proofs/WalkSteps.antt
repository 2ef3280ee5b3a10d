-- What one step of a walk does to the stack.
use Rattle.std.proofs.Common.{◌≡◌, ℕ, ◌+◌, ◌<◌, sym, ap, subst, refl, arith, Bool, true, false, List, [], ◌∷◌, ◌++◌, inl}
use Rattle.std.specs.Prelude.{◌↔◌}
use Rattle.std.specs.Int.{bit_at}
use Rattle.trie_model.specs.Nets.{Net, covers}
use Rattle.trie_model.specs.Views.{data_net, child_net, same_net, ViewValue, TookData, TookChild, IsChild}
use Rattle.trie_model.proofs.Places.{not_true}
use Rattle.trie_model.specs.Spots.{order_key}
use Rattle.trie_model.proofs.TrieLaws.{same_back}
use Rattle.trie_model.specs.Walks.{Left, Sorted, Ahead, LevelOk, EachOk, WalkOk, Gives}
use Rattle.trie_model.proofs.WalkLaws.{left_top, left_under, left_cases, either, sorted_push, sorted_under, sorted_top, ahead_end, data_first, child_first}

-- Each level may be walked on, with one pushed that may.
pub each_push : {L X : Type 0} (good : L → Type 0) (tell : L → ViewValue X) (spot : L → ℕ) (w : ℕ) (ls : List L) (l : L) → EachOk good tell spot w ls → LevelOk good tell spot w l → EachOk good tell spot w (ls ++ l ∷ [])
unfolding EachOk
each_push good tell spot w [] l h k = (k, tt)
each_push good tell spot w (a ∷ tail) l h k = (h.0, each_push good tell spot w tail l h.1 k)

-- Each level below the top may be walked on.
pub each_under : {L X : Type 0} (good : L → Type 0) (tell : L → ViewValue X) (spot : L → ℕ) (w : ℕ) (ls : List L) (l : L) → EachOk good tell spot w (ls ++ l ∷ []) → EachOk good tell spot w ls
unfolding EachOk
each_under good tell spot w [] l h = tt
each_under good tell spot w (a ∷ tail) l h = (h.0, each_under good tell spot w tail l h.1)

-- The top level may be walked on.
pub each_top : {L X : Type 0} (good : L → Type 0) (tell : L → ViewValue X) (spot : L → ℕ) (w : ℕ) (ls : List L) (l : L) → EachOk good tell spot w (ls ++ l ∷ []) → LevelOk good tell spot w l
unfolding EachOk
each_top good tell spot w [] l h = h.0
each_top good tell spot w (a ∷ tail) l h = each_top good tell spot w tail l h.1

-- ---- a level that is done

-- A stack without a top level that is done gives the same pairs.
pub walk_pop : {L X : Type 0} (good : L → Type 0) (tell : L → ViewValue X) (spot : L → ℕ) (w : ℕ) (ls : List L) (l : L) → WalkOk good tell spot w
    (ls ++ l ∷ []) → spot l ≡ 64 → WalkOk good tell spot w ls × ((n : Net) (x : X) → Left tell ls n x ↔ Left tell (ls ++ l ∷ []) n x)
walk_pop good tell spot w ls l ok e =
    let top = each_top good tell spot w ls l ok.each in (
      record { each = each_under good tell spot w ls l ok.each; sorted = sorted_under w tell ls l ok.sorted },
      λ n x. (left_under tell ls l n x, λ h. either (λ k. k) (λ k. absurd (ahead_end w (tell l) top.view (subst (Ahead w (tell l)) e top.ahead) n x k)) (left_cases tell ls l n x h)),
    )

-- ---- a level with fewer pairs

-- A sorted stack stays sorted where its top has fewer pairs.
pub sorted_less : {L X : Type 0} (w : ℕ) (tell : L → ViewValue X) (ls : List L) (l u : L) → Sorted w tell (ls ++ l ∷ []) → ((n : Net) (x : X) → (tell u).at n x → (tell l).at n x) → Sorted w tell (ls ++ u ∷ [])
sorted_less w tell ls l u s less = sorted_push w tell ls u (sorted_under w tell ls l s) (λ n m x y p q. sorted_top w tell ls l s n m x y (less n x p) q)

-- A stack may be walked on where its top has fewer pairs.
pub walk_on : {L X : Type 0} (good : L → Type 0) (tell : L → ViewValue X) (spot : L → ℕ) (w : ℕ) (ls : List L) (l u : L) → WalkOk good tell spot w
    (ls ++ l ∷ []) → LevelOk good tell spot w u → ((n : Net) (x : X) → (tell u).at n x → (tell l).at n x) → WalkOk good tell spot w (ls ++ u ∷ [])
walk_on good tell spot w ls l u ok level less = record {
  each = each_push good tell spot w ls u (each_under good tell spot w ls l ok.each) level;
  sorted = sorted_less w tell ls l u ok.sorted less;
}

-- ---- an item is given

apart : (w : ℕ) (n m : Net) → order_key w n < order_key w m → same_net n m ≡ false
apart w n m lt = not_true _ (λ t. let e = ap (order_key w) (same_back n m t) in let no : ⊥ = omega arith in no)

-- The pair at the top level's spot is the first that is left.
pub walk_item : {L X : Type 0} (good : L → Type 0) (tell : L → ViewValue X) (spot : L → ℕ) (w : ℕ) (ls : List L) (l u : L) (bit : ℕ) (x : X) → WalkOk
    good tell spot w (ls ++ l ∷ []) → bit < 31 → spot l ≡ bit + 1 → (tell l).at (data_net w (tell l).place bit) x → TookData w bit (tell l) (tell u)
    → Gives w tell (ls ++ l ∷ []) (ls ++ u ∷ []) (data_net w (tell l).place bit) x
walk_item {L} {X} good tell spot w ls l u bit x ok lt e at took =
    let n : Net = data_net w (tell l).place bit in
    let top = each_top good tell spot w ls l ok.each in
    let least : (m : Net) (y : X) → Left tell (ls ++ u ∷ []) m y → order_key w n < order_key w m = λ m y h. either
    (λ k. sorted_top w tell ls l ok.sorted n m x y at k)
    (λ k. data_first w (spot l) bit (tell l) (tell u) top.view top.ahead e lt took m x y at k) (left_cases tell ls u m y h) in
    record {
      had = left_top tell ls l n x at;
      least = least;
      others = λ m y. (
        (λ h. (either (left_under tell ls l m y) (λ k. left_top tell ls l m y ((took.at m y).0 k).0) (left_cases tell ls u m y h), apart w n m (least m y h))),
        (λ h. either (left_under tell ls u m y) (λ k. left_top tell ls u m y ((took.at m y).1 (k, h.1))) (left_cases tell ls l m y h.0)),
      );
    }

-- ---- a child is gone into

-- What follows whether a test holds or not follows.
pub by_covers : {A : Type 0} (b : Bool) → (b ≡ true → A) → (b ≡ false → A) → A
by_covers true f g = f refl
by_covers false f g = g refl

-- A stack with the child at the top level's spot pushed gives the same pairs.
pub walk_child : {L X : Type 0} (good : L → Type 0) (tell : L → ViewValue X) (spot : L → ℕ) (w : ℕ) (ls : List L) (l u c : L) (bit : ℕ) → WalkOk good
    tell spot w (ls ++ l ∷ []) → bit < 32 → spot l ≡ 32 + bit → bit_at (tell l).child_bits bit ≡ 1 → IsChild w bit (tell l) (tell c) → TookChild w bit
    (tell l) (tell u) → LevelOk good tell spot w u → LevelOk good tell spot w c → WalkOk good tell spot w ((ls ++ u ∷ []) ++ c ∷ [])
    × ((n : Net) (x : X) → Left tell ((ls ++ u ∷ []) ++ c ∷ []) n x ↔ Left tell (ls ++ l ∷ []) n x)
walk_child good tell spot w ls l u c bit ok lt e set is took level child =
    let top = each_top good tell spot w ls l ok.each in
    let mid = walk_on good tell spot w ls l u ok level (λ n x h. ((took.at n x).0 h).0) in (
      record {
        each = each_push good tell spot w (ls ++ u ∷ []) c mid.each child;
        sorted = sorted_push w tell (ls ++ u ∷ []) c mid.sorted (λ n m x y p q. either
            (λ k. sorted_top w tell ls l ok.sorted n m x y ((is.at n x).0 p).0 k)
            (λ k. child_first w (spot l) bit (tell l) (tell u) (tell c) top.view top.ahead e lt set is took n m x y p k)
            (left_cases tell ls u m y q));
      },
      λ n x. (
        (λ h. either
            (λ k. either (left_under tell ls l n x) (λ j. left_top tell ls l n x ((took.at n x).0 j).0) (left_cases tell ls u n x k))
            (λ k. left_top tell ls l n x ((is.at n x).0 k).0)
            (left_cases tell (ls ++ u ∷ []) c n x h)),
        (λ h. either
            (λ k. left_under tell (ls ++ u ∷ []) c n x (left_under tell ls u n x k))
            (λ k. by_covers (covers w (child_net w (tell l).place bit) n)
            (λ t. left_top tell (ls ++ u ∷ []) c n x ((is.at n x).1 (k, t)))
            (λ f. left_under tell (ls ++ u ∷ []) c n x (left_top tell ls u n x ((took.at n x).1 (k, f)))))
            (left_cases tell ls l n x h)),
      ),
    )

-- ---- the list

-- What was left before is what was left at first.
pub gives_from : {L X : Type 0} (w : ℕ) (tell : L → ViewValue X) (old mid new : List L) (n : Net) (x : X) → ((m : Net) (y : X) → Left tell mid m y ↔ Left tell old m y) → Gives w tell mid new n x → Gives w tell old new n x
gives_from w tell old mid new n x same h = record {
  had = (same n x).0 h.had;
  least = h.least;
  others = λ m y. ((λ a. let b = (h.others m y).0 a in ((same m y).0 b.0, b.1)), (λ a. (h.others m y).1 ((same m y).1 a.0, a.1)));
}

-- A stack with nothing.
pub walk_empty : {L X : Type 0} (good : L → Type 0) (tell : L → ViewValue X) (spot : L → ℕ) (w : ℕ) (ls : List L) → ls ≡ [] → WalkOk good tell spot w ls × ((n : Net) (x : X) → Left tell ls n x → ⊥)
unfolding EachOk Sorted Left
walk_empty {L} {X} good tell spot w ls e = subst (λ o. WalkOk good tell spot w o × ((n : Net) (x : X) → Left tell o n x → ⊥)) (sym e) (record { each = tt; sorted = tt }, λ n x h. h)

-- A stack of one view.
pub walk_one : {L X : Type 0} (good : L → Type 0) (tell : L → ViewValue X) (spot : L → ℕ) (w : ℕ) (ls : List L) (l : L) → ls ≡ l ∷ [] → LevelOk good
    tell spot w l → WalkOk good tell spot w ls × ((n : Net) (x : X) → Left tell ls n x ↔ (tell l).at n x)
unfolding EachOk Sorted Left
walk_one {L} {X} good tell spot w ls l e ok = subst (λ o. WalkOk good tell spot w o × ((n : Net) (x : X) → Left tell o n x ↔ (tell l).at n x)) (sym e)
    (record { each = (ok, tt); sorted = ((λ n m x y h k. absurd h), tt) }, λ n x. ((λ h. either (λ a. a) (λ b. absurd b) h), (λ h. inl h)))

-- A level pushed on an empty stack is the only one.
pub one_pushed : {L : Type 0} (new old : List L) (l : L) → new ≡ old ++ l ∷ [] → old ≡ [] → new ≡ l ∷ []
one_pushed new old l e z = subst (λ o. new ≡ o ++ l ∷ []) z e
