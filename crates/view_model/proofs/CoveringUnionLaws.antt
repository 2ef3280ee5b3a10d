-- The laws of a covering union from the laws of its sides.
use Rattle.std.proofs.Common.{◌≡◌, ℕ, ◌+◌, ◌<◌, ◌≤◌, ◌∙◌, sym, ap, subst, refl, arith, Bool, true, false, ◌&&◌, Option, inl, inr}
use Rattle.std.specs.Prelude.{IsTrue, ◌↔◌}
use Rattle.trie_model.specs.Nets.{Net, IsNet, covers}
use Rattle.trie_model.specs.Views.{depth_at, data_net, child_net, same_net, ViewValue, Has, IsView, TookData, TookChild, CanMove, Moved}
use Rattle.trie_model.proofs.Places.{and_left, and_right, both_hold, not_true, elim-false, covers_len, level_le}
use Rattle.trie_model.proofs.NodeLaws.{covers_trans, covers_between}
use Rattle.view_model.specs.Sides.{SideHasItem, IsUsableSide, IsAlignedSide, IsInnerSide, side_frugal, SideSplit, SideMoved}
use Rattle.view_model.specs.Union.{union_at, union_told, SideTook}
use Rattle.view_model.specs.CoveringUnion.{Longest, InNode, AsEntered, EnteredSide, covering_at, covering_told}
use Rattle.view_model.specs.declared.items.UnionItem.{UnionItem}
use Rattle.view_model.specs.declared.items.UnionItem.TheVariants as U
use Rattle.view_model.specs.declared.items.CoveringUnionItem.{CoveringUnionItem}
use Rattle.view_model.specs.declared.items.CoveringUnionItem.TheVariants.{Left, Right, Both}
use Rattle.view_model.proofs.Bits.{either}
use Rattle.view_model.proofs.SideLaws.{side_one, side_valid, in_valid}
use Rattle.view_model.proofs.SideMoves.{net_eq}
use Rattle.view_model.proofs.UnionLaws.{union_laws, union_took, union_moved, union_took_child}
use Rattle.view_model.proofs.LongestLaws.{longest_same, longest_alike, longest_one, node_exists}

-- ---- the laws

-- A prefix has one item among the pairs of a side as it was entered.
pub entered_one : {V Y : Type 0} (w : ℕ) (valid : V → Type 0) (tell : V → ViewValue Y) (law : (v : V) → valid v →
    IsView w (tell v)) (all side : Option V) (d : ℕ) → IsUsableSide valid all → IsUsableSide valid side → (m : Net) (x y : Y) →
    AsEntered tell all side d m x → AsEntered tell all side d m y → x ≡ y
entered_one w valid tell law all side d oka oks m x y (inl p) (inl q) = side_one w valid tell law all oka m x y p.1 q.1
entered_one w valid tell law all side d oka oks m x y (inl p) (inr q) = absurd (let a = p.0 in let b = q.0 in let no' : ⊥ = omega (arith, a, b) in no')
entered_one w valid tell law all side d oka oks m x y (inr p) (inl q) = absurd (let a = p.0 in let b = q.0 in let no' : ⊥ = omega (arith, a, b) in no')
entered_one w valid tell law all side d oka oks m x y (inr p) (inr q) = side_one w valid tell law side oks m x y p.1 q.1

-- A short prefix is contained in pairs of the node alone.
pub longest_node : {V Y : Type 0} (w : ℕ) (tell : V → ViewValue Y) (all side : Option V) (d : ℕ) (above : Option (Net × Y)) (n : Net) → n.len < d + 5 →
    (l : Option (Net × Y)) → Longest w (InNode tell all d) above n l → Longest w (AsEntered tell all side d) above n l
longest_node {V} {Y} w tell all side d above n short l h =
    longest_same w (InNode tell all d) (AsEntered tell all side d) above n (λ m y c. (
      inl,
      either (λ a. a) (λ a. absurd (let le = covers_len w m n c in let ge = a.0 in let no' : ⊥ = omega (arith, le, ge, short) in no')),
    )) l h

data_short : (w : ℕ) (place : Net) (bit : ℕ) → (data_net w place bit).len < depth_at place.len + 5
data_short w place bit = let l = level_le bit in omega (arith, l)

-- The union's pair of a covering union's.
plain_at : {A B X Y : Type 0} (w : ℕ) (ta : A → ViewValue X) (tb : B →
    ViewValue Y) (d : ℕ) (a : Option A) (b : Option B) (oa : EnteredSide A X) (ob : EnteredSide B Y) (n : Net) (z : CoveringUnionItem Net X Y) →
    covering_at w ta tb d a b oa ob n z → (u : UnionItem X Y) × union_at ta tb a b n u
plain_at w ta tb d a b oa ob n (Left x l) h = (U.Left x, h.0)
plain_at w ta tb d a b oa ob n (Right l y) h = (U.Right y, h.0)
plain_at w ta tb d a b oa ob n (Both x y) h = (U.Both x y, h)

one_of : {A B X Y : Type 0} (w : ℕ) (ta : A → ViewValue X) (tb : B →
    ViewValue Y) (d : ℕ) (a : Option A) (b : Option B) (oa : EnteredSide A X) (ob : EnteredSide B Y) →
    ((n : Net) (x y : X) → SideHasItem ta a n x → SideHasItem ta a n y → x ≡ y) →
    ((n : Net) (x y : Y) → SideHasItem tb b n x → SideHasItem tb b n y → x ≡ y) →
    ((m : Net) (x y : X) → AsEntered ta oa.all a d m x → AsEntered ta oa.all a d m y → x ≡ y) →
    ((m : Net) (x y : Y) → AsEntered tb ob.all b d m x → AsEntered tb ob.all b d m y → x ≡ y) → (n : Net) (z u : CoveringUnionItem Net X Y) →
    covering_at w ta tb d a b oa ob n z → covering_at w ta tb d a b oa ob n u → z ≡ u
one_of {A} {B} {X} {Y} w ta tb d a b oa ob f g sa sb n (Left x l) (Left y k) p q =
    let c : X → Option (Net × Y) → CoveringUnionItem Net X Y = λ v o. Left v o in
    ap (λ v. c v l) (f n x y p.0.0 q.0.0) ∙ ap (c y) (longest_one w (AsEntered tb ob.all b d) ob.above n sb l k p.1 q.1)
one_of w ta tb d a b oa ob f g sa sb n (Left x l) (Right k y) p q = absurd (p.0.1 (y, q.0.0))
one_of w ta tb d a b oa ob f g sa sb n (Left x l) (Both u v) p q = absurd (p.0.1 (v, q.1))
one_of w ta tb d a b oa ob f g sa sb n (Right l y) (Left x k) p q = absurd (p.0.1 (x, q.0.0))
one_of {A} {B} {X} {Y} w ta tb d a b oa ob f g sa sb n (Right l x) (Right k y) p q =
    let c : Option (Net × X) → Y → CoveringUnionItem Net X Y = λ o v. Right o v in
    ap (c l) (g n x y p.0.0 q.0.0) ∙ ap (λ o. c o y) (longest_one w (AsEntered ta oa.all a d) oa.above n sa l k p.1 q.1)
one_of w ta tb d a b oa ob f g sa sb n (Right l y) (Both u v) p q = absurd (p.0.1 (u, q.0))
one_of w ta tb d a b oa ob f g sa sb n (Both u v) (Left x l) p q = absurd (q.0.1 (v, p.1))
one_of w ta tb d a b oa ob f g sa sb n (Both u v) (Right l y) p q = absurd (q.0.1 (u, p.0))
one_of {A} {B} {X} {Y} w ta tb d a b oa ob f g sa sb n (Both u v) (Both s t) p q =
    let c : X → Y → CoveringUnionItem Net X Y = λ l r. Both l r in
    ap (λ l. c l v) (f n u s p.0 q.0) ∙ ap (c s) (g n v t p.1 q.1)

-- A covering union keeps the laws of views where both sides do.
pub covering_laws : {A B X Y : Type 0} (w : ℕ) (va : A → Type 0) (ta : A → ViewValue X) (la : (v : A) → va v → IsView w (ta v)) (vb : B → Type 0) (tb : B →
    ViewValue Y) (lb : (v : B) → vb v → IsView w (tb v)) (place : Net) (a : Option A) (b : Option B) (oa : EnteredSide A X) (ob : EnteredSide B Y) →
    IsNet w place → IsInnerSide va ta w place a → IsInnerSide vb tb w place b → IsAlignedSide va ta w place oa.all →
    IsAlignedSide vb tb w place ob.all → IsView w (covering_told w ta tb place a b oa ob)
covering_laws {A} {B} {X} {Y} w va ta la vb tb lb place a b oa ob net ina inb oka okb = record {
  place_ok = base.place_ok;
  data_fit = base.data_fit;
  children_fit = base.children_fit;
  pairs = λ n z h. let u = plain_at w ta tb d a b oa ob n z h in base.pairs n u.0 u.1;
  one = one_of w ta tb d a b oa ob (side_one w va ta la a (in_valid w va ta place a ina)) (side_one w vb tb lb b (in_valid w vb tb place b inb))
      (entered_one w va ta la oa.all a d (side_valid w va ta place oa.all oka) (in_valid w va ta place a ina))
      (entered_one w vb tb lb ob.all b d (side_valid w vb tb place ob.all okb) (in_valid w vb tb place b inb));
  told = λ bit lt h. let u = base.told bit lt h in whole bit lt u.0 u.1;
  untold = λ bit z lt h. let u = plain_at w ta tb d a b oa ob (data_net w place bit) z h in base.untold bit u.0 lt u.1;
  below = λ n z h deep. let u = plain_at w ta tb d a b oa ob n z h in base.below n u.0 u.1 deep;
  deep = base.deep;
}
  where
    d : ℕ
    d = depth_at place.len

    base : IsView w (union_told w ta tb place a b)
    base = union_laws w va ta la vb tb lb place a b net ina inb

    whole : (bit : ℕ) → bit < 31 → (u : UnionItem X Y) → union_at ta tb a b (data_net w place bit) u →
        Has (covering_told w ta tb place a b oa ob) (data_net w place bit)
    whole bit lt (U.Left x) h =
        let l = node_exists w vb tb lb place ob.all ob.above bit okb lt (base.pairs _ (U.Left x) h).0.len_fits in
        (Left x l.0, (h, longest_node w tb ob.all b (depth_at place.len) ob.above (data_net w place bit) (data_short w place bit) l.0 l.1))
    whole bit lt (U.Right y) h =
        let l = node_exists w va ta la place oa.all oa.above bit oka lt (base.pairs _ (U.Right y) h).0.len_fits in
        (Right l.0 y, (h, longest_node w ta oa.all a (depth_at place.len) oa.above (data_net w place bit) (data_short w place bit) l.0 l.1))
    whole bit lt (U.Both x y) h = (Both x y, h)

-- ---- what is left

-- A covering union keeps the same pairs where its union does.
pub covering_narrow : {A B X Y : Type 0} (w : ℕ) (ta : A → ViewValue X) (tb : B →
    ViewValue Y) (d d' : ℕ) (a a' : Option A) (b b' : Option B) (oa oa' : EnteredSide A X) (ob ob' : EnteredSide B Y) (Out : Net → Type 0) →
    ((n : Net) (u : UnionItem X Y) → union_at ta tb a b n u → n.len ≤ w) →
    ((n : Net) (u : UnionItem X Y) → union_at ta tb a' b' n u ↔ (union_at ta tb a b n u × Out n)) →
    ((n : Net) → n.len ≤ w → Out n → (l : Option (Net × X)) → Longest w (AsEntered ta oa'.all a' d') oa'.above n l ↔
    Longest w (AsEntered ta oa.all a d) oa.above n l) →
    ((n : Net) → n.len ≤ w → Out n → (l : Option (Net × Y)) → Longest w (AsEntered tb ob'.all b' d') ob'.above n l ↔
    Longest w (AsEntered tb ob.all b d) ob.above n l) → (n : Net) (z : CoveringUnionItem Net X Y) → covering_at w ta tb d' a' b' oa' ob' n z ↔
    (covering_at w ta tb d a b oa ob n z × Out n)
covering_narrow w ta tb d d' a a' b b' oa oa' ob ob' Out fits u f g n (Left x l) = (
  (λ h. let p = (u n (U.Left x)).0 h.0 in ((p.0, (g n (fits n (U.Left x) p.0) p.1 l).0 h.1), p.1)),
  (λ h. ((u n (U.Left x)).1 (h.0.0, h.1), (g n (fits n (U.Left x) h.0.0) h.1 l).1 h.0.1)),
)
covering_narrow w ta tb d d' a a' b b' oa oa' ob ob' Out fits u f g n (Right l y) = (
  (λ h. let p = (u n (U.Right y)).0 h.0 in ((p.0, (f n (fits n (U.Right y) p.0) p.1 l).0 h.1), p.1)),
  (λ h. ((u n (U.Right y)).1 (h.0.0, h.1), (f n (fits n (U.Right y) h.0.0) h.1 l).1 h.0.1)),
)
covering_narrow w ta tb d d' a a' b b' oa oa' ob ob' Out fits u f g n (Both x y) = u n (U.Both x y)

front_frugal : (a b c : Bool) → (IsTrue a → IsTrue b) → IsTrue (a && c) → IsTrue (b && c)
front_frugal a b c p h = both_hold b c (p (and_left a c h)) (and_right a c h)

-- What a side has below the node stays, where a data bit of the node is taken.
entered_took : {V Y : Type 0} (w bit : ℕ) (tell : V → ViewValue Y) (place : Net) (all side side' : Option V) →
    ((n : Net) (y : Y) → SideHasItem tell side' n y ↔ (SideHasItem tell side n y × (same_net (data_net w place bit) n ≡ false))) → (m : Net) (y : Y) →
    AsEntered tell all side' (depth_at place.len) m y ↔ AsEntered tell all side (depth_at place.len) m y
entered_took {V} {Y} w bit tell place all side side' f m y = (
  either inl (λ h. inr (h.0, ((f m y).0 h.1).0)),
  either inl (λ h. inr (
    h.0,
    (f m y).1 (
      h.1,
      not_true _ (λ e. let q = ap (λ p. p.len) (net_eq (data_net w place bit) m e) in let s =
          data_short w place bit in let ge = h.0 in let no' : ⊥ = omega (arith, q, s, ge) in no'),
    ),
  )),
)

-- A pair taken out of both sides is taken out of the covering union.
pub covering_took : {A B S T X Y : Type 0} (w bit : ℕ) (va : A → Type 0) (ta : A → ViewValue X) (ia : S → X) (vb : B → Type 0) (tb : B → ViewValue Y) (ib : T →
    Y) (place : Net) (a a' : Option A) (b b' : Option B) (oa : EnteredSide A X) (ob : EnteredSide B Y) (x : Option S) (y : Option T) →
    IsView w (union_told w ta tb place a b) → SideTook va ta ia w place bit a a' x → SideTook vb tb ib w place bit b b' y →
    TookData w bit (covering_told w ta tb place a b oa ob) (covering_told w ta tb place a' b' oa ob)
covering_took w bit va ta ia vb tb ib place a a' b b' oa ob x y base p q =
    let took = union_took w bit va ta ia vb tb ib place a a' b b' x y p q in
    record {
      place = refl;
      child_bits = took.child_bits;
      at = covering_narrow w ta tb (depth_at place.len) (depth_at place.len) a a' b b' oa oa ob ob (λ n. same_net (data_net w place bit) n ≡ false)
          (λ n u h. (base.pairs n u h).0.len_fits) took.at
          (λ n fits out l. longest_alike w _ _ oa.above n (λ m v c. entered_took w bit ta place oa.all a a' p.at m v) l)
          (λ n fits out l. longest_alike w _ _ ob.above n (λ m v c. entered_took w bit tb place ob.all b b' q.at m v) l);
      frugal = front_frugal _ _ (side_frugal ta oa.all && side_frugal tb ob.all) took.frugal;
    }

-- What lies in the new place stays.
entered_moved : {V Y : Type 0} (w : ℕ) (tell : V → ViewValue Y) (place to : Net) (all side side' : Option V) → CanMove w place to →
    ((n : Net) (y : Y) → SideHasItem tell side' n y ↔ (SideHasItem tell side n y × (covers w to n ≡ true))) → (n : Net) → n.len ≤ w →
    covers w to n ≡ true → (m : Net) (y : Y) → covers w m n ≡ true → AsEntered tell all side' (depth_at to.len) m y ↔
    AsEntered tell all side (depth_at place.len) m y
entered_moved {V} {Y} w tell place to all side side' can f n fits in_to m y over =
    subst (λ d. AsEntered tell all side' d m y ↔ AsEntered tell all side (depth_at place.len) m y) (sym can.node) (
      either inl (λ h. inr (h.0, ((f m y).0 h.1).0)),
      either inl (λ h. inr (h.0, (f m y).1 (h.1, covers_between w to m n (let le = covers_len w m n over in omega (arith, le, fits)) (long h.0) in_to over))),
    )
  where
    long : depth_at place.len + 5 ≤ m.len → to.len ≤ m.len
    long h = let e = can.node in let top : to.len < depth_at to.len + 5 = omega arith in omega (arith, h, e, top)

-- A covering union moves with both sides.
pub covering_moved : {A B X Y : Type 0} (w : ℕ) (to : Net) (va : A → Type 0) (ta : A → ViewValue X) (vb : B → Type 0) (tb : B →
    ViewValue Y) (place : Net) (a a' : Option A) (b b' : Option B) (oa : EnteredSide A X) (ob : EnteredSide B Y) →
    IsView w (union_told w ta tb place a b) → CanMove w place to → SideMoved va ta w to a a' → SideMoved vb tb w to b b' →
    Moved w to (covering_told w ta tb place a b oa ob) (covering_told w ta tb to a' b' oa ob)
covering_moved w to va ta vb tb place a a' b b' oa ob base can p q =
    let moved = union_moved w to va ta vb tb place a a' b b' p q in
    record {
      place = refl;
      at = covering_narrow w ta tb (depth_at place.len) (depth_at to.len) a a' b b' oa oa ob ob (λ n. covers w to n ≡ true)
          (λ n u h. (base.pairs n u h).0.len_fits) moved.at
          (λ n fits out l. longest_alike w _ _ oa.above n (λ m v c. entered_moved w ta place to oa.all a a' can p.at n fits out m v c) l)
          (λ n fits out l. longest_alike w _ _ ob.above n (λ m v c. entered_moved w tb place to ob.all b b' can q.at n fits out m v c) l);
      frugal = front_frugal _ _ (side_frugal ta oa.all && side_frugal tb ob.all) moved.frugal;
    }

-- Outside a child, what contains a prefix stays.
entered_rest : {V Y : Type 0} (w bit : ℕ) (valid : V → Type 0) (tell : V → ViewValue Y) (place : Net) (all side child rest : Option V) →
    SideSplit valid tell w place bit side child rest → (n : Net) → n.len ≤ w → covers w (child_net w place bit) n ≡ false → (m : Net) (y : Y) →
    covers w m n ≡ true → AsEntered tell all rest (depth_at place.len) m y ↔ AsEntered tell all side (depth_at place.len) m y
entered_rest {V} {Y} w bit valid tell place all side child rest split n fits out m y over =
    let away : covers w (child_net w place bit) m ≡ false =
    not_true _ (λ i. elim-false (sym out ∙ covers_trans w (child_net w place bit) m n (let le = covers_len w m n over in
    omega (arith, le, fits)) i over)) in
    (either inl (λ h. inr (h.0, (split.rest_at m y away).0 h.1)), either inl (λ h. inr (h.0, (split.rest_at m y away).1 h.1)))

-- A child taken out of both sides is taken out of the covering union.
pub covering_took_child : {A B X Y : Type 0} (w bit : ℕ) (va : A → Type 0) (ta : A → ViewValue X) (vb : B → Type 0) (tb : B →
    ViewValue Y) (place : Net) (a ca ra : Option A) (b cb rb : Option B) (oa : EnteredSide A X) (ob : EnteredSide B Y) →
    IsView w (union_told w ta tb place a b) → SideSplit va ta w place bit a ca ra → SideSplit vb tb w place bit b cb rb →
    TookChild w bit (covering_told w ta tb place a b oa ob) (covering_told w ta tb place ra rb oa ob)
covering_took_child w bit va ta vb tb place a ca ra b cb rb oa ob base p q =
    let took = union_took_child w bit va ta vb tb place a ca ra b cb rb p q in
    record {
      place = refl;
      data_bits = took.data_bits;
      others = took.others;
      gone = took.gone;
      at = covering_narrow w ta tb (depth_at place.len) (depth_at place.len) a ra b rb oa oa ob ob (λ n. covers w (child_net w place bit) n ≡ false)
          (λ n u h. (base.pairs n u h).0.len_fits) took.at
          (λ n fits out l. longest_alike w _ _ oa.above n (λ m v c. entered_rest w bit va ta place oa.all a ca ra p n fits out m v c) l)
          (λ n fits out l. longest_alike w _ _ ob.above n (λ m v c. entered_rest w bit vb tb place ob.all b cb rb q n fits out m v c) l);
      frugal = front_frugal _ _ (side_frugal ta oa.all && side_frugal tb ob.all) took.frugal;
    }
