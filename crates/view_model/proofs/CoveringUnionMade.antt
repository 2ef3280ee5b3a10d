-- The children of a covering union, its items, and a new one.
use Rattle.std.proofs.Common.{◌≡◌, ℕ, ◌+◌, ◌<◌, ◌≤◌, subst, refl, arith, true, ◌&&◌, Option, Some, None, inl, inr}
use Rattle.std.specs.Prelude.{◌↔◌}
use Rattle.trie_model.specs.Nets.{Net, IsNet, covers}
use Rattle.trie_model.specs.Views.{depth_at, child_net, ViewValue, IsView, IsChild}
use Rattle.trie_model.proofs.Places.{and_left, both_hold, covers_len}
use Rattle.trie_model.proofs.NodeLaws.{covers_between}
use Rattle.view_model.specs.Sides.{SideHasItem, IsUsableSide, side_frugal, SideSplit}
use Rattle.view_model.specs.Union.{union_at, union_told, union_value}
use Rattle.view_model.specs.CoveringUnion.{
  Longest,
  covering_pairs,
  IsPlainPair,
  WithPrefixes,
  InNode,
  AsEntered,
  EnteredSide,
  WithLongest,
  covering_at,
  covering_told,
  pair_value,
  covering_value,
}
use Rattle.view_model.specs.LongestMatch.{HasNoHostBits, LongestMatchOf}
use Rattle.view_model.specs.declared.items.UnionItem.{UnionItem}
use Rattle.view_model.specs.declared.items.UnionItem.TheVariants as U
use Rattle.view_model.specs.declared.items.CoveringUnionItem.{CoveringUnionItem}
use Rattle.view_model.specs.declared.items.CoveringUnionItem.TheVariants.{Left, Right, Both}
use Rattle.view_model.proofs.Bits.{either, lt_cases}
use Rattle.view_model.proofs.SideLaws.{side_one}
use Rattle.view_model.proofs.UnionLaws.{union_child}
use Rattle.view_model.proofs.LongestLaws.{longest_alike, longest_below}
use Rattle.view_model.proofs.CoveringUnionLaws.{covering_narrow, longest_node}

-- In a child, the longest is one of the child's pairs, or the longest that contains its place.
pub longest_child : {V Y : Type 0} (w bit : ℕ) (valid : V → Type 0) (tell : V → ViewValue Y) (law : (v : V) → valid v →
    IsView w (tell v)) (place : Net) (all side child rest : Option V) (above low : Option (Net × Y)) → depth_at place.len + 5 ≤ w →
    IsUsableSide valid all → SideSplit valid tell w place bit side child rest →
    Longest w (InNode tell all (depth_at place.len)) above (child_net w place bit) low → (n : Net) → n.len ≤ w →
    covers w (child_net w place bit) n ≡ true → (l : Option (Net × Y)) →
    Longest w (AsEntered tell child child (depth_at (child_net w place bit).len)) low n l ↔ Longest w (AsEntered tell all side (depth_at place.len)) above n l
longest_child {V} {Y} w bit valid tell law place all side child rest above low deep ok split is n fits in_c l =
    let same = longest_alike w (AsEntered tell child child (depth_at (child_net w place bit).len)) Below low n alike l in
    let cut = longest_below w (depth_at place.len + 5) (InNode tell all (depth_at place.len)) Below above low (child_net w place bit) n
    (λ m x y p q. side_one w valid tell law all ok m x y p.1 q.1) (λ m y p. p.0) (λ m y p. p.0) refl deep in_c is l in
    ((λ h. cut.0 (same.0 h)), (λ h. same.1 (cut.1 h)))
  where
    Below : Net → Y → Type 0
    Below m y = (depth_at place.len + 5 ≤ m.len) × SideHasItem tell side m y

    alike : (m : Net) (y : Y) → covers w m n ≡ true → AsEntered tell child child (depth_at (child_net w place bit).len) m y ↔ Below m y
    alike m y over = (
      (λ h. let s : SideHasItem tell child m y = either (λ a. a.1) (λ a. a.1) h in let c = split.child_inside m y s in
          (covers_len w (child_net w place bit) m c, (split.child_at m y c).0 s)),
      (λ h.
          let c = covers_between w (child_net w place bit) m n (let le = covers_len w m n over in omega (arith, le, fits)) h.0 in_c over in
          let s = (split.child_at m y c).1 h.1 in
          either (λ lt. inl (lt, s)) (λ ge. inr (ge, s)) (lt_cases m.len (depth_at (child_net w place bit).len + 5))),
    )

-- The child of a covering union has exactly its pairs below the bit.
pub covering_child : {A B X Y : Type 0} (w bit : ℕ) (va : A → Type 0) (ta : A → ViewValue X) (la : (v : A) → va v → IsView w (ta v)) (vb : B →
    Type 0) (tb : B → ViewValue Y) (lb : (v : B) → vb v →
    IsView w (tb v)) (place : Net) (a ca ra : Option A) (b cb rb : Option B) (oa : EnteredSide A X) (ob : EnteredSide B Y) (low_a : Option (Net ×
    X)) (low_b : Option (Net × Y)) → IsView w (union_told w ta tb place a b) → depth_at place.len + 5 ≤ w → IsUsableSide va oa.all →
    IsUsableSide vb ob.all → SideSplit va ta w place bit a ca ra → SideSplit vb tb w place bit b cb rb →
    Longest w (InNode ta oa.all (depth_at place.len)) oa.above (child_net w place bit) low_a →
    Longest w (InNode tb ob.all (depth_at place.len)) ob.above (child_net w place bit) low_b →
    IsChild w bit (covering_told w ta tb place a b oa ob) (covering_told w ta tb (child_net w place bit) ca cb (record {
      all = ca;
      above =
          low_a;
    }) (record { all = cb; above = low_b }))
covering_child {A} {B} {X} {Y} w bit va ta la vb tb lb place a ca ra b cb rb oa ob low_a low_b base deep oka okb p q is_a is_b =
    let is = union_child w bit va ta vb tb place a ca ra b cb rb p q in
    record {
      place = refl;
      at = covering_narrow w ta tb (depth_at place.len) (depth_at (child_net w place bit).len) a ca b cb oa (record {
        all = ca;
        above =
            low_a;
      }) ob (record { all = cb; above = low_b }) (λ n. covers w (child_net w place bit) n ≡ true) (λ n u h. (base.pairs n u h).0.len_fits) is.at
          (λ n fits out l. longest_child w bit va ta la place oa.all a ca ra oa.above low_a deep oka p is_a n fits out l)
          (λ n fits out l. longest_child w bit vb tb lb place ob.all b cb rb ob.above low_b deep okb q is_b n fits out l);
      frugal = λ h.
          let base_frugal = and_left ((union_told w ta tb place a b).frugal) (side_frugal ta oa.all && side_frugal tb ob.all) h in
          both_hold _ _ (is.frugal base_frugal) (is.frugal base_frugal);
    }

-- The item of a union with the longest pair of the other side is one of the covering union.
pub covering_item : {P A B S T X Y : Type 0} (w : ℕ) (net : P → Net) (f : S → X) (g : T → Y) (ta : A → ViewValue X) (tb : B →
    ViewValue Y) (d : ℕ) (a : Option A) (b : Option B) (oa : Option A) (ob : Option B) (above_a : Option (P × S)) (above_b : Option (P × T)) (n : Net) →
    n.len < d + 5 → (u : UnionItem S T) (z : CoveringUnionItem P S T) → union_at ta tb a b n (union_value f g u) →
    WithLongest w net f g (InNode ta oa d) (InNode tb ob d) above_a above_b n u z →
    covering_at w ta tb d a b (record { all = oa; above = pair_value net f above_a }) (record {
      all = ob;
      above =
          pair_value net g above_b;
    }) n (covering_value net f g z)
covering_item w net f g ta tb d a b oa ob above_a above_b n short (U.Left s) (Left t l) h k =
    (subst (λ x. union_at ta tb a b n (U.Left (f x))) k.0 h, longest_node w tb ob b d (pair_value net g above_b) n short (pair_value net g l) k.1)
covering_item w net f g ta tb d a b oa ob above_a above_b n short (U.Left s) (Right l t) h k = absurd k
covering_item w net f g ta tb d a b oa ob above_a above_b n short (U.Left s) (Both u v) h k = absurd k
covering_item w net f g ta tb d a b oa ob above_a above_b n short (U.Right s) (Left t l) h k = absurd k
covering_item w net f g ta tb d a b oa ob above_a above_b n short (U.Right s) (Right l t) h k =
    (subst (λ x. union_at ta tb a b n (U.Right (g x))) k.0 h, longest_node w ta oa a d (pair_value net f above_a) n short (pair_value net f l) k.1)
covering_item w net f g ta tb d a b oa ob above_a above_b n short (U.Right s) (Both u v) h k = absurd k
covering_item w net f g ta tb d a b oa ob above_a above_b n short (U.Both s t) (Left x l) h k = absurd k
covering_item w net f g ta tb d a b oa ob above_a above_b n short (U.Both s t) (Right l x) h k = absurd k
covering_item w net f g ta tb d a b oa ob above_a above_b n short (U.Both s t) (Both u v) h k =
    (subst (λ x. SideHasItem ta a n (f x)) k.0 h.0, subst (λ x. SideHasItem tb b n (g x)) k.1 h.1)

-- ---- a new covering union

none_some : {X : Type 0} (x : X) → None ≡ Some x → ⊥
none_some x e = cc

entered_all : {V Y : Type 0} (tell : V → ViewValue Y) (v : V) (d : ℕ) (m : Net) (y : Y) → AsEntered tell (Some v) (Some v) d m y ↔ (tell v).at m y
entered_all tell v d m y = (either (λ h. h.1) (λ h. h.1), (λ h. either (λ lt. inl (lt, h)) (λ ge. inr (ge, h)) (lt_cases m.len (d + 5))))

-- The longest pair of a new covering union's side is the longest match of the view.
longest_made : {P V Y : Type 0} (w : ℕ) (net : P → Net) (raw : P → ℕ) → ((n : Net) → IsNet w n → (p : P) × (net p ≡ n) × (raw p ≡ n.bits)) →
    (tell : V → ViewValue Y) (v : V) (d : ℕ) (n : Net) (l : Option (Net × Y)) (m : Option (P × Y)) → IsPlainPair net raw l m →
    Longest w (AsEntered tell (Some v) (Some v) d) None n l → LongestMatchOf w net (λ y. y) (tell v) n m × HasNoHostBits net raw m
longest_made w net raw onto tell v d n None None plain h = ((λ m y at c. h.0 m y ((entered_all tell v d m y).1 at) c), tt)
longest_made w net raw onto tell v d n None (Some b) plain h = absurd plain
longest_made w net raw onto tell v d n (Some a) None plain h = absurd plain
longest_made w net raw onto tell v d n (Some a) (Some b) plain (inr h) = absurd (none_some a h.1)
longest_made w net raw onto tell v d n (Some a) (Some b) plain (inl h) = (
  (
    subst (λ y. (tell v).at (net b.0) y) plain.2 (subst (λ k. (tell v).at k a.1) plain.0 ((entered_all tell v d a.0 a.1).0 h.0)),
    subst (λ k. covers w k n ≡ true) plain.0 h.1,
    λ m y at c. subst (λ k. m.len ≤ k.len) plain.0 (h.2 m y ((entered_all tell v d m y).1 at) c),
  ),
  plain.1,
)

-- And the longest match of the view is the longest pair of the side.
longest_back : {P V Y : Type 0} (w : ℕ) (net : P → Net) (raw : P → ℕ) (tell : V → ViewValue Y) (v : V) (d : ℕ) (n : Net) (m : Option (P × Y)) →
    LongestMatchOf w net (λ y. y) (tell v) n m → HasNoHostBits net raw m → (l : Option (Net × Y)) ×
    Longest w (AsEntered tell (Some v) (Some v) d) None n l × IsPlainPair net raw l m
longest_back w net raw tell v d n None h plain = (None, ((λ m y s c. h m y ((entered_all tell v d m y).0 s) c), refl), tt)
longest_back w net raw tell v d n (Some b) h plain = (
  Some (net b.0, b.1),
  inl ((entered_all tell v d (net b.0) b.1).1 h.0, h.1, λ m y s c. h.2 m y ((entered_all tell v d m y).0 s) c),
  (refl, plain, refl),
)

-- A new covering union has the pairs of the covering union of its views.
pub covering_made : {P A B X Y : Type 0} (w : ℕ) (net : P → Net) (raw : P → ℕ) → ((n : Net) → IsNet w n → (p : P) × (net p ≡ n) × (raw p ≡ n.bits)) →
    (ta : A → ViewValue X) (tb : B → ViewValue Y) (d : ℕ) (a : A) (b : B) (n : Net) (z : CoveringUnionItem P X Y) →
    ((y : CoveringUnionItem Net X Y) ×
    covering_at w ta tb d (Some a) (Some b) (record { all = Some a; above = None }) (record { all = Some b; above = None }) n y ×
    WithPrefixes net raw y z) ↔ covering_pairs w net raw (ta a) (tb b) n z
covering_made {P} {A} {B} {X} {Y} w net raw onto ta tb d a b n z = (forth z, back z)
  where
    from : (y : CoveringUnionItem Net X Y) (z : CoveringUnionItem P X Y) →
        covering_at w ta tb d (Some a) (Some b) (record { all = Some a; above = None }) (record { all = Some b; above = None }) n y →
        WithPrefixes net raw y z → covering_pairs w net raw (ta a) (tb b) n z
    from (Left x l) (Left u m) h p = let k = longest_made w net raw onto tb b d n l m p.1 h.1 in (subst (λ v. (ta a).at n v) p.0 h.0.0, h.0.1, k.0, k.1)
    from (Left x l) (Right m u) h p = absurd p
    from (Left x l) (Both u m) h p = absurd p
    from (Right l y) (Left u m) h p = absurd p
    from (Right l y) (Right m u) h p = let k = longest_made w net raw onto ta a d n l m p.0 h.1 in (subst (λ v. (tb b).at n v) p.1 h.0.0, h.0.1, k.0, k.1)
    from (Right l y) (Both u m) h p = absurd p
    from (Both x y) (Left u m) h p = absurd p
    from (Both x y) (Right u m) h p = absurd p
    from (Both x y) (Both u m) h p = (subst (λ v. (ta a).at n v) p.0 h.0, subst (λ v. (tb b).at n v) p.1 h.1)

    forth : (z : CoveringUnionItem P X Y) → ((y : CoveringUnionItem Net X Y) ×
        covering_at w ta tb d (Some a) (Some b) (record { all = Some a; above = None }) (record { all = Some b; above = None }) n y ×
        WithPrefixes net raw y z) → covering_pairs w net raw (ta a) (tb b) n z
    forth z h = from h.0 z h.1 h.2

    back : (z : CoveringUnionItem P X Y) → covering_pairs w net raw (ta a) (tb b) n z → (y : CoveringUnionItem Net X Y) ×
        covering_at w ta tb d (Some a) (Some b) (record { all = Some a; above = None }) (record { all = Some b; above = None }) n y × WithPrefixes net raw y z
    back (Left x l) h = let k = longest_back w net raw tb b d n l h.2 h.3 in (Left x k.0, ((h.0, h.1), k.1), (refl, k.2))
    back (Right l y) h = let k = longest_back w net raw ta a d n l h.2 h.3 in (Right k.0 y, ((h.0, h.1), k.1), (k.2, refl))
    back (Both x y) h = (Both x y, h, (refl, refl))
