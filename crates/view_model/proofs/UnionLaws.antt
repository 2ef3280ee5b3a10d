-- The laws of a union from the laws of its sides.
use Rattle.std.proofs.Common.{◌≡◌, ℕ, ◌<◌, ◌∙◌, sym, ap, subst, refl, Bool, true, false, ◌&&◌, Option, Some, None, inl, inr}
use Rattle.std.specs.Prelude.{IsTrue, ◌↔◌, ◌⊎◌}
use Rattle.std.specs.Int.{bit_at}
use Rattle.std.specs.Int.RustNames.{bit_or}
use Rattle.std.proofs.lemmas.Nat.{or_lt}
use Rattle.trie_model.specs.Nets.{Net, IsNet, covers}
use Rattle.trie_model.specs.Views.{depth_at, data_net, child_net, same_net, ViewValue, Has, IsView, TookData, TookChild, IsChild, Moved}
use Rattle.trie_model.proofs.Places.{and_left, and_right, both_hold, bit_below}
use Rattle.view_model.specs.Sides.{SideHasItem, SideHasPrefix, IsUsableSide, IsAlignedSide, IsInnerSide, side_data_bits, side_child_bits, SideSplit, SideMoved}
use Rattle.view_model.specs.Union.{union_at, union_pairs, union_told, FindsItem, SideTook, HasSomeSide, IsJoined, union_value}
use Rattle.view_model.specs.declared.items.UnionItem.{UnionItem}
use Rattle.view_model.specs.declared.items.UnionItem.TheVariants.{Left, Right, Both}
use Rattle.view_model.proofs.Bits.{one-zero, or_bit, or_bit_l, or_bit_r, or_same, or_zero, either, bit_cases}
use Rattle.view_model.proofs.SideLaws.{side_in_ok, in_valid, side_pairs, side_inside, side_one, side_told, side_untold}
use Rattle.view_model.proofs.SideLaws.{side_fits, side_child_bits_fit, side_below, side_deep}
use Rattle.view_model.proofs.SideMoves.{split_child, split_rest}

-- Both sides keep the same pairs.
pub narrow : {A B X Y : Type 0} (ta : A → ViewValue X) (tb : B → ViewValue Y) (a a' : Option A) (b b' : Option B) (Out : Net → Type 0) →
    ((n : Net) (x : X) → SideHasItem ta a' n x ↔ (SideHasItem ta a n x × Out n)) →
    ((n : Net) (y : Y) → SideHasItem tb b' n y ↔ (SideHasItem tb b n y × Out n)) → (n : Net) (z : UnionItem X Y) → union_at ta tb a' b' n z ↔
    (union_at ta tb a b n z × Out n)
narrow ta tb a a' b b' Out f g n (Left x) = (
  (λ h. let p = (f n x).0 h.0 in ((p.0, λ s. h.1 (s.0, (g n s.0).1 (s.1, p.1))), p.1)),
  (λ h. ((f n x).1 (h.0.0, h.1), λ s. h.0.1 (s.0, ((g n s.0).0 s.1).0))),
)
narrow ta tb a a' b b' Out f g n (Right y) = (
  (λ h. let p = (g n y).0 h.0 in ((p.0, λ s. h.1 (s.0, (f n s.0).1 (s.1, p.1))), p.1)),
  (λ h. ((g n y).1 (h.0.0, h.1), λ s. h.0.1 (s.0, ((f n s.0).0 s.1).0))),
)
narrow ta tb a a' b b' Out f g n (Both x y) = (
  (λ h. let p = (f n x).0 h.0 in let q = (g n y).0 h.1 in ((p.0, q.0), p.1)),
  (λ h. ((f n x).1 (h.0.0, h.1), (g n y).1 (h.0.1, h.1))),
)

-- Each pair of a union is one of a side.
pub from_side : {A B X Y : Type 0} (ta : A → ViewValue X) (tb : B → ViewValue Y) (a : Option A) (b : Option B) (n : Net) (z : UnionItem X Y) →
    union_at ta tb a b n z → SideHasPrefix ta a n ⊎ SideHasPrefix tb b n
from_side ta tb a b n (Left x) h = inl (x, h.0)
from_side ta tb a b n (Right y) h = inr (y, h.0)
from_side ta tb a b n (Both x y) h = inl (x, h.0)

union_one : {A B X Y : Type 0} (ta : A → ViewValue X) (tb : B → ViewValue Y) (a : Option A) (b : Option B) →
    ((n : Net) (x y : X) → SideHasItem ta a n x → SideHasItem ta a n y → x ≡ y) →
    ((n : Net) (x y : Y) → SideHasItem tb b n x → SideHasItem tb b n y → x ≡ y) → (n : Net) (z u : UnionItem X Y) → union_at ta tb a b n z →
    union_at ta tb a b n u → z ≡ u
union_one {A} {B} {X} {Y} ta tb a b f g n (Left x) (Left y) p q = let c : X → UnionItem X Y = λ v. Left v in ap c (f n x y p.0 q.0)
union_one ta tb a b f g n (Left x) (Right y) p q = absurd (p.1 (y, q.0))
union_one ta tb a b f g n (Left x) (Both u v) p q = absurd (p.1 (v, q.1))
union_one ta tb a b f g n (Right y) (Left x) p q = absurd (p.1 (x, q.0))
union_one {A} {B} {X} {Y} ta tb a b f g n (Right x) (Right y) p q = let c : Y → UnionItem X Y = λ v. Right v in ap c (g n x y p.0 q.0)
union_one ta tb a b f g n (Right y) (Both u v) p q = absurd (p.1 (u, q.0))
union_one ta tb a b f g n (Both u v) (Left x) p q = absurd (q.1 (v, p.1))
union_one ta tb a b f g n (Both u v) (Right y) p q = absurd (q.1 (u, p.0))
union_one {A} {B} {X} {Y} ta tb a b f g n (Both u v) (Both s t) p q = let c : X → Y → UnionItem X Y = λ l r. Both l r in
    ap (λ l. c l v) (f n u s p.0 q.0) ∙ ap (c s) (g n v t p.1 q.1)

-- A union keeps the laws of views where both sides do.
pub union_laws : {A B X Y : Type 0} (w : ℕ) (va : A → Type 0) (ta : A → ViewValue X) (la : (v : A) → va v → IsView w (ta v)) (vb : B → Type 0) (tb : B →
    ViewValue Y) (lb : (v : B) → vb v → IsView w (tb v)) (place : Net) (a : Option A) (b : Option B) → IsNet w place → IsInnerSide va ta w place a →
    IsInnerSide vb tb w place b → IsView w (union_told w ta tb place a b)
union_laws {A} {B} {X} {Y} w va ta la vb tb lb place a b net ina inb = record {
  place_ok = net;
  data_fit = or_lt 31 (side_data_bits ta d a) (side_data_bits tb d b) (side_fits w va ta la place a oka) (side_fits w vb tb lb place b okb);
  children_fit = or_lt 32 (side_child_bits ta w d a) (side_child_bits tb w d b) (side_child_bits_fit w va ta la d a ua) (side_child_bits_fit w vb tb lb d b ub);
  pairs = λ n z h. either (λ s. (
    side_pairs w va ta la a ua n s.0 s.1,
    side_inside w va ta la place a ina n s.0 s.1,
  )) (λ s. (
    side_pairs w vb tb lb b ub n s.0 s.1,
    side_inside w vb tb lb place b inb n s.0 s.1,
  )) (from_side ta tb a b n z h);
  one = union_one ta tb a b (side_one w va ta la a ua) (side_one w vb tb lb b ub);
  told = λ bit lt h.
      either
      (λ p. let x = side_told w va ta la place a oka bit lt p in left bit lt x (bit_cases (side_data_bits tb d b) bit))
      (λ q. let y = side_told w vb tb lb place b okb bit lt q in right bit lt y (bit_cases (side_data_bits ta d a) bit))
      (or_bit (side_data_bits ta d a) (side_data_bits tb d b) bit h);
  untold = λ bit z lt h. either (λ s. or_bit_l _ _ bit (side_untold w va ta la place a oka bit s.0 lt s.1))
      (λ s. or_bit_r _ _ bit (side_untold w vb tb lb place b okb bit s.0 lt s.1)) (from_side ta tb a b (data_net w place bit) z h);
  below = λ n z h deep. either (λ s. or_bit_l _ _ _ (side_below w va ta la place a oka n s.0 s.1 deep))
      (λ s. or_bit_r _ _ _ (side_below w vb tb lb place b okb n s.0 s.1 deep)) (from_side ta tb a b n z h);
  deep = λ bit h. either (side_deep w va ta la place a oka bit) (side_deep w vb tb lb place b okb bit)
      (or_bit (side_child_bits ta w d a) (side_child_bits tb w d b) bit h);
}
  where
    d : ℕ
    d = depth_at place.len

    oka : IsAlignedSide va ta w place a
    oka = side_in_ok w va ta la place a ina

    okb : IsAlignedSide vb tb w place b
    okb = side_in_ok w vb tb lb place b inb

    ua : IsUsableSide va a
    ua = in_valid w va ta place a ina

    ub : IsUsableSide vb b
    ub = in_valid w vb tb place b inb

    left : (bit : ℕ) → bit < 31 → SideHasPrefix ta a (data_net w place bit) → (bit_at (side_data_bits tb (depth_at place.len) b) bit ≡ 1) ⊎
        (bit_at (side_data_bits tb (depth_at place.len) b) bit ≡ 0) → Has (union_told w ta tb place a b) (data_net w place bit)
    left bit lt x (inl on) = let y = side_told w vb tb lb place b okb bit lt on in (Both x.0 y.0, (x.1, y.1))
    left bit lt x (inr off) = (Left x.0, (x.1, λ s. one-zero _ (side_untold w vb tb lb place b okb bit s.0 lt s.1) off))

    right : (bit : ℕ) → bit < 31 → SideHasPrefix tb b (data_net w place bit) → (bit_at (side_data_bits ta (depth_at place.len) a) bit ≡ 1) ⊎
        (bit_at (side_data_bits ta (depth_at place.len) a) bit ≡ 0) → Has (union_told w ta tb place a b) (data_net w place bit)
    right bit lt y (inl on) = let x = side_told w va ta la place a oka bit lt on in (Both x.0 y.0, (x.1, y.1))
    right bit lt y (inr off) = (Right y.0, (y.1, λ s. one-zero _ (side_untold w va ta la place a oka bit s.0 lt s.1) off))

both_frugal : (a b c d : Bool) → (IsTrue a → IsTrue b) → (IsTrue c → IsTrue d) → IsTrue (a && c) → IsTrue (b && d)
both_frugal a b c d f g h = both_hold b d (f (and_left a c h)) (g (and_right a c h))

-- ---- a data bit is taken

-- A pair taken out of both sides is taken out of the union.
pub union_took : {A B S T X Y : Type 0} (w bit : ℕ) (va : A → Type 0) (ta : A → ViewValue X) (ia : S → X) (vb : B → Type 0) (tb : B → ViewValue Y) (ib : T →
    Y) (place : Net) (a a' : Option A) (b b' : Option B) (x : Option S) (y : Option T) → SideTook va ta ia w place bit a a' x →
    SideTook vb tb ib w place bit b b' y → TookData w bit (union_told w ta tb place a b) (union_told w ta tb place a' b')
union_took w bit va ta ia vb tb ib place a a' b b' x y p q = record {
  place = refl;
  child_bits = ap (λ k. bit_or k (side_child_bits tb w (depth_at place.len) b')) p.child_bits ∙
      ap (bit_or (side_child_bits ta w (depth_at place.len) a)) q.child_bits;
  at = narrow ta tb a a' b b' (λ n. same_net (data_net w place bit) n ≡ false) p.at q.at;
  frugal = both_frugal _ _ _ _ p.frugal q.frugal;
}

-- ---- the place moves

-- A union moves with both sides.
pub union_moved : {A B X Y : Type 0} (w : ℕ) (to : Net) (va : A → Type 0) (ta : A → ViewValue X) (vb : B → Type 0) (tb : B →
    ViewValue Y) (place : Net) (a a' : Option A) (b b' : Option B) → SideMoved va ta w to a a' → SideMoved vb tb w to b b' →
    Moved w to (union_told w ta tb place a b) (union_told w ta tb to a' b')
union_moved w to va ta vb tb place a a' b b' p q = record {
  place = refl;
  at = narrow ta tb a a' b b' (λ n. covers w to n ≡ true) p.at q.at;
  frugal = both_frugal _ _ _ _ p.frugal q.frugal;
}

-- ---- a child is taken

-- The child of a union has exactly its pairs below the bit.
pub union_child : {A B X Y : Type 0} (w bit : ℕ) (va : A → Type 0) (ta : A → ViewValue X) (vb : B → Type 0) (tb : B →
    ViewValue Y) (place : Net) (a ca ra : Option A) (b cb rb : Option B) → SideSplit va ta w place bit a ca ra → SideSplit vb tb w place bit b cb rb →
    IsChild w bit (union_told w ta tb place a b) (union_told w ta tb (child_net w place bit) ca cb)
union_child w bit va ta vb tb place a ca ra b cb rb p q = record {
  place = refl;
  at = narrow ta tb a ca b cb (λ n. covers w (child_net w place bit) n ≡ true) (split_child va ta w bit place a ca ra p)
      (split_child vb tb w bit place b cb rb q);
  frugal = both_frugal _ _ _ _ p.child_frugal q.child_frugal;
}

-- A child taken out of both sides is taken out of the union.
pub union_took_child : {A B X Y : Type 0} (w bit : ℕ) (va : A → Type 0) (ta : A → ViewValue X) (vb : B → Type 0) (tb : B →
    ViewValue Y) (place : Net) (a ca ra : Option A) (b cb rb : Option B) → SideSplit va ta w place bit a ca ra → SideSplit vb tb w place bit b cb rb →
    TookChild w bit (union_told w ta tb place a b) (union_told w ta tb place ra rb)
union_took_child w bit va ta vb tb place a ca ra b cb rb p q = record {
  place = refl;
  data_bits = ap (λ k. bit_or k (side_data_bits tb (depth_at place.len) rb)) p.bits ∙ ap (bit_or (side_data_bits ta (depth_at place.len) a)) q.bits;
  others = λ c ne. or_same (side_child_bits ta w (depth_at place.len) ra) (side_child_bits tb w (depth_at place.len) rb)
      (side_child_bits ta w (depth_at place.len) a) (side_child_bits tb w (depth_at place.len) b) c (p.others c ne) (q.others c ne);
  gone = or_zero _ _ bit p.gone q.gone;
  at = narrow ta tb a ra b rb (λ n. covers w (child_net w place bit) n ≡ false) (split_rest va ta w bit place a ca ra p)
      (split_rest vb tb w bit place b cb rb q);
  frugal = both_frugal _ _ _ _ p.rest_frugal q.rest_frugal;
}

-- ---- the item of a data bit

-- A set bit is one of a side.
pub union_found : {A B S T X Y : Type 0} (w bit : ℕ) (va : A → Type 0) (ta : A → ViewValue X) (la : (v : A) → va v → IsView w (ta v)) (ia : S →
    X) (vb : B → Type 0) (tb : B → ViewValue Y) (lb : (v : B) → vb v → IsView w (tb v)) (ib : T → Y) (place : Net) (a : Option A) (b : Option B) →
    IsNet w place → IsInnerSide va ta w place a → IsInnerSide vb tb w place b → bit_at (union_told w ta tb place a b).data_bits bit ≡ 1 →
    FindsItem ta ia a (data_net w place bit) None → FindsItem tb ib b (data_net w place bit) None → ⊥
union_found w bit va ta la ia vb tb lb ib place a b net ina inb set p q =
    let laws = union_laws w va ta la vb tb lb place a b net ina inb in
    let has = laws.told bit (bit_below 31 _ bit laws.data_fit set) set in
    either p q (from_side ta tb a b (data_net w place bit) has.0 has.1)

-- A set data bit of a union has an item of a side.
pub some_side : {A B S T X Y : Type 0} (w bit : ℕ) (va : A → Type 0) (ta : A → ViewValue X) (la : (v : A) → va v → IsView w (ta v)) (ia : S → X) (vb : B →
    Type 0) (tb : B → ViewValue Y) (lb : (v : B) → vb v → IsView w (tb v)) (ib : T → Y) (place : Net) (a : Option A) (b : Option B) → IsNet w place →
    IsInnerSide va ta w place a → IsInnerSide vb tb w place b → bit_at (union_told w ta tb place a b).data_bits bit ≡ 1 →
    (x : Option S) (y : Option T) → FindsItem ta ia a (data_net w place bit) x → FindsItem tb ib b (data_net w place bit) y → HasSomeSide x y
some_side w bit va ta la ia vb tb lb ib place a b net ina inb set None None p q = union_found w bit va ta la ia vb tb lb ib place a b net ina inb set p q
some_side w bit va ta la ia vb tb lb ib place a b net ina inb set (Some x) y p q = tt
some_side w bit va ta la ia vb tb lb ib place a b net ina inb set None (Some y) p q = tt

-- The joined items of the sides are an item of the union.
pub union_item : {A B S T X Y : Type 0} (ta : A → ViewValue X) (ia : S → X) (tb : B → ViewValue Y) (ib : T →
    Y) (n : Net) (a : Option A) (b : Option B) (x : Option S) (y : Option T) (z : UnionItem S T) → FindsItem ta ia a n x → FindsItem tb ib b n y →
    IsJoined x y z → union_at ta tb a b n (union_value ia ib z)
union_item ta ia tb ib n a b None None z p q e = absurd e
union_item ta ia tb ib n a b (Some x) None z p q e = subst (λ u. union_at ta tb a b n (union_value ia ib u)) (sym e) (p, q)
union_item ta ia tb ib n a b None (Some y) z p q e = subst (λ u. union_at ta tb a b n (union_value ia ib u)) (sym e) (q, p)
union_item ta ia tb ib n a b (Some x) (Some y) z p q e = subst (λ u. union_at ta tb a b n (union_value ia ib u)) (sym e) (p, q)

-- The pairs of a union of two whole views are those of either.
pub union_made : {A B X Y : Type 0} (ta : A → ViewValue X) (tb : B → ViewValue Y) (a : A) (b : B) (n : Net) (z : UnionItem X Y) →
    union_at ta tb (Some a) (Some b) n z ↔ union_pairs (ta a) (tb b) n z
union_made ta tb a b n (Left x) = ((λ h. h), (λ h. h))
union_made ta tb a b n (Right y) = ((λ h. h), (λ h. h))
union_made ta tb a b n (Both x y) = ((λ h. h), (λ h. h))

-- What contracts see of an item of a union is seen of some item, where it is so of the sides.
pub union_value_onto : {A B X Y : Type 0} (f : A → X) (g : B → Y) → ((x : X) → (a : A) × (f a ≡ x)) → ((y : Y) → (b : B) × (g b ≡ y)) →
    (z : UnionItem X Y) → (u : UnionItem A B) × (union_value f g u ≡ z)
union_value_onto {A} {B} {X} {Y} f g p q (Left x) = let a = p x in let c : X → UnionItem X Y = λ v. Left v in (Left a.0, ap c a.1)
union_value_onto {A} {B} {X} {Y} f g p q (Right y) = let b = q y in let c : Y → UnionItem X Y = λ v. Right v in (Right b.0, ap c b.1)
union_value_onto {A} {B} {X} {Y} f g p q (Both x y) = let a = p x in let b = q y in (Both a.0 b.0, λ i. Both (a.1 i) (b.1 i))
