-- The items of a covering union hold prefixes in place of networks.
use Rattle.std.proofs.Common.{◌≡◌, ℕ, ◌+◌, ◌≤◌, ◌<◌, ◌^◌, ◌∙◌, arith, sym, ap, subst, refl, Option, Some, None, inl, inr}
use Rattle.trie_model.specs.Nets.{Net, IsNet}
use Rattle.trie_model.specs.Views.{ViewValue, IsView, depth_at}
use Rattle.view_model.specs.Sides.{IsUsableSide}
use Rattle.view_model.specs.LongestMatch.{HasNoHostBits}
use Rattle.view_model.specs.CoveringUnion.{Longest, AsEntered, IsPairAbove, IsPlainPair, WithPrefixes, HasPlainPairs, pair_value, covering_value, covering_at}
use Rattle.view_model.specs.declared.items.CoveringUnionItem.{CoveringUnionItem}
use Rattle.view_model.specs.declared.items.CoveringUnionItem.TheVariants.{Left, Right, Both}
use Rattle.trie_model.specs.Views.{level_of, net_of_bit}
use Rattle.trie_model.proofs.NodeLaws.{data_is_net}
use Rattle.view_model.specs.Sides.{IsInnerSide, IsAlignedSide}
use Rattle.view_model.specs.CoveringUnion.{covering_told}
use Rattle.view_model.specs.Through.{through_told}
use Rattle.view_model.proofs.CoveringUnionLaws.{covering_laws}
use Rattle.view_model.proofs.SideLaws.{in_valid, side_pairs, side_valid}
use Rattle.view_model.proofs.ThroughLaws.{through_laws}

-- ---- one prefix for each network

-- A pair has one form with a prefix.
pair_one : {P Y : Type 0} (net : P → Net) (raw : P → ℕ) → ((p q : P) → (net p).len ≡ (net q).len → raw p ≡ raw q → p ≡ q) →
    (l : Option (Net × Y)) (a b : Option (P × Y)) → IsPlainPair net raw l a → IsPlainPair net raw l b → a ≡ b
pair_one net raw law None None None p q = refl
pair_one net raw law None None (Some b) p q = absurd q
pair_one net raw law None (Some a) b p q = absurd p
pair_one net raw law (Some l) None b p q = absurd p
pair_one net raw law (Some l) (Some a) None p q = absurd q
pair_one {P} {Y} net raw law (Some l) (Some a) (Some b) p q =
    let nets : net a.0 ≡ net b.0 = sym p.0 ∙ q.0 in
    let e : a.0 ≡ b.0 = law a.0 b.0 (ap (λ n. n.len) nets) (p.1 ∙ ap (λ n. n.bits) nets ∙ sym q.1) in
    let f : P → Y → Option (P × Y) = λ x y. Some (x, y) in
    ap (λ x. f x a.1) e ∙ ap (f b.0) (sym p.2 ∙ q.2)

-- An item has one form with prefixes.
pub prefixes_one : {P X Y : Type 0} (net : P → Net) (raw : P → ℕ) → ((p q : P) → (net p).len ≡ (net q).len → raw p ≡ raw q → p ≡ q) →
    (z : CoveringUnionItem Net X Y) (a b : CoveringUnionItem P X Y) → WithPrefixes net raw z a → WithPrefixes net raw z b → a ≡ b
prefixes_one {P} {X} {Y} net raw law (Left x l) (Left u m) (Left v n) p q =
    let c : X → Option (P × Y) → CoveringUnionItem P X Y = λ s o. Left s o in
    ap (λ s. c s m) (sym p.0 ∙ q.0) ∙ ap (c v) (pair_one net raw law l m n p.1 q.1)
prefixes_one net raw law (Left x l) (Left u m) (Right n v) p q = absurd q
prefixes_one net raw law (Left x l) (Left u m) (Both v n) p q = absurd q
prefixes_one net raw law (Left x l) (Right m u) b p q = absurd p
prefixes_one net raw law (Left x l) (Both u m) b p q = absurd p
prefixes_one net raw law (Right l y) (Left u m) b p q = absurd p
prefixes_one net raw law (Right l y) (Right m u) (Left v n) p q = absurd q
prefixes_one {P} {X} {Y} net raw law (Right l y) (Right m u) (Right n v) p q =
    let c : Option (P × X) → Y → CoveringUnionItem P X Y = λ o s. Right o s in
    ap (λ s. c m s) (sym p.1 ∙ q.1) ∙ ap (λ o. c o v) (pair_one net raw law l m n p.0 q.0)
prefixes_one net raw law (Right l y) (Right m u) (Both v n) p q = absurd q
prefixes_one net raw law (Right l y) (Both u m) b p q = absurd p
prefixes_one net raw law (Both x y) (Left u m) b p q = absurd p
prefixes_one net raw law (Both x y) (Right m u) b p q = absurd p
prefixes_one net raw law (Both x y) (Both u m) (Left v n) p q = absurd q
prefixes_one net raw law (Both x y) (Both u m) (Right n v) p q = absurd q
prefixes_one {P} {X} {Y} net raw law (Both x y) (Both u m) (Both v n) p q =
    let c : X → Y → CoveringUnionItem P X Y = λ s t. Both s t in
    ap (λ s. c s m) (sym p.0 ∙ q.0) ∙ ap (c v) (sym p.1 ∙ q.1)

-- ---- a prefix for each network

-- The pair is one of a network.
IsNetPair : {Y : Type 0} → ℕ → Option (Net × Y) → Type 0
IsNetPair w None = Unit {0}
IsNetPair w (Some p) = IsNet w p.0

some_one : {X : Type 0} (a b : X) → Some a ≡ Some b → a ≡ b
some_one a b e = cc

none_some : {X : Type 0} (x : X) → None ≡ Some x → ⊥
none_some x e = cc

pair_form : {P T Y : Type 0} (w : ℕ) (net : P → Net) (raw : P → ℕ) (item : T → Y) →
    ((n : Net) → IsNet w n → (p : P) × (net p ≡ n) × (raw p ≡ n.bits)) → (S : Net → Y → Type 0) → ((m : Net) (y : Y) → S m y → IsNet w m) →
    (above : Option (P × T)) → IsPairAbove w net raw above → (n : Net) (l : Option (Net × Y)) → Longest w S (pair_value net item above) n l →
    (m : Option (P × Y)) × IsPlainPair net raw l m
pair_form w net raw item onto S nets above ok n None h = (None, tt)
pair_form {P} {T} {Y} w net raw item onto S nets above ok n (Some l) (inl h) = let p = onto l.0 (nets l.0 l.1 h.0) in
    (Some (p.0, l.1), (sym p.1, p.2 ∙ ap (λ k. k.bits) (sym p.1), refl))
pair_form w net raw item onto S nets None ok n (Some l) (inr h) = absurd (none_some l h.1)
pair_form {P} {T} {Y} w net raw item onto S nets (Some a) ok n (Some l) (inr h) =
    let e : (net a.0, item a.1) ≡ l = some_one (net a.0, item a.1) l h.1 in
    (Some (a.0, l.1), (sym (ap (λ p. p.0) e), ok.1, refl))

entered_net : {V Y : Type 0} (w : ℕ) (valid : V → Type 0) (tell : V → ViewValue Y) (law : (v : V) → valid v →
    IsView w (tell v)) (all side : Option V) (d : ℕ) → IsUsableSide valid all → IsUsableSide valid side → (m : Net) (y : Y) →
    AsEntered tell all side d m y → IsNet w m
entered_net w valid tell law all side d oka oks m y (inl h) = side_pairs w valid tell law all oka m y h.1
entered_net w valid tell law all side d oka oks m y (inr h) = side_pairs w valid tell law side oks m y h.1

-- Each item has a form with prefixes.
pub prefixes_exist : {P A B S T X Y : Type 0} (w : ℕ) (net : P → Net) (raw : P → ℕ) →
    ((n : Net) → IsNet w n → (p : P) × (net p ≡ n) × (raw p ≡ n.bits)) →
    (va : A → Type 0) (ta : A → ViewValue X) (la : (v : A) → va v → IsView w (ta v)) (ia : S → X) (vb : B → Type 0) (tb : B → ViewValue Y) (lb : (v : B) →
    vb v → IsView w (tb v)) (ib : T → Y) (d : ℕ) (a : Option A) (b : Option B) (all_a : Option A) (all_b : Option B) (above_a : Option (P ×
    S)) (above_b : Option (P × T)) → IsUsableSide va a → IsUsableSide vb b → IsUsableSide va all_a → IsUsableSide vb all_b →
    IsPairAbove w net raw above_a → IsPairAbove w net raw above_b → (n : Net) (z : CoveringUnionItem Net X Y) →
    covering_at w ta tb d a b (record { all = all_a; above = pair_value net ia above_a }) (record {
      all = all_b;
      above =
          pair_value net ib above_b;
    }) n z → (u : CoveringUnionItem P X Y) × WithPrefixes net raw z u
prefixes_exist w net raw onto va ta la ia vb tb lb ib d a b all_a all_b above_a above_b ua ub oa ob pa pb n (Left x l) h =
    let m = pair_form w net raw ib onto (AsEntered tb all_b b d) (entered_net w vb tb lb all_b b d ob ub) above_b pb n l h.1 in
    (Left x m.0, (refl, m.1))
prefixes_exist w net raw onto va ta la ia vb tb lb ib d a b all_a all_b above_a above_b ua ub oa ob pa pb n (Right l y) h =
    let m = pair_form w net raw ia onto (AsEntered ta all_a a d) (entered_net w va ta la all_a a d oa ua) above_a pa n l h.1 in
    (Right m.0 y, (m.1, refl))
prefixes_exist w net raw onto va ta la ia vb tb lb ib d a b all_a all_b above_a above_b ua ub oa ob pa pb n (Both x y) h = (Both x y, (refl, refl))

-- ---- the item of a call

-- What contracts see of a pair without host bits is its form with a prefix.
pair_plain : {P T Y : Type 0} (net : P → Net) (raw : P → ℕ) (item : T → Y) (l : Option (P × T)) → HasNoHostBits net raw l →
    IsPlainPair net raw (pair_value net item l) (pair_value (λ p. p) item l)
pair_plain net raw item None h = tt
pair_plain net raw item (Some p) h = (refl, h, refl)

-- What contracts see of an item is its form with prefixes.
pub prefixes_of : {P A B X Y : Type 0} (net : P → Net) (raw : P → ℕ) (f : A → X) (g : B → Y) (z : CoveringUnionItem P A B) → HasPlainPairs net raw z →
    WithPrefixes net raw (covering_value net f g z) (covering_value (λ p. p) f g z)
prefixes_of net raw f g (Left a l) h = (refl, pair_plain net raw g l h)
prefixes_of net raw f g (Right l b) h = (pair_plain net raw f l h, refl)
prefixes_of net raw f g (Both a b) h = (refl, refl)

pair_onto : {P T Y : Type 0} (item : T → Y) → ((y : Y) → (t : T) × (item t ≡ y)) → (l : Option (P × Y)) → (m : Option (P × T)) ×
    (pair_value (λ p. p) item m ≡ l)
pair_onto item onto None = (None, refl)
pair_onto {P} {T} {Y} item onto (Some p) = let t = onto p.1 in let f : Y → Option (P × Y) = λ y. Some (p.0, y) in (Some (p.0, t.0), ap f t.1)

-- What contracts see of an item is seen of some item.
pub covering_onto : {P A B X Y : Type 0} (f : A → X) (g : B → Y) → ((x : X) → (a : A) × (f a ≡ x)) → ((y : Y) → (b : B) × (g b ≡ y)) →
    (z : CoveringUnionItem P X Y) → (u : CoveringUnionItem P A B) × (covering_value (λ p. p) f g u ≡ z)
covering_onto f g p q (Left x l) = let a = p x in let m = pair_onto g q l in (Left a.0 m.0, λ i. Left (a.1 i) (m.1 i))
covering_onto f g p q (Right l y) = let b = q y in let m = pair_onto f p l in (Right m.0 b.0, λ i. Right (m.1 i) (b.1 i))
covering_onto f g p q (Both x y) = let a = p x in let b = q y in (Both a.0 b.0, λ i. Both (a.1 i) (b.1 i))

-- ---- the laws

-- A covering union keeps the laws.
pub covering_view_laws : {P A B S T X Y : Type 0} (w : ℕ) (net : P → Net) (raw : P → ℕ) →
    ((p q : P) → (net p).len ≡ (net q).len → raw p ≡ raw q → p ≡ q) → ((n : Net) → IsNet w n → (p : P) × (net p ≡ n) × (raw p ≡ n.bits)) →
    (va : A → Type 0) (ta : A → ViewValue X) (la : (v : A) → va v → IsView w (ta v)) (ia : S → X) (vb : B → Type 0) (tb : B → ViewValue Y) (lb : (v : B) →
    vb v → IsView w (tb v)) (ib : T → Y) (place : Net) (a : Option A) (b : Option B) (all_a : Option A) (all_b : Option B) (above_a : Option (P ×
    S)) (above_b : Option (P × T)) → IsNet w place → IsInnerSide va ta w place a → IsInnerSide vb tb w place b → IsAlignedSide va ta w place all_a →
    IsAlignedSide vb tb w place all_b → IsPairAbove w net raw above_a → IsPairAbove w net raw above_b →
    IsView w (through_told (WithPrefixes net raw) (covering_told w ta tb place a b (record {
      all = all_a;
      above =
          pair_value net ia above_a;
    }) (record { all = all_b; above = pair_value net ib above_b })))
covering_view_laws w net raw one onto va ta la ia vb tb lb ib place a b all_a all_b above_a above_b ok in_a in_b ok_a ok_b pa pb =
    through_laws w (WithPrefixes net raw) _
    (covering_laws w va ta la vb tb lb place a b (record { all = all_a; above = pair_value net ia above_a }) (record {
      all = all_b;
      above =
          pair_value net ib above_b;
    }) ok in_a in_b ok_a ok_b)
    (prefixes_one net raw one)
    (prefixes_exist w net raw onto va ta la ia vb tb lb ib (depth_at place.len) a b all_a all_b above_a above_b (in_valid w va ta place a in_a)
    (in_valid w vb tb place b in_b) (side_valid w va ta place all_a ok_a) (side_valid w vb tb place all_b ok_b) pa pb)

-- A pair above the node has no host bits.
pub above_plain : {P T : Type 0} (w : ℕ) (net : P → Net) (raw : P → ℕ) (l : Option (P × T)) → IsPairAbove w net raw l → HasNoHostBits net raw l
above_plain w net raw None h = tt
above_plain w net raw (Some p) h = h.1

-- The prefix of a data bit of a node on the way to a key is a network.
pub bit_is_net : (w depth len key bit : ℕ) → depth ≡ depth_at len → key < 2 ^ w → bit < 31 → depth + level_of bit ≤ w → IsNet w (net_of_bit w depth key bit)
bit_is_net w depth len key bit d fits small end =
    let e : depth_at depth ≡ depth = omega (arith, d) in
    subst (λ k. IsNet w (net_of_bit w k key bit)) e (data_is_net w (record {
      bits = key;
      len =
          depth;
    }) bit fits small (subst (λ k. k + level_of bit ≤ w) (sym e) end))
