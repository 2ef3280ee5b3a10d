-- What becomes of a side when the place moves, a child or an item is taken.
use Rattle.std.proofs.Common.{◌≡◌, ℕ, ◌^◌, ◌<◌, ◌≤◌, ◌∙◌, sym, ap, subst, refl, arith, Bool, true, false, cond, eqb, leb, Option, Some, None}
use Rattle.std.specs.Prelude.{◌↔◌}
use Rattle.std.specs.Int.{bit_at}
use Rattle.std.proofs.lemmas.Bool.{eqb-true, leb-true, le-leb}
use Rattle.trie_model.specs.Nets.{Net, IsNet, covers}
use Rattle.trie_model.specs.Views.{depth_at, data_net, child_net, child_toward, same_net, ViewValue, IsView, TookData, CanMove, Moved}
use Rattle.trie_model.proofs.Places.{and_left, and_right, not_true, elim-false, covers_len, same_data_net}
use Rattle.trie_model.proofs.NodeLaws.{covers_trans, covers_between}
use Rattle.view_model.specs.Sides.{SideHasItem, SideHasPrefix, IsInnerSide, side_data_bits, SideSplit, SideMoved}
use Rattle.view_model.specs.Union.{SideTook}
use Rattle.view_model.proofs.Bits.{one-zero}
use Rattle.view_model.proofs.SideLaws.{covers_self, depth_mono, side_in_ok, side_untold, aligned_in}

-- ---- the place moves

-- A side that is missing stays missing.
pub moved_none : {V Y : Type 0} (valid : V → Type 0) (tell : V → ViewValue Y) (w : ℕ) (to : Net) → SideMoved valid tell w to None None
moved_none valid tell w to = record { inside = tt; at = λ n y. ((λ h. absurd h), (λ h. h.0)); frugal = λ h. h }

-- A side whose place lies in the new place stays as it is.
pub moved_kept : {V Y : Type 0} (valid : V → Type 0) (tell : V → ViewValue Y) (w : ℕ) (law : (v : V) → valid v → IsView w (tell v)) (to : Net) (v : V) →
    valid v → covers w to (tell v).place ≡ true → SideMoved valid tell w to (Some v) (Some v)
moved_kept valid tell w law to v ok c = record {
  inside = (ok, c);
  at = λ n y. ((λ h. (h, covers_trans w to (tell v).place n (law v ok).place_ok.len_fits c ((law v ok).pairs n y h).1)), (λ h. h.0));
  frugal = λ h. h;
}

-- A side whose place contains the new place is narrowed to it.
pub moved_into : {V Y : Type 0} (valid : V → Type 0) (tell : V → ViewValue Y) (w : ℕ) (to : Net) (v u : V) → IsNet w to → valid u →
    Moved w to (tell v) (tell u) → SideMoved valid tell w to (Some v) (Some u)
moved_into valid tell w to v u net ok moved = record {
  inside = (ok, ap (covers w to) moved.place ∙ covers_self w to net);
  at = moved.at;
  frugal = moved.frugal;
}

-- A side whose place is apart from the new place goes.
pub moved_apart : {V Y : Type 0} (valid : V → Type 0) (tell : V → ViewValue Y) (w : ℕ) (law : (v : V) → valid v → IsView w (tell v)) (to : Net) (v : V) →
    IsNet w to → valid v → (covers w to (tell v).place ≡ true → ⊥) → (covers w (tell v).place to ≡ true → ⊥) → SideMoved valid tell w to (Some v) None
moved_apart valid tell w law to v net ok off back = record {
  inside = tt;
  at = λ n y. (
    (λ h. absurd h),
    (λ h. absurd (apart n ((law v ok).pairs n y h.0).1 h.1)),
  );
  frugal = λ h. refl;
}
  where
    apart : (n : Net) → covers w (tell v).place n ≡ true → covers w to n ≡ true → ⊥
    apart n c d = at (leb to.len (tell v).place.len) refl
      where
        at : (b : Bool) → leb to.len (tell v).place.len ≡ b → ⊥
        at true e = off (covers_between w to (tell v).place n (law v ok).place_ok.len_fits (leb-true _ _ e) d c)
        at false e = back (covers_between w (tell v).place to n net.len_fits (let gt : (to.len ≤ (tell v).place.len → ⊥) =
            λ le. elim-false (sym e ∙ le-leb _ _ le) in let le : (tell v).place.len ≤ to.len = grind arith in le) c d)

-- A side's view that contains the new place may move there.
pub can_move : (w : ℕ) (place side to : Net) → CanMove w place to → covers w place side ≡ true → covers w side to ≡ true → CanMove w side to
can_move w place side to can c d = record {
  fits = can.fits;
  within = d;
  node = between (depth_at place.len) (depth_at side.len) (depth_at to.len) (depth_mono place.len side.len (covers_len w place side c))
      (depth_mono side.len to.len (covers_len w side to d)) can.node;
}
  where
    between : (a b c : ℕ) → a ≤ b → b ≤ c → c ≡ a → c ≡ b
    between a b c p q e = omega arith

-- ---- a child is taken

-- The child of a split side has its pairs below the bit.
pub split_child : {V Y : Type 0} (valid : V → Type 0) (tell : V → ViewValue Y) (w bit : ℕ) (place : Net) (old child rest : Option V) →
    SideSplit valid tell w place bit old child rest → (n : Net) (y : Y) → SideHasItem tell child n y ↔
    (SideHasItem tell old n y × (covers w (child_net w place bit) n ≡ true))
split_child valid tell w bit place old child rest s n y =
    ((λ h. let c = s.child_inside n y h in ((s.child_at n y c).0 h, c)), (λ h. (s.child_at n y h.1).1 h.0))

-- The rest of a split side has its other pairs.
pub split_rest : {V Y : Type 0} (valid : V → Type 0) (tell : V → ViewValue Y) (w bit : ℕ) (place : Net) (old child rest : Option V) →
    SideSplit valid tell w place bit old child rest → (n : Net) (y : Y) → SideHasItem tell rest n y ↔
    (SideHasItem tell old n y × (covers w (child_net w place bit) n ≡ false))
split_rest valid tell w bit place old child rest s n y = ((λ h. let c = s.rest_outside n y h in ((s.rest_at n y c).0 h, c)), (λ h. (s.rest_at n y h.1).1 h.0))

-- ---- an item is taken

-- Two networks with the same bits and length are one.
pub net_eq : (a b : Net) → same_net a b ≡ true → a ≡ b
net_eq a b h =
    let f : ℕ → ℕ → Net = λ x y. record { bits = x; len = y } in
    ap (λ x. f x a.len) (eqb-true a.bits b.bits (and_left _ _ h)) ∙ ap (f b.bits) (eqb-true a.len b.len (and_right _ _ h))

-- Nothing is taken from a side that has no such prefix.
pub took_nothing : {V T Y : Type 0} (valid : V → Type 0) (tell : V → ViewValue Y) (item : T → Y) (w : ℕ) (law : (v : V) → valid v →
    IsView w (tell v)) (place : Net) (bit : ℕ) (side : Option V) → bit < 31 → IsInnerSide valid tell w place side →
    bit_at (side_data_bits tell (depth_at place.len) side) bit ≡ 0 → SideTook {T = T} valid tell item w place bit side side None
took_nothing {V} {T} {Y} valid tell item w law place bit side lt ok unset = record {
  inside = ok;
  has = lacks;
  at = λ n y. ((λ h. (h, not_true _ (λ e. lacks (y, subst (λ m. SideHasItem tell side m y) (sym (net_eq _ _ e)) h)))), (λ h. h.0));
  child_bits = refl;
  frugal = λ h. h;
}
  where
    lacks : SideHasPrefix tell side (data_net w place bit) → ⊥
    lacks h = one-zero _ (side_untold w valid tell law place side (side_in_ok w valid tell law place side ok) bit h.0 lt h.1) unset

-- The item of a side's data bit.
pub took_item : {V T Y : Type 0} (valid : V → Type 0) (tell : V → ViewValue Y) (item : T → Y) (w : ℕ) (law : (v : V) → valid v →
    IsView w (tell v)) (place : Net) (bit : ℕ) (old new : V) (x : T) → valid new → IsInnerSide valid tell w place (Some old) →
    depth_at (tell old).place.len ≡ depth_at place.len → (tell old).at (data_net w (tell old).place bit) (item x) →
    TookData w bit (tell old) (tell new) → SideTook valid tell item w place bit (Some old) (Some new) (Some x)
took_item valid tell item w law place bit old new x ok inside depth at took =
    let al = aligned_in w place (tell old).place (law old inside.0).place_ok.len_fits inside.1 in
    let e : data_net w (tell old).place bit ≡ data_net w place bit = same_data_net w bit place (tell old).place depth al.node in
    record {
      inside = (ok, ap (covers w place) took.place ∙ inside.1);
      has = subst (λ n. (tell old).at n (item x)) e at;
      at = λ n y. (
        (λ h. let p = (took.at n y).0 h in (p.0, sym (ap (λ m. same_net m n) e) ∙ p.1)),
        (λ h. (took.at n y).1 (h.0, ap (λ m. same_net m n) e ∙ h.1)),
      );
      child_bits = ap (λ p. cond (eqb (depth_at p.len) (depth_at place.len)) (tell new).child_bits (2 ^ child_toward w (depth_at place.len) p.bits))
          took.place ∙ ap (λ m. cond (eqb (depth_at (tell old).place.len) (depth_at place.len)) m
          (2 ^ child_toward w (depth_at place.len) (tell old).place.bits)) took.child_bits;
      frugal = took.frugal;
    }
