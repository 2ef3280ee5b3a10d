-- The laws of a covering difference from the laws of its sides.
use Rattle.std.proofs.Common.{◌≡◌, ℕ, ◌+◌, ◌<◌, ◌≤◌, ◌∙◌, sym, ap, subst, arith, Bool, true, false, bit_and, min, Option, inl, inr, lt_of_le_of_lt}
use Rattle.std.specs.Prelude.{◌↔◌, ◌⊎◌}
use Rattle.std.specs.Int.{bit_at, bit_not, w32}
use Rattle.std.proofs.lemmas.Nat.{and_le_l}
use Rattle.std.proofs.lemmas.Nat.Bits.{bit_at_and}
use Rattle.trie_model.specs.Nets.{Net, IsNet, covers, masked}
use Rattle.trie_model.specs.Views.{depth_at, level_of, data_net, child_net, child_toward, ViewValue, IsView, TookData, TookChild, IsChild, CanMove, Moved}
use Rattle.trie_model.proofs.Places.{bit_below, not_one, not_true, elim-false, covers_len, covers_way, depth_le}
use Rattle.trie_model.proofs.Places.{same_data_net, same_child_net, toward_covers, level_le}
use Rattle.trie_model.proofs.NodeLaws.{covers_trans, covers_between}
use Rattle.view_model.specs.Sides.{SideHasPrefix, SideSplit}
use Rattle.view_model.specs.CoveringDifference.{IsCovered, IsCoveredByShorter, CoveredBits, covering_difference_told}
use Rattle.view_model.proofs.Bits.{one-zero, and_bit_l, and_not_r, and_not_set, lt_cases}
use Rattle.view_model.proofs.DifferenceLaws.{stay, stay_there, and_frugal, both_frugal}

-- ---- shades

-- A prefix that lies in a shorter one of the side lies in one of the side.
pub covered_less : {V Y : Type 0} (w : ℕ) (tell : V → ViewValue Y) (covered : Bool) (side : Option V) (limit : ℕ) (n : Net) →
    IsCoveredByShorter w tell covered side limit n → IsCovered w tell covered side n
covered_less w tell covered side limit n (inl c) = inl c
covered_less w tell covered side limit n (inr h) = inr (h.0, (h.1.1, h.1.2))

-- What contains a short prefix is short.
pub covered_short : {V Y : Type 0} (w : ℕ) (tell : V → ViewValue Y) (covered : Bool) (side : Option V) (limit : ℕ) (n : Net) → n.len < limit →
    IsCovered w tell covered side n → IsCoveredByShorter w tell covered side limit n
covered_short w tell covered side limit n lt (inl c) = inl c
covered_short w tell covered side limit n lt (inr h) = inr (h.0, (let le = covers_len w h.0 n h.1.0 in omega (arith, le, lt), h.1.0, h.1.1))

data_short : (place : Net) (w bit : ℕ) → (data_net w place bit).len < depth_at place.len + 5
data_short place w bit = let l = level_le bit in omega (arith, l)

-- A prefix below a shaded one is shaded.
covered_below : {V Y : Type 0} (w : ℕ) (tell : V → ViewValue Y) (covered : Bool) (side : Option V) (limit : ℕ) (c n : Net) → c.len ≤ w →
    covers w c n ≡ true → IsCoveredByShorter w tell covered side limit c → IsCovered w tell covered side n
covered_below w tell covered side limit c n fits in_c (inl h) = inl h
covered_below w tell covered side limit c n fits in_c (inr h) = inr (h.0, (covers_trans w h.0 c n fits h.1.1 in_c, h.1.2))

-- ---- the laws

-- A covering difference keeps the laws of views where its first view does.
pub outside_laws : {V X Y : Type 0} (w : ℕ) (tell : V →
    ViewValue Y) (left : ViewValue X) (covered : Bool) (side : Option V) (covered_data covered_children : ℕ) → IsView w left →
    CoveredBits w left.place tell covered side covered_data covered_children →
    IsView w (covering_difference_told w tell left covered side covered_data covered_children)
outside_laws {V} {X} {Y} w tell left covered side covered_data covered_children ok s = record {
  place_ok = ok.place_ok;
  data_fit = lt_of_le_of_lt (and_le_l left.data_bits (bit_not w32 covered_data)) ok.data_fit;
  children_fit = lt_of_le_of_lt (and_le_l left.child_bits (bit_not w32 covered_children)) ok.children_fit;
  pairs = λ n x h. ok.pairs n x h.0;
  one = λ n x y p q. ok.one n x y p.0 q.0;
  told = λ bit lt h.
      let l = ok.told bit lt (and_bit_l left.data_bits (bit_not w32 covered_data) bit h) in (
        l.0,
        (
          l.1,
          λ z. one-zero _ (s.data_all bit lt (ok.pairs _ l.0 l.1).0.len_fits
              (covered_short w tell covered side _ _ (data_short left.place w bit) z)) (and_not_r left.data_bits covered_data bit s.data_fit (omega arith) h),
        ),
      );
  untold = λ bit x lt h.
      and_not_set left.data_bits covered_data bit s.data_fit (omega arith) (ok.untold bit x lt h.0)
      (not_one covered_data bit (λ one. h.1 (covered_less w tell covered side _ _ (s.data_in bit lt (ok.pairs _ x h.0).0.len_fits one))));
  below = λ n x h long.
      let d : ℕ = depth_at left.place.len in
      let bit : ℕ = child_toward w d n.bits in
      let set = ok.below n x h.0 long in
      let fits = ok.deep bit set in
      let small = bit_below 32 left.child_bits bit ok.children_fit set in
      let way : masked w n.bits d ≡ masked w left.place.bits d =
      covers_way w d left.place n ok.place_ok.len_fits (depth_le left.place.len) (ok.pairs n x h.0).1 in
      let over : covers w (child_net w left.place bit) n ≡ true = toward_covers w left.place n fits long way in
      and_not_set left.child_bits covered_children bit s.children_fit small set
      (not_one covered_children bit (λ one. h.1 (covered_below w tell covered side _ (child_net w left.place bit) n fits over
      (s.children_in bit small fits one))));
  deep = λ bit h. ok.deep bit (and_bit_l left.child_bits (bit_not w32 covered_children) bit h);
}

-- The item of a bit that is set.
pub outside_item : {V X Y : Type 0} (w : ℕ) (tell : V →
    ViewValue Y) (left : ViewValue X) (covered : Bool) (side : Option V) (covered_data covered_children : ℕ) → IsView w left →
    CoveredBits w left.place tell covered side covered_data covered_children → (bit : ℕ) →
    bit_at (covering_difference_told w tell left covered side covered_data covered_children).data_bits bit ≡ 1 → (x : X) →
    left.at (data_net w left.place bit) x → (covering_difference_told w tell left covered side covered_data covered_children).at (data_net w left.place bit) x
outside_item w tell left covered side covered_data covered_children ok s bit set x e =
    let lt = bit_below 31 left.data_bits bit ok.data_fit (and_bit_l left.data_bits (bit_not w32 covered_data) bit set) in (
      e,
      λ z. one-zero _ (s.data_all bit lt (ok.pairs _ x e).0.len_fits (covered_short w tell covered side _ _ (data_short left.place w bit) z))
          (and_not_r left.data_bits covered_data bit s.data_fit (omega arith) set),
    )

-- ---- a data bit is taken, the place moves

-- A pair taken out of the first view is taken out of the covering difference.
pub outside_took : {V X Y : Type 0} (w bit : ℕ) (tell : V →
    ViewValue Y) (left new : ViewValue X) (covered : Bool) (side : Option V) (covered_data covered_children : ℕ) → TookData w bit left new →
    TookData w bit (covering_difference_told w tell left covered side covered_data covered_children)
    (covering_difference_told w tell new covered side covered_data covered_children)
outside_took w bit tell left new covered side covered_data covered_children took = record {
  place = took.place;
  child_bits = ap (λ m. bit_and m (bit_not w32 covered_children)) took.child_bits;
  at = λ n x. stay (took.at n x);
  frugal = and_frugal _ _ _ took.frugal;
}

-- A covering difference moves with its first view.
pub outside_moved : {V X Y : Type 0} (w : ℕ) (to : Net) (tell : V →
    ViewValue Y) (left new : ViewValue X) (covered : Bool) (side : Option V) (covered_data covered_children : ℕ) → Moved w to left new →
    Moved w to (covering_difference_told w tell left covered side covered_data covered_children)
    (covering_difference_told w tell new covered side covered_data covered_children)
outside_moved w to tell left new covered side covered_data covered_children moved = record {
  place = moved.place;
  at = λ n x. stay (moved.at n x);
  frugal = and_frugal _ _ _ moved.frugal;
}

-- The shades are those of the node.
pub covered_bits_same : {V Y : Type 0} (w : ℕ) (tell : V →
    ViewValue Y) (old new : Net) (covered : Bool) (side : Option V) (covered_data covered_children : ℕ) → depth_at new.len ≡ depth_at old.len →
    masked w new.bits (depth_at old.len) ≡ masked w old.bits (depth_at old.len) → CoveredBits w old tell covered side covered_data covered_children →
    CoveredBits w new tell covered side covered_data covered_children
covered_bits_same w tell old new covered side covered_data covered_children e m s = record {
  data_fit = s.data_fit;
  children_fit = s.children_fit;
  data_in = λ bit lt fits h. to_data bit (s.data_in bit lt (subst (λ d. d + level_of bit ≤ w) e fits) h);
  data_all = λ bit lt fits h. s.data_all bit lt (subst (λ d. d + level_of bit ≤ w) e fits) (of_data bit h);
  children_in = λ bit lt fits h. to_kid bit (s.children_in bit lt (subst (λ d. d + 5 ≤ w) e fits) h);
  children_all = λ bit lt fits h. s.children_all bit lt (subst (λ d. d + 5 ≤ w) e fits) (of_kid bit h);
}
  where
    to_data : (bit : ℕ) → IsCoveredByShorter w tell covered side (depth_at old.len + 5) (data_net w old bit) →
        IsCoveredByShorter w tell covered side (depth_at new.len + 5) (data_net w new bit)
    to_data bit h = subst (λ d. IsCoveredByShorter w tell covered side (d + 5) (data_net w new bit)) (sym e)
        (subst (IsCoveredByShorter w tell covered side (depth_at old.len + 5)) (sym (same_data_net w bit old new e m)) h)

    of_data : (bit : ℕ) → IsCoveredByShorter w tell covered side (depth_at new.len + 5) (data_net w new bit) →
        IsCoveredByShorter w tell covered side (depth_at old.len + 5) (data_net w old bit)
    of_data bit h = subst (λ d. IsCoveredByShorter w tell covered side (d + 5) (data_net w old bit)) e
        (subst (IsCoveredByShorter w tell covered side (depth_at new.len + 5)) (same_data_net w bit old new e m) h)

    to_kid : (bit : ℕ) → IsCoveredByShorter w tell covered side (depth_at old.len + 5) (child_net w old bit) →
        IsCoveredByShorter w tell covered side (depth_at new.len + 5) (child_net w new bit)
    to_kid bit h = subst (λ d. IsCoveredByShorter w tell covered side (d + 5) (child_net w new bit)) (sym e)
        (subst (IsCoveredByShorter w tell covered side (depth_at old.len + 5)) (sym (same_child_net w bit old new e m)) h)

    of_kid : (bit : ℕ) → IsCoveredByShorter w tell covered side (depth_at new.len + 5) (child_net w new bit) →
        IsCoveredByShorter w tell covered side (depth_at old.len + 5) (child_net w old bit)
    of_kid bit h = subst (λ d. IsCoveredByShorter w tell covered side (d + 5) (child_net w old bit)) e
        (subst (IsCoveredByShorter w tell covered side (depth_at new.len + 5)) (same_child_net w bit old new e m) h)

-- The covered bits of a node are those of each place in it.
pub covered_bits_moved : {V Y : Type 0} (w : ℕ) (tell : V →
    ViewValue Y) (old to new : Net) (covered : Bool) (side : Option V) (covered_data covered_children : ℕ) → IsNet w old → CanMove w old to → new ≡ to →
    CoveredBits w old tell covered side covered_data covered_children → CoveredBits w new tell covered side covered_data covered_children
covered_bits_moved w tell old to new covered side covered_data covered_children ok can e s =
    subst (λ p. CoveredBits w p tell covered side covered_data covered_children) (sym e)
    (covered_bits_same w tell old to covered side covered_data covered_children can.node
    (covers_way w (depth_at old.len) old to ok.len_fits (depth_le old.len) can.within) s)

-- The covered bits of equal places are the same.
pub covered_bits_placed : {V Y : Type 0} (w : ℕ) (tell : V →
    ViewValue Y) (old new : Net) (covered : Bool) (side : Option V) (covered_data covered_children : ℕ) → new ≡ old →
    CoveredBits w old tell covered side covered_data covered_children → CoveredBits w new tell covered side covered_data covered_children
covered_bits_placed w tell old new covered side covered_data covered_children e s =
    subst (λ p. CoveredBits w p tell covered side covered_data covered_children) (sym e) s

-- ---- a child is taken

-- Below a child that is not hidden, the side's child has what contains a prefix.
pub is_covered_child : {V Y : Type 0} (w bit : ℕ) (valid : V → Type 0) (tell : V → ViewValue Y) (law : (v : V) → valid v →
    IsView w (tell v)) (place : Net) (covered : Bool) (side child rest : Option V) (covered_data covered_children : ℕ) →
    SideSplit valid tell w place bit side child rest → CoveredBits w place tell covered side covered_data covered_children → bit < 32 →
    depth_at place.len + 5 ≤ w → bit_at covered_children bit ≡ 0 → (n : Net) → n.len ≤ w → covers w (child_net w place bit) n ≡ true →
    IsCovered w tell false child n ↔ IsCovered w tell covered side n
is_covered_child {V} {Y} w bit valid tell law place covered side child rest covered_data covered_children split s small deep off n fits c = (down, up)
  where
    down : IsCovered w tell false child n → IsCovered w tell covered side n
    down (inl h) = absurd (elim-false h)
    down (inr h) = inr (h.0, (h.1.0, (h.1.1.0, (split.child_at h.0 h.1.1.0 (split.child_inside h.0 h.1.1.0 h.1.1.1)).0 h.1.1.1)))

    at : (m : Net) → covers w m n ≡ true → SideHasPrefix tell side m → (m.len < depth_at place.len + 5) ⊎ (depth_at place.len + 5 ≤ m.len) →
        IsCovered w tell false child n
    at m over h (inl lt) = absurd (one-zero _ (s.children_all bit small deep (inr (
      m,
      (lt, covers_between w m (child_net w place bit) n deep (omega arith) over c, h),
    ))) off)
    at m over h (inr le) = inr (
      m,
      (
        over,
        (
          h.0,
          (split.child_at m h.0 (covers_between w (child_net w place bit) m n (let l = covers_len w m n over in omega (arith, l, fits)) le c over)).1 h.1,
        ),
      ),
    )

    up : IsCovered w tell covered side n → IsCovered w tell false child n
    up (inl h) = absurd (one-zero _ (s.children_all bit small deep (inl h)) off)
    up (inr h) = at h.0 h.1.0 h.1.1 (lt_cases h.0.len (depth_at place.len + 5))

-- Outside the child, the rest has what contains a prefix.
pub is_covered_rest : {V Y : Type 0} (w bit : ℕ) (valid : V → Type 0) (tell : V →
    ViewValue Y) (place : Net) (covered : Bool) (side child rest : Option V) → SideSplit valid tell w place bit side child rest → (n : Net) → n.len ≤ w →
    covers w (child_net w place bit) n ≡ false → IsCovered w tell covered rest n ↔ IsCovered w tell covered side n
is_covered_rest {V} {Y} w bit valid tell place covered side child rest split n fits c = (down, up)
  where
    out : (m : Net) → covers w m n ≡ true → covers w (child_net w place bit) m ≡ false
    out m over = not_true _ (λ i. elim-false (sym c ∙ covers_trans w (child_net w place bit) m n (let l = covers_len w m n over in
        omega (arith, l, fits)) i over))

    down : IsCovered w tell covered rest n → IsCovered w tell covered side n
    down (inl h) = inl h
    down (inr h) = inr (h.0, (h.1.0, (h.1.1.0, (split.rest_at h.0 h.1.1.0 (out h.0 h.1.0)).0 h.1.1.1)))

    up : IsCovered w tell covered side n → IsCovered w tell covered rest n
    up (inl h) = inl h
    up (inr h) = inr (h.0, (h.1.0, (h.1.1.0, (split.rest_at h.0 h.1.1.0 (out h.0 h.1.0)).1 h.1.1.1)))

-- The rest hides the same bits.
pub covered_bits_rest : {V Y : Type 0} (w bit : ℕ) (valid : V → Type 0) (tell : V →
    ViewValue Y) (place : Net) (covered : Bool) (side child rest : Option V) (covered_data covered_children : ℕ) →
    SideSplit valid tell w place bit side child rest → CoveredBits w place tell covered side covered_data covered_children →
    CoveredBits w place tell covered rest covered_data covered_children
covered_bits_rest {V} {Y} w bit valid tell place covered side child rest covered_data covered_children split s = record {
  data_fit = s.data_fit;
  children_fit = s.children_fit;
  data_in = λ b lt fits h. up _ (s.data_in b lt fits h);
  data_all = λ b lt fits h. s.data_all b lt fits (down _ h);
  children_in = λ b lt fits h. up _ (s.children_in b lt fits h);
  children_all = λ b lt fits h. s.children_all b lt fits (down _ h);
}
  where
    out : (m : Net) → m.len < depth_at place.len + 5 → covers w (child_net w place bit) m ≡ false
    out m lt = not_true _ (λ i. let le = covers_len w (child_net w place bit) m i in let no' : ⊥ = omega (arith, le, lt) in no')

    down : (n : Net) → IsCoveredByShorter w tell covered rest (depth_at place.len + 5) n → IsCoveredByShorter w tell covered side (depth_at place.len + 5) n
    down n (inl h) = inl h
    down n (inr h) = inr (h.0, (h.1.0, h.1.1, (h.1.2.0, (split.rest_at h.0 h.1.2.0 (out h.0 h.1.0)).0 h.1.2.1)))

    up : (n : Net) → IsCoveredByShorter w tell covered side (depth_at place.len + 5) n → IsCoveredByShorter w tell covered rest (depth_at place.len + 5) n
    up n (inl h) = inl h
    up n (inr h) = inr (h.0, (h.1.0, h.1.1, (h.1.2.0, (split.rest_at h.0 h.1.2.0 (out h.0 h.1.0)).1 h.1.2.1)))

-- The child of a covering difference has exactly its pairs below the bit.
pub outside_child : {V X Y : Type 0} (w bit : ℕ) (valid : V → Type 0) (tell : V → ViewValue Y) (law : (v : V) → valid v →
    IsView w (tell v)) (left new : ViewValue X) (covered : Bool) (side child rest : Option V)
    (covered_data covered_children covered_data' covered_children' : ℕ) → IsView w left → IsChild w bit left new →
    SideSplit valid tell w left.place bit side child rest → CoveredBits w left.place tell covered side covered_data covered_children →
    bit_at (bit_and left.child_bits (bit_not w32 covered_children)) bit ≡ 1 →
    IsChild w bit (covering_difference_told w tell left covered side covered_data covered_children)
    (covering_difference_told w tell new false child covered_data' covered_children')
outside_child w bit valid tell law left new covered side child rest covered_data covered_children covered_data' covered_children' ok is split s set =
    let on = and_bit_l left.child_bits (bit_not w32 covered_children) bit set in
    let small = bit_below 32 left.child_bits bit ok.children_fit on in
    let off = and_not_r left.child_bits covered_children bit s.children_fit small set in
    record {
      place = is.place;
      at = λ n x. stay_there (is.at n x) (λ a c. is_covered_child w bit valid tell law left.place covered side child rest covered_data
          covered_children split s small (ok.deep bit on) off n (ok.pairs n x a).0.len_fits c);
      frugal = both_frugal _ _ _ _ is.frugal split.child_frugal;
    }

and_kept : (x y z : ℕ) → x ≡ y → min x z ≡ min y z
and_kept x y z e = ap (λ a. min a z) e

and_gone : (x z : ℕ) → x ≡ 0 → min x z ≡ 0
and_gone x z e = omega arith

-- A child taken out of both sides is taken out of the covering difference.
pub outside_took_child : {V X Y : Type 0} (w bit : ℕ) (valid : V → Type 0) (tell : V →
    ViewValue Y) (left new : ViewValue X) (covered : Bool) (side child rest : Option V) (covered_data covered_children : ℕ) → IsView w left →
    TookChild w bit left new → SideSplit valid tell w left.place bit side child rest →
    TookChild w bit (covering_difference_told w tell left covered side covered_data covered_children)
    (covering_difference_told w tell new covered rest covered_data covered_children)
outside_took_child w bit valid tell left new covered side child rest covered_data covered_children ok took split = record {
  place = took.place;
  data_bits = ap (λ x. bit_and x (bit_not w32 covered_data)) took.data_bits;
  others = λ b ne. bit_at_and new.child_bits (bit_not w32 covered_children) b ∙ and_kept _ _ _ (took.others b ne) ∙
      sym (bit_at_and left.child_bits (bit_not w32 covered_children) b);
  gone = bit_at_and new.child_bits (bit_not w32 covered_children) bit ∙ and_gone _ _ took.gone;
  at = λ n x. stay_there (took.at n x) (λ a c. is_covered_rest w bit valid tell left.place covered side child rest split n (ok.pairs n x a).0.len_fits c);
  frugal = both_frugal _ _ _ _ took.frugal split.rest_frugal;
}
