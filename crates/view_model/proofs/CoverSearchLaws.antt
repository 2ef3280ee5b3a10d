-- The search that meets what contains its prefix, and what it gives.
use Rattle.std.proofs.Common.{◌≡◌, ℕ, ◌+◌, bit_and, ◌<◌, ◌≤◌, ◌∙◌, sym, ap, subst, refl, arith, true, false, Option, Some, None, inl, inr}
use Rattle.std.specs.Prelude.{IsTrue, ◌↔◌}
use Rattle.std.specs.Int.{bit_at}
use Rattle.trie_model.specs.Nets.{Net, IsNet, covers, masked}
use Rattle.trie_model.specs.Views.{depth_at, child_net, child_toward, ViewValue, IsView, IsChild, data_net}
use Rattle.trie_model.proofs.Places.{elim-false, covers_len, covers_way, covers_toward, depth_le, bit_below}
use Rattle.trie_model.proofs.NodeLaws.{covers_trans, covers_between}
use Rattle.view_model.specs.Find.{HasCover, FindingCover, CoverFound}
use Rattle.view_model.specs.Sides.{IsAligned}
use Rattle.view_model.specs.CoveringDifference.{CoveredBits}
use Rattle.view_model.proofs.SideLaws.{covers_self, aligned_in}
use Rattle.view_model.proofs.SplitLaws.{bits_at_depth}
use Rattle.std.proofs.lemmas.Nat.Bits.{bit_at_ones}
use Rattle.view_model.proofs.LongestLaws.{KeyMask, key_cover_mask, node_none}
use Rattle.trie_model.proofs.LongestLaws.{Highest, cond_is}
use Rattle.view_model.proofs.Bits.{and_bit_l, and_bit_r}
use Rattle.view_model.proofs.Bits.{one-zero, either, lt_cases}
use Rattle.view_model.proofs.FindLaws.{child_over}

-- A search for prefixes on the way starts with the whole view.
pub finding_start : {X : Type 0} (w : ℕ) (net : Net) (t : ViewValue X) → covers w t.place net ≡ true → FindingCover w net t t
finding_start w net t c = record { inside = c; same = λ n f h. ((λ k. k), (λ k. k)); frugal = λ h. h }

aligned_self : (w : ℕ) (a b : Net) → depth_at b.len ≡ depth_at a.len → covers w b a ≡ true → b.len ≤ w → IsAligned w a b
aligned_self w a b e c fits = record {
  deeper = (let q = e in omega (arith, q));
  node = sym (covers_way w (depth_at a.len) b a fits (subst (λ d. d ≤ b.len) e (depth_le b.len)) c);
}

-- No pair of the node contains the prefix.
pub record NoneCovers {X : Type 0} (w : ℕ) (net : Net) (u : ViewValue X) : Type 0 where
  pub none : (m : Net) (x : X) → u.at m x → m.len < depth_at u.place.len + 5 → covers w m net ≡ true → ⊥

-- Where no data bit contains the prefix, no pair of the node does.
pub clear_of : {V X : Type 0} (w : ℕ) (valid : V → Type 0) (tell : V → ViewValue X) (law : (v : V) → valid v →
    IsView w (tell v)) (v : V) (depth key len mask : ℕ) → valid v → depth ≡ depth_at (tell v).place.len →
    covers w (tell v).place (record { bits = key; len = len }) ≡ true → KeyMask w depth key len mask → bit_and (tell v).data_bits mask ≡ 0 →
    NoneCovers w (record { bits = key; len = len }) (tell v)
clear_of w valid tell law v depth key len mask ok d c m z =
    let place : Net = (tell v).place in
    let self : IsAligned w place place = aligned_self w place place refl (covers_self w place (law v ok).place_ok) (law v ok).place_ok.len_fits in
    let top = depth_le place.len in
    record {
      none = λ k x h lt over. node_none w valid tell law place (record { bits = key; len = len }) (Some v) mask (ok, self)
          (key_cover_mask w place depth key len mask (sym d) (covers_way w depth place (record {
            bits = key;
            len =
                len;
          }) (law v ok).place_ok.len_fits (let le : depth ≤ place.len = omega (arith, d, top) in le) c) m)
          (ap (λ b. bit_and b mask) (bits_at_depth tell (depth_at place.len) v refl) ∙ z)
          k x (lt, h) over;
    }

-- A search for prefixes on the way goes on in the child that the prefix leads to.
pub finding_child : {X : Type 0} (w bit : ℕ) (net : Net) (t u v : ViewValue X) → IsView w u → net.len ≤ w → depth_at u.place.len + 5 ≤ net.len →
    bit ≡ child_toward w (depth_at u.place.len) net.bits → NoneCovers w net u → FindingCover w net t u → IsChild w bit u v → FindingCover w net t v
finding_child {X} w bit net t u v ok fits deep e clear r is = record {
  inside = subst (λ p. covers w p net ≡ true) (sym is.place) over;
  same = λ n f c. ((λ h. (r.same n f c).0 (down n h)), (λ h. up n f c ((r.same n f c).1 h)));
  frugal = λ h. is.frugal (r.frugal h);
}
  where
    over : covers w (child_net w u.place bit) net ≡ true
    over = child_over w bit net u ok r.inside deep fits e

    down : (n : Net) → HasCover w v n → HasCover w u n
    down n h = (h.0, (h.1.0, (h.1.1.0, ((is.at h.0 h.1.1.0).0 h.1.1.1).0)))

    up : (n : Net) → n.len ≤ w → covers w net n ≡ true → HasCover w u n → HasCover w v n
    up n f c h =
        let m : Net = h.0 in
        let le = covers_len w m n h.1.0 in
        either
        (λ lt. absurd (clear.none m h.1.1.0 h.1.1.1 lt (covers_between w m net n fits (omega (arith, lt, deep)) h.1.0 c)))
        (λ ge. (
          m,
          (
            h.1.0,
            (
              h.1.1.0,
              (is.at m h.1.1.0).1 (
                h.1.1.1,
                covers_between w (child_net w u.place bit) m n (omega (arith, le, f)) ge (covers_trans w (child_net w u.place bit) net n fits over c) h.1.0,
              ),
            ),
          ),
        ))
        (lt_cases m.len (depth_at u.place.len + 5))

-- Nothing contains a prefix inside.
pub finding_none : {X : Type 0} (w bit : ℕ) (net : Net) (t u : ViewValue X) → IsView w u → net.len ≤ w → depth_at u.place.len + 5 ≤ net.len →
    bit ≡ child_toward w (depth_at u.place.len) net.bits → bit_at u.child_bits bit ≡ 0 → NoneCovers w net u → FindingCover w net t u → (n : Net) →
    n.len ≤ w → covers w net n ≡ true → HasCover w t n → ⊥
finding_none {X} w bit net t u ok fits deep e off clear r n f c h = at ((r.same n f c).1 h)
  where
    over : covers w (child_net w u.place bit) net ≡ true
    over = child_over w bit net u ok r.inside deep fits e

    at : HasCover w u n → ⊥
    at k =
        let m : Net = k.0 in
        let le = covers_len w m n k.1.0 in
        either
        (λ lt. clear.none m k.1.1.0 k.1.1.1 lt (covers_between w m net n fits (omega (arith, lt, deep)) k.1.0 c))
        (λ ge.
        let in_child = covers_between w (child_net w u.place bit) m n (omega (
          arith,
          le,
          f,
        )) ge (covers_trans w (child_net w u.place bit) net n fits over c) k.1.0 in
        let way = covers_way w (depth_at u.place.len) u.place m ok.place_ok.len_fits (depth_le u.place.len) (ok.pairs m k.1.1.0 k.1.1.1).1 in
        one-zero _ (subst (λ b. bit_at u.child_bits b ≡ 1) (covers_toward w bit u.place m (omega (
          arith,
          deep,
          fits,
        )) way in_child) (ok.below m k.1.1.0 k.1.1.1 ge)) off)
        (lt_cases m.len (depth_at u.place.len + 5))

-- What the search gives.
pub cover_found_none : {V Y : Type 0} (valid : V → Type 0) (tell : V → ViewValue Y) (w : ℕ) (net : Net) (t : ViewValue Y) →
    ((n : Net) → n.len ≤ w → covers w net n ≡ true → HasCover w t n → ⊥) → CoverFound valid tell w net t false None
cover_found_none valid tell w net t h = record {
  ok = tt;
  same = λ n f c. (either (λ k. absurd (elim-false k)) (λ k. absurd k.1.1.1), (λ k. absurd (h n f c k)));
  frugal = λ f. refl;
}

-- A view whose place is no shorter than the prefix and does not lie in it leaves no side.
pub cover_found_short : {V Y : Type 0} (valid : V → Type 0) (tell : V → ViewValue Y) (w : ℕ) (net : Net) (t : ViewValue Y) → IsView w t →
    net.len ≤ t.place.len → (covers w net t.place ≡ true → ⊥) → CoverFound valid tell w net t false None
cover_found_short valid tell w net t ok le p =
    cover_found_none valid tell w net t (λ n f c h. p (covers_between w net t.place n ok.place_ok.len_fits le c (covers_trans w t.place h.0 n (let l =
    covers_len w h.0 n h.1.0 in omega (arith, l, f)) (ok.pairs h.0 h.1.1.0 h.1.1.1).1 h.1.0)))

-- A view whose place is shorter than the prefix and does not contain it leaves no side.
pub cover_found_long : {V Y : Type 0} (valid : V → Type 0) (tell : V → ViewValue Y) (w : ℕ) (net : Net) (t : ViewValue Y) → IsNet w net → IsView w t →
    t.place.len < net.len → (covers w t.place net ≡ true → ⊥) → CoverFound valid tell w net t false None
cover_found_long valid tell w net t fits ok lt q =
    cover_found_none valid tell w net t (λ n f c h. q (covers_between w t.place net n fits.len_fits (let le : t.place.len ≤ net.len =
    omega (arith, lt) in le) (covers_trans w t.place h.0 n (let l = covers_len w h.0 n h.1.0 in omega (arith, l, f)) (ok.pairs h.0 h.1.1.0 h.1.1.1).1 h.1.0) c))

-- A pair on the way that contains the prefix contains all that lies in it.
pub cover_found_all : {V Y : Type 0} (valid : V → Type 0) (tell : V → ViewValue Y) (w : ℕ) (net : Net) (t u : ViewValue Y) (m : Net) (y : Y) → IsNet w net →
    FindingCover w net t u → u.at m y → covers w m net ≡ true → CoverFound valid tell w net t true None
cover_found_all valid tell w net t u m y fits r h c = record {
  ok = tt;
  same = λ n f i. ((λ k. (r.same n f i).0 (m, (covers_trans w m net n fits.len_fits c i, (y, h)))), (λ k. inl refl));
  frugal = λ f. refl;
}

cover_found_side : {V Y : Type 0} (valid : V → Type 0) (tell : V → ViewValue Y) (w : ℕ) (net : Net) (t : ViewValue Y) (v : V) → valid v →
    IsAligned w net (tell v).place → ((n : Net) → n.len ≤ w → covers w net n ≡ true → HasCover w (tell v) n ↔ HasCover w t n) →
    (IsTrue t.frugal → IsTrue (tell v).frugal) → CoverFound valid tell w net t false (Some v)
cover_found_side valid tell w net t v ok al same f = record {
  ok = (ok, al);
  same = λ n fits c. (either (λ k. absurd (elim-false k)) (λ k. (same n fits c).0 k), (λ k. inr ((same n fits c).1 k)));
  frugal = f;
}

-- A view whose place lies in the prefix is the side itself.
pub cover_found_whole : {V Y : Type 0} (valid : V → Type 0) (tell : V → ViewValue Y) (w : ℕ) (law : (v : V) → valid v →
    IsView w (tell v)) (net : Net) (v : V) → valid v → covers w net (tell v).place ≡ true → CoverFound valid tell w net (tell v) false (Some v)
cover_found_whole valid tell w law net v ok c =
    cover_found_side valid tell w net (tell v) v ok (aligned_in w net (tell v).place (law v ok).place_ok.len_fits c) (λ n f i. ((λ k. k), (λ k. k))) (λ h. h)

-- The view at the node of the prefix is the side.
pub cover_found_here : {V Y : Type 0} (valid : V → Type 0) (tell : V → ViewValue Y) (w : ℕ) (law : (v : V) → valid v →
    IsView w (tell v)) (net : Net) (t : ViewValue Y) (v : V) → valid v → net.len < depth_at (tell v).place.len + 5 → FindingCover w net t (tell v) →
    CoverFound valid tell w net t false (Some v)
cover_found_here valid tell w law net t v ok short r =
    cover_found_side valid tell w net t v ok (aligned_self w net (tell v).place (here (covers_len w (tell v).place net r.inside) short) r.inside
    (law v ok).place_ok.len_fits) r.same r.frugal
  where
    here : (tell v).place.len ≤ net.len → net.len < depth_at (tell v).place.len + 5 → depth_at (tell v).place.len ≡ depth_at net.len
    here p q = omega arith

-- Everything is hidden.
pub covered_bits_all : {V Y : Type 0} (w : ℕ) (tell : V → ViewValue Y) (place : Net) (side : Option V)
    → CoveredBits w place tell true side 4294967295 4294967295
covered_bits_all w tell place side = record {
  data_fit = omega arith;
  children_fit = omega arith;
  data_in = λ bit lt fits h. inl refl;
  data_all = λ bit lt fits h. bit_at_ones 32 bit (omega arith);
  children_in = λ bit lt fits h. inl refl;
  children_all = λ bit lt fits h. bit_at_ones 32 bit lt;
}

-- A data bit on the way contains the prefix.
pub cover_in_node : {V Y : Type 0} (w : ℕ) (valid : V → Type 0) (tell : V → ViewValue Y) (law : (v : V) → valid v →
    IsView w (tell v)) (net : Net) (t : ViewValue Y) (v : V) (depth mask j : ℕ) → IsNet w net → valid v → depth ≡ depth_at (tell v).place.len →
    FindingCover w net t (tell v) → KeyMask w depth net.bits net.len mask → Highest (bit_and (tell v).data_bits mask) j →
    CoverFound valid tell w net t true None
cover_in_node w valid tell law net t v depth mask j fits ok d r m high =
    let place : Net = (tell v).place in
    let top = depth_le place.len in
    let bits = (law v ok).data_fit in
    let small : j < 31 = bit_below 31 (tell v).data_bits j bits (and_bit_l (tell v).data_bits mask j high.set) in
    let has = (law v ok).told j small (and_bit_l (tell v).data_bits mask j high.set) in
    let way : masked w net.bits depth ≡ masked w place.bits depth =
    covers_way w depth place net (law v ok).place_ok.len_fits (let le : depth ≤ place.len = omega (arith, d, top) in le) r.inside in
    let over = (key_cover_mask w place depth net.bits net.len mask (sym d) way m).is j small in
    cover_found_all valid tell w net t (tell v) (data_net w place j) has.0 fits r has.1 (cond_is _ _ over (and_bit_r (tell v).data_bits mask j high.set))
