-- The way down to a prefix.
use Rattle.std.proofs.Common.{◌≡◌, ℕ, ◌+◌, ◌<◌, ◌≤◌, ◌∙◌, sym, ap, subst, arith, true, cond, leb, inl, inr}
use Rattle.std.specs.Int.{bit_at}
use Rattle.std.proofs.lemmas.Bool.{leb-true, le-leb}
use Rattle.trie_model.specs.Nets.{Net, IsNet, covers}
use Rattle.trie_model.specs.Views.{depth_at, child_net, child_toward, ViewValue, IsView, IsChild, CanMove, Moved}
use Rattle.trie_model.proofs.Places.{not_true, covers_len, covers_way, covers_toward, toward_covers, depth_le}
use Rattle.trie_model.proofs.NodeLaws.{covers_trans, covers_between}
use Rattle.view_model.specs.Find.{longer, IsPartIn, HasNoneIn, Finding}
use Rattle.view_model.proofs.SideLaws.{covers_self}
use Rattle.view_model.proofs.Bits.{one-zero}

-- The longer of two prefixes is the first where the second is no longer.
pub longer_left : (a b : Net) → b.len ≤ a.len → a ≡ longer a b
longer_left a b h = ap (λ t. cond t a b) (sym (le-leb b.len a.len h))

-- The longer of two prefixes is the second where the first is shorter.
pub longer_right : (a b : Net) → a.len < b.len → b ≡ longer a b
longer_right a b h = ap (λ t. cond t a b) (sym (not_true (leb b.len a.len) (λ e. let le = leb-true b.len a.len e in let no' : ⊥ = omega (arith, le, h) in no')))

-- The prefix contains the place.
pub whole : {X : Type 0} (w : ℕ) (net : Net) (t : ViewValue X) → IsView w t → covers w net t.place ≡ true → IsPartIn w net t t
whole w net t ok c = record {
  place = longer_left t.place net (covers_len w net t.place c);
  one = inr c;
  inside = c;
  at = λ n x. ((λ h. (h, covers_trans w net t.place n ok.place_ok.len_fits c (ok.pairs n x h).1)), (λ h. h.0));
  frugal = λ h. h;
}

-- The prefix is no longer than the place, and doesn't contain it.
pub apart_short : {X : Type 0} (w : ℕ) (net : Net) (t : ViewValue X) → IsView w t → net.len ≤ t.place.len
    → (covers w net t.place ≡ true → ⊥) → HasNoneIn w net t
apart_short w net t ok le p = record {
  none = λ n x h c. p (covers_between w net t.place n ok.place_ok.len_fits le c (ok.pairs n x h).1);
  not_all = p;
}

-- The prefix is longer than the place, which doesn't contain it.
pub apart_long : {X : Type 0} (w : ℕ) (net : Net) (t : ViewValue X) → IsNet w net → IsView w t → t.place.len < net.len →
    (covers w t.place net ≡ true → ⊥) → HasNoneIn w net t
apart_long w net t fits ok lt q = record {
  none = λ n x h c. q (covers_between w t.place net n fits.len_fits (let le : t.place.len ≤ net.len = omega (arith, lt) in le) (ok.pairs n x h).1 c);
  not_all = λ c. let le = covers_len w net t.place c in let no' : ⊥ = omega (arith, le, lt) in no';
}

-- A search starts with the whole view.
pub find_start : {X : Type 0} (w : ℕ) (net : Net) (t : ViewValue X) → covers w t.place net ≡ true → Finding w net t t
find_start w net t c = record { inside = c; at = λ n x h. ((λ k. k), (λ k. k)); start = c; frugal = λ h. h }

-- The child on the way contains the prefix.
pub child_over : {X : Type 0} (w bit : ℕ) (net : Net) (t : ViewValue X) → IsView w t → covers w t.place net ≡ true → depth_at t.place.len + 5 ≤ net.len →
    net.len ≤ w → bit ≡ child_toward w (depth_at t.place.len) net.bits → covers w (child_net w t.place bit) net ≡ true
child_over w bit net t ok c deep fits e =
    subst (λ b. covers w (child_net w t.place b) net ≡ true) (sym e)
    (toward_covers w t.place net (omega (
      arith,
      deep,
      fits,
    )) deep (covers_way w (depth_at t.place.len) t.place net ok.place_ok.len_fits (depth_le t.place.len) c))

-- A search goes on in the child that the prefix leads to.
pub find_child : {X : Type 0} (w bit : ℕ) (net : Net) (t u v : ViewValue X) → IsView w u → net.len ≤ w → depth_at u.place.len + 5 ≤ net.len →
    bit ≡ child_toward w (depth_at u.place.len) net.bits → Finding w net t u → IsChild w bit u v → Finding w net t v
find_child w bit net t u v ok fits deep e r is =
    let over = child_over w bit net u ok r.inside deep fits e in
    record {
      inside = subst (λ p. covers w p net ≡ true) (sym is.place) over;
      at = λ n x c. (
        (λ h. (r.at n x c).0 ((is.at n x).0 h).0),
        (λ h. (is.at n x).1 ((r.at n x c).1 h, covers_trans w (child_net w u.place bit) net n fits over c)),
      );
      start = r.start;
      frugal = λ h. is.frugal (r.frugal h);
    }

-- No pair where the child on the way is missing.
pub find_none : {X : Type 0} (w bit : ℕ) (net : Net) (t u : ViewValue X) → IsView w u → net.len ≤ w → depth_at u.place.len + 5 ≤ net.len →
    bit ≡ child_toward w (depth_at u.place.len) net.bits → bit_at u.child_bits bit ≡ 0 → t.place.len < net.len → Finding w net t u → HasNoneIn w net t
find_none {X} w bit net t u ok fits deep e off lt r = record {
  none = λ n x h c.
      let d : ℕ = depth_at u.place.len in
      let over = child_over w bit net u ok r.inside deep fits e in
      let long : d + 5 ≤ n.len = let le = covers_len w net n c in omega (arith, le, deep) in
      let k = (r.at n x c).1 h in
      let way = covers_way w d u.place n ok.place_ok.len_fits (depth_le u.place.len) (ok.pairs n x k).1 in
      let toward = covers_toward w bit u.place n (omega (arith, deep, fits)) way (covers_trans w (child_net w u.place bit) net n fits over c) in
      one-zero _ (subst (λ b. bit_at u.child_bits b ≡ 1) toward (ok.below n x k long)) off;
  not_all = λ c. let le = covers_len w net t.place c in let no' : ⊥ = omega (arith, le, lt) in no';
}

-- In the node of the prefix.
pub find_can : {X : Type 0} (w : ℕ) (net : Net) (t u : ViewValue X) → IsNet w net → net.len < depth_at u.place.len + 5 → Finding w net t u
    → CanMove w u.place net
find_can w net t u fits short r = record {
  fits = fits;
  within = r.inside;
  node = same (covers_len w u.place net r.inside) short;
}
  where
    same : u.place.len ≤ net.len → net.len < depth_at u.place.len + 5 → depth_at net.len ≡ depth_at u.place.len
    same p q = omega arith

-- A search ends where the view is narrowed to the prefix.
pub find_end : {X : Type 0} (w : ℕ) (net : Net) (t u v : ViewValue X) → IsNet w net → t.place.len < net.len → Finding w net t u → Moved w net u v →
    IsPartIn w net t v
find_end w net t u v fits lt r moved = record {
  place = moved.place ∙ longer_right t.place net lt;
  one = inl r.start;
  inside = ap (covers w net) moved.place ∙ covers_self w net fits;
  at = λ n x. ((λ h. let k = (moved.at n x).0 h in ((r.at n x k.1).0 k.0, k.1)), (λ h. (moved.at n x).1 ((r.at n x h.1).1 h.0, h.1)));
  frugal = λ h. moved.frugal (r.frugal h);
}
