use Rattle.std.proofs.Common.{rules}
use Rattle.std.proofs.Common.{◌≡◌, ◌∙◌, ℕ, ◌+◌, ◌≤◌, arith, sym, ap, subst, refl, true}
use Rattle.std.specs.Int.{bit_at}
use Rattle.std.proofs.lemmas.Nat.Bits.{shr_and_one}
use Rattle.trie_model.specs.Nets.{Net, covers}
use Rattle.trie_model.specs.Views.{depth_at, child_toward}
use Rattle.trie_model.proofs.Places.{covers_len, depth_below, elim-false, place_is}
use Rattle.view_model.specs.LongestMatch.{net_of}
use Rattle.view_model.proofs.FindLaws.{child_over}
use Rattle.view_model.proofs.LongestMatchLaws.{
  matching_start,
  matching_child,
  longest_step,
  longest_end,
  ends_here,
  ends_above,
  none_outside,
  cost_step,
  cost_less,
  cost_none,
}
use Rattle.trie_sets.proofs.longest_match.longest_match.Goals as goal

pub lies_in-requires-clause-len : goal.lies_in-requires-clause-len
lies_in-requires-clause-len g c = let law = (g.met.V.TrieView c.lifetimes (search rules)).laws c.args.view c.requires.usable in
    subst (λ l. l ≤ g.V.P.Number.KeyBits.width) (sym c.prefix_len.ensures) law.place_ok.len_fits

pub returns-then-not-lies_in-clause-longest : goal.returns-then-not-lies_in-clause-longest
returns-then-not-lies_in-clause-longest g c =
    let w : ℕ = g.V.P.Number.KeyBits.width in
    let net : Net = net_of (g.V.P.Number.KeyBits.number c.args.key) c.args.len in
    let t = g.V.TrieView.told c.args.view in
    let law = (g.met.V.TrieView c.lifetimes (search rules)).laws c.args.view c.requires.usable in
    let p = place_is t.place (g.V.P.Number.KeyBits.number c.key.result) c.prefix_len.result c.key.ensures c.prefix_len.ensures in
    none_outside w net t g.V.P.PlainPrefix.net g.V.TrieView.item law c.requires.net.len_fits
    (λ h. elim-false (sym c.if-not-lies_in.true ∙ c.lies_in.ensures.1 (subst (λ n. covers w n net ≡ true) (sym p) h)))

pub returns-then-not-lies_in-clause-cost : goal.returns-then-not-lies_in-clause-cost
returns-then-not-lies_in-clause-cost g c = cost_none _ _ _

pub returns-in_err-found-clause-cost : goal.returns-in_err-found-clause-cost
returns-in_err-found-clause-cost g c = cost_none _ _ _

pub take_longest-requires : goal.take_longest-requires
take_longest-requires g c κs =
    let w : ℕ = g.V.P.Number.KeyBits.width in
    let net : Net = net_of (g.V.P.Number.KeyBits.number c.args.key) c.args.len in
    let t = g.V.TrieView.told c.args.view in
    let law = (g.met.V.TrieView c.lifetimes (search rules)).laws c.args.view c.requires.usable in
    let p = place_is t.place (g.V.P.Number.KeyBits.number c.key.result) c.prefix_len.result c.key.ensures c.prefix_len.ensures in (
      (refl, tt),
      (
        c.requires.usable,
        (
          c.depth-depth.ensures,
          (c.requires.net, (subst (λ n. covers w n net ≡ true) p (c.lies_in.ensures.0 c.if-not-lies_in.false), tt)),
        ),
      ),
    )

pub loop-depth-init : goal.loop-depth-init
loop-depth-init g c =
    let w : ℕ = g.V.P.Number.KeyBits.width in
    let net : Net = net_of (g.V.P.Number.KeyBits.number c.args.key) c.args.len in
    let t = g.V.TrieView.told c.args.view in
    let law = (g.met.V.TrieView c.lifetimes (search rules)).laws c.args.view c.requires.usable in
    let p = place_is t.place (g.V.P.Number.KeyBits.number c.key.result) c.prefix_len.result c.key.ensures c.prefix_len.ensures in
    let inside = subst (λ n. covers w n net ≡ true) p (c.lies_in.ensures.0 c.if-not-lies_in.false) in
    let le = covers_len w t.place net inside in
    let d = c.depth-depth.ensures in
    record {
      usable = c.in_ok-found.ensures.usable;
      depth = d ∙ ap (λ q. depth_at q.len) (sym c.in_ok-found.ensures.below.place);
      low = omega (arith, d, le);
      start = omega (arith, d);
      matching = matching_start w c.depth-depth.result net t (g.V.TrieView.told c.take_longest.new.view) inside c.in_ok-found.ensures.below;
      longest = c.in_ok-found.ensures.longest;
      plain = c.in_ok-found.ensures.plain;
      forward = omega arith;
      cost = cost_none _ _ _;
    }

pub returns-then-child_bitmap-bit-eq0-clause-longest : goal.returns-then-child_bitmap-bit-eq0-clause-longest
returns-then-child_bitmap-bit-eq0-clause-longest g c =
    let w : ℕ = g.V.P.Number.KeyBits.width in
    let net : Net = net_of (g.V.P.Number.KeyBits.number c.args.key) c.args.len in
    let t = g.V.TrieView.told c.args.view in
    let law = (g.met.V.TrieView c.lifetimes (search rules)).laws c.args.view c.requires.usable in
    let inv = c.loop-depth.invariant in
    let u = g.V.TrieView.told c.loop-depth.view in
    let here = (g.met.V.TrieView c.lifetimes (search rules)).laws c.loop-depth.view inv.usable in
    let long : c.loop-depth.depth + 5 ≤ c.args.len = let r = c.loop-depth-test.true in let low = inv.low in omega (arith, r, low) in
    let fits : c.loop-depth.depth + 5 ≤ w = let f = c.requires.net.len_fits in omega (arith, long, f) in
    let toward : c.child_bit-bit.result ≡ child_toward w (depth_at u.place.len) net.bits = c.child_bit-bit.ensures.toward fits ∙
    ap (λ d. child_toward w d net.bits) inv.depth in
    let off = ap (λ m. bit_at m c.child_bit-bit.result) (sym c.child_bitmap.ensures) ∙
    sym (shr_and_one c.child_bitmap.result c.child_bit-bit.result) ∙ c.if-child_bitmap-bit-eq0.true in
    longest_end w c.loop-depth.depth net g.V.TrieView.told c.args.view g.V.P.PlainPrefix.net g.V.TrieView.item
    (ends_above w c.child_bit-bit.result c.loop-depth.depth net t u here c.requires.net.len_fits inv.depth long toward off inv.matching)
    c.loop-depth.found inv.longest

pub returns-then-child_bitmap-bit-eq0-clause-cost : goal.returns-then-child_bitmap-bit-eq0-clause-cost
returns-then-child_bitmap-bit-eq0-clause-cost g c = let inv = c.loop-depth.invariant in
    cost_less g.V.TrieView.cost _ _ _ c.loop-depth.depth c.args.len inv.low inv.cost

pub returns-in_err-child-clause-cost : goal.returns-in_err-child-clause-cost
returns-in_err-child-clause-cost g c =
    let w : ℕ = g.V.P.Number.KeyBits.width in
    let net : Net = net_of (g.V.P.Number.KeyBits.number c.args.key) c.args.len in
    let t = g.V.TrieView.told c.args.view in
    let law = (g.met.V.TrieView c.lifetimes (search rules)).laws c.args.view c.requires.usable in
    let inv = c.loop-depth.invariant in
    let u = g.V.TrieView.told c.loop-depth.view in
    let here = (g.met.V.TrieView c.lifetimes (search rules)).laws c.loop-depth.view inv.usable in
    let long : c.loop-depth.depth + 5 ≤ c.args.len = let r = c.loop-depth-test.true in let low = inv.low in omega (arith, r, low) in
    let fits : c.loop-depth.depth + 5 ≤ w = let f = c.requires.net.len_fits in omega (arith, long, f) in
    let toward : c.child_bit-bit.result ≡ child_toward w (depth_at u.place.len) net.bits = c.child_bit-bit.ensures.toward fits ∙
    ap (λ d. child_toward w d net.bits) inv.depth in
    cost_less g.V.TrieView.cost c.args.steps.now c.get_child.new.steps (depth_at t.place.len) (c.loop-depth.depth + 5) c.args.len long
    (cost_step g.V.TrieView.cost c.args.steps.now c.loop-depth.steps c.get_child.new.steps (depth_at t.place.len) c.loop-depth.depth inv.start
    inv.cost c.in_err-child.ensures.cost)

pub returns-in_err-child-clause-frugal : goal.returns-in_err-child-clause-frugal
returns-in_err-child-clause-frugal g c = λ h. absurd (elim-false (c.in_err-child.ensures.frugal (c.loop-depth.invariant.matching.frugal h)))

pub take_longest-requires-in-loop-depth : goal.take_longest-requires-in-loop-depth
take_longest-requires-in-loop-depth g c κs =
    let w : ℕ = g.V.P.Number.KeyBits.width in
    let net : Net = net_of (g.V.P.Number.KeyBits.number c.args.key) c.args.len in
    let t = g.V.TrieView.told c.args.view in
    let law = (g.met.V.TrieView c.lifetimes (search rules)).laws c.args.view c.requires.usable in
    let inv = c.loop-depth.invariant in
    let u = g.V.TrieView.told c.loop-depth.view in
    let here = (g.met.V.TrieView c.lifetimes (search rules)).laws c.loop-depth.view inv.usable in
    let long : c.loop-depth.depth + 5 ≤ c.args.len = let r = c.loop-depth-test.true in let low = inv.low in omega (arith, r, low) in
    let fits : c.loop-depth.depth + 5 ≤ w = let f = c.requires.net.len_fits in omega (arith, long, f) in
    let toward : c.child_bit-bit.result ≡ child_toward w (depth_at u.place.len) net.bits = c.child_bit-bit.ensures.toward fits ∙
    ap (λ d. child_toward w d net.bits) inv.depth in
    let node = ap (λ d. d + 5) inv.depth ∙ sym (depth_below u.place.len) ∙ ap (λ q. depth_at q.len) (sym c.in_ok-child.ensures.child.1.place) in
    let inside = subst (λ n. covers w n net ≡ true) (sym c.in_ok-child.ensures.child.1.place)
    (child_over w c.child_bit-bit.result net u here inv.matching.inside (subst (λ d. d + 5 ≤ c.args.len) inv.depth long) c.requires.net.len_fits toward) in
    ((refl, tt), (c.in_ok-child.ensures.child.0, (node, (c.requires.net, (inside, inv.plain)))))

pub returns-in_err-found-2-clause-cost : goal.returns-in_err-found-2-clause-cost
returns-in_err-found-2-clause-cost g c =
    let w : ℕ = g.V.P.Number.KeyBits.width in
    let net : Net = net_of (g.V.P.Number.KeyBits.number c.args.key) c.args.len in
    let t = g.V.TrieView.told c.args.view in
    let law = (g.met.V.TrieView c.lifetimes (search rules)).laws c.args.view c.requires.usable in
    let inv = c.loop-depth.invariant in
    let u = g.V.TrieView.told c.loop-depth.view in
    let here = (g.met.V.TrieView c.lifetimes (search rules)).laws c.loop-depth.view inv.usable in
    let long : c.loop-depth.depth + 5 ≤ c.args.len = let r = c.loop-depth-test.true in let low = inv.low in omega (arith, r, low) in
    let fits : c.loop-depth.depth + 5 ≤ w = let f = c.requires.net.len_fits in omega (arith, long, f) in
    let toward : c.child_bit-bit.result ≡ child_toward w (depth_at u.place.len) net.bits = c.child_bit-bit.ensures.toward fits ∙
    ap (λ d. child_toward w d net.bits) inv.depth in
    cost_less g.V.TrieView.cost c.args.steps.now c.get_child.new.steps (depth_at t.place.len) (c.loop-depth.depth + 5) c.args.len long
    (cost_step g.V.TrieView.cost c.args.steps.now c.loop-depth.steps c.get_child.new.steps (depth_at t.place.len) c.loop-depth.depth inv.start
    inv.cost c.in_ok-child.ensures.cost)

pub returns-in_err-found-2-clause-frugal : goal.returns-in_err-found-2-clause-frugal
returns-in_err-found-2-clause-frugal g c =
    λ h. absurd (elim-false (c.in_err-found-2.ensures.frugal (c.in_ok-child.ensures.child.1.frugal (c.loop-depth.invariant.matching.frugal h))))

pub loop-depth-preserved : goal.loop-depth-preserved
loop-depth-preserved g c =
    let w : ℕ = g.V.P.Number.KeyBits.width in
    let net : Net = net_of (g.V.P.Number.KeyBits.number c.args.key) c.args.len in
    let t = g.V.TrieView.told c.args.view in
    let law = (g.met.V.TrieView c.lifetimes (search rules)).laws c.args.view c.requires.usable in
    let inv = c.loop-depth.invariant in
    let u = g.V.TrieView.told c.loop-depth.view in
    let here = (g.met.V.TrieView c.lifetimes (search rules)).laws c.loop-depth.view inv.usable in
    let long : c.loop-depth.depth + 5 ≤ c.args.len = let r = c.loop-depth-test.true in let low = inv.low in omega (arith, r, low) in
    let fits : c.loop-depth.depth + 5 ≤ w = let f = c.requires.net.len_fits in omega (arith, long, f) in
    let toward : c.child_bit-bit.result ≡ child_toward w (depth_at u.place.len) net.bits = c.child_bit-bit.ensures.toward fits ∙
    ap (λ d. child_toward w d net.bits) inv.depth in
    let child = c.in_ok-child.ensures.child in
    let below = c.in_ok-found-2.ensures.below in
    record {
      usable = c.in_ok-found-2.ensures.usable;
      depth = ap (λ d. d + 5) inv.depth ∙ sym (depth_below u.place.len) ∙ ap (λ q. depth_at q.len) (sym (below.place ∙ child.1.place));
      low = long;
      start = let s = inv.start in omega (arith, s);
      matching = matching_child w c.child_bit-bit.result c.loop-depth.depth net t u (g.V.TrieView.told c.in_ok-child.child)
          (g.V.TrieView.told c.take_longest-in-loop-depth.new.view) here c.requires.net.len_fits inv.depth long toward inv.matching child.1 below;
      longest = longest_step w c.child_bit-bit.result c.loop-depth.depth net g.V.TrieView.told c.args.view c.in_ok-child.child u _ _ law here
          c.requires.net.len_fits inv.depth long toward inv.matching child.1 inv.longest c.in_ok-found-2.ensures.longest;
      plain = c.in_ok-found-2.ensures.plain;
      forward = let a = inv.forward in let b = c.in_ok-child.ensures.forward in omega (arith, a, b);
      cost = cost_step g.V.TrieView.cost c.args.steps.now c.loop-depth.steps c.get_child.new.steps (depth_at t.place.len) c.loop-depth.depth inv.start
          inv.cost c.in_ok-child.ensures.cost;
    }

pub returns-clause-longest : goal.returns-clause-longest
returns-clause-longest g c =
    let w : ℕ = g.V.P.Number.KeyBits.width in
    let net : Net = net_of (g.V.P.Number.KeyBits.number c.args.key) c.args.len in
    let t = g.V.TrieView.told c.args.view in
    let law = (g.met.V.TrieView c.lifetimes (search rules)).laws c.args.view c.requires.usable in
    let inv = c.loop-depth.invariant in
    let u = g.V.TrieView.told c.loop-depth.view in
    let here = (g.met.V.TrieView c.lifetimes (search rules)).laws c.loop-depth.view inv.usable in
    longest_end w c.loop-depth.depth net g.V.TrieView.told c.args.view g.V.P.PlainPrefix.net g.V.TrieView.item
    (ends_here w c.loop-depth.depth net t (let r = c.loop-depth-test.false in let low = inv.low in omega (arith, r, low)))
    c.loop-depth.found inv.longest

pub returns-clause-cost : goal.returns-clause-cost
returns-clause-cost g c = let inv = c.loop-depth.invariant in cost_less g.V.TrieView.cost _ _ _ c.loop-depth.depth c.args.len inv.low inv.cost
