use Rattle.std.proofs.Common.{◌≡◌, ◌∙◌, sym, subst, refl, rules}
use Rattle.trie_model.specs.Walks.{Gives, rest}
use Rattle.trie_model.proofs.Places.{elim-false}
use Rattle.trie_map.specs.Walking.{ToCome}
use Rattle.trie_adapters.specs.Equal.{Accepts}
use Rattle.trie_adapters.proofs.EqualLaws.{one_item, still_from, equal_more, keys_differ, both_end, same_equal, tells_false, tells_true, not_accepted}
use Rattle.trie_adapters.proofs.equal.equal_by.Goals as goal

pub pairs-init : goal.pairs-init
pairs-init g c =
    let left = c.in_ok-left_walk.ensures in
    let right = c.in_ok-right_walk.ensures in (
      left.usable,
      right.usable,
      (λ n x h. (left.whole n x).0 h),
      (λ n x h. (right.whole n x).0 h),
      (
        same_equal _ _ _ _ _ (λ n x. ((left.whole n x).1, (left.whole n x).0)) (λ n x. ((right.whole n x).1, (right.whole n x).0)),
        same_equal _ _ _ _ _ left.whole right.whole,
      ),
    )

pub returns-in_default-next : goal.returns-in_default-next
returns-in_default-next g c =
    let given = rw c.in_ok-prefix.was at c.in-Some.ensures.given in
    let n = g.L.P.PlainPrefix.net c.in_ok-prefix.prefix in
    let x = g.L.TrieView.item c.in_ok-prefix.item in
    tells_false (λ e.
    let r = ((c.pairs.invariant.4.0 e).0 n).0 (x, given.0.had) in
    c.in_default-next.ensures.given n r.0 r.1)

pub returns-then-not-same_prefix : goal.returns-then-not-same_prefix
returns-then-not-same_prefix g c =
    let w = g.L.P.Number.KeyBits.width in
    let given = rw c.in_ok-prefix.was at c.in-Some.ensures.given in
    let n = g.L.P.PlainPrefix.net c.in_ok-prefix.prefix in
    let x = g.L.TrieView.item c.in_ok-prefix.item in
    let given' = rw c.in_ok-other_prefix.was at c.in-Some-next.ensures.given in
    let m = g.L.P.PlainPrefix.net c.in_ok-other_prefix.other_prefix in
    let y = g.R.TrieView.item c.in_ok-other_prefix.other_item in
    tells_false (λ e.
    keys_differ w (λ l. rest w (g.L.TrieView.told l.view) l.spot) (λ l. rest w (g.R.TrieView.told l.view) l.spot)
    c.pairs.left_walk.levels.items c.next.new.self.levels.items c.pairs.right_walk.levels.items c.next-in-Some.new.self.levels.items n m x y given.0 given'.0
    (λ same. elim-false (sym c.if-not-same_prefix.true ∙ c.same_prefix.ensures.1 same)) (c.pairs.invariant.4.0 e).0)

pub returns-then-not-accepts : goal.returns-then-not-accepts
returns-then-not-accepts g c =
    let given = rw c.in_ok-prefix.was at c.in-Some.ensures.given in
    let n = g.L.P.PlainPrefix.net c.in_ok-prefix.prefix in
    let x = g.L.TrieView.item c.in_ok-prefix.item in
    let given' = rw c.in_ok-other_prefix.was at c.in-Some-next.ensures.given in
    let m = g.L.P.PlainPrefix.net c.in_ok-other_prefix.other_prefix in
    let y = g.R.TrieView.item c.in_ok-other_prefix.other_item in
    let same : n ≡ m = c.same_prefix.ensures.0 c.if-not-same_prefix.false in
    tells_false (λ e.
    not_accepted g.L.TrieView.item g.R.TrieView.item (goal.F-post g c.args.accepts) c.in_ok-prefix.item c.in_ok-other_prefix.other_item c.requires.answers
    (subst (λ b. goal.F-post g c.args.accepts c.in_ok-prefix.item c.in_ok-other_prefix.other_item b) c.if-not-accepts.true c.accepts.ensures)
    ((c.pairs.invariant.4.0 e).1 m x y (subst (λ q. ToCome g.L.TrieView.told g.L.P.Number.KeyBits.width c.pairs.left_walk q x) same given.0.had) given'.0.had))

pub pairs-preserved : goal.pairs-preserved
pairs-preserved g c =
    let w = g.L.P.Number.KeyBits.width in
    let given = rw c.in_ok-prefix.was at c.in-Some.ensures.given in
    let n = g.L.P.PlainPrefix.net c.in_ok-prefix.prefix in
    let x = g.L.TrieView.item c.in_ok-prefix.item in
    let given' = rw c.in_ok-other_prefix.was at c.in-Some-next.ensures.given in
    let m = g.L.P.PlainPrefix.net c.in_ok-other_prefix.other_prefix in
    let y = g.R.TrieView.item c.in_ok-other_prefix.other_item in
    let same : n ≡ m = c.same_prefix.ensures.0 c.if-not-same_prefix.false in
    let old = c.pairs.left_walk.levels.items in
    let old' = c.pairs.right_walk.levels.items in
    let pass = subst (λ b. goal.F-post g c.args.accepts c.in_ok-prefix.item c.in_ok-other_prefix.other_item b) c.if-not-accepts.false c.accepts.ensures in
    let next = subst (λ q. Gives w (λ l. rest w (g.R.TrieView.told l.view) l.spot) old' c.next-in-Some.new.self.levels.items q y) (sym same) given'.0 in
    let more = equal_more w _ _ (Accepts g.L.TrieView.item g.R.TrieView.item (goal.F-post g c.args.accepts)) old c.next.new.self.levels.items old'
    c.next-in-Some.new.self.levels.items n x y
    (one_item w (g.L.TrieView.told c.args.left) _ ((g.met.L.TrieView c.lifetimes (search rules)).laws c.args.left c.requires.left) c.pairs.invariant.2)
    (one_item w (g.R.TrieView.told c.args.right) _ ((g.met.R.TrieView c.lifetimes (search rules)).laws c.args.right c.requires.right) c.pairs.invariant.3)
    given.0 next (c.in_ok-prefix.item, (c.in_ok-other_prefix.other_item, refl, refl, pass)) in (
      c.in-Some.ensures.usable,
      c.in-Some-next.ensures.usable,
      still_from w _ old c.next.new.self.levels.items n x (g.L.TrieView.told c.args.left) given.0 c.pairs.invariant.2,
      still_from w _ old' c.next-in-Some.new.self.levels.items m y (g.R.TrieView.told c.args.right) given'.0 c.pairs.invariant.3,
      ((λ e. more.0 (c.pairs.invariant.4.0 e)), (λ e. c.pairs.invariant.4.1 (more.1 e))),
    )

pub returns-in-None : goal.returns-in-None
returns-in-None g c = tells_true (c.pairs.invariant.4.1 (both_end _ _ _ c.in_default.ensures.given c.in-None.ensures.given))

pub returns : goal.returns
returns g c =
    let given = rw c.in_ok-last_pair-in-Some-next-2.was at c.in-Some-next-2.ensures.given in
    let pair = c.in_ok-last_pair-in-Some-next-2.field-0 in
    let m = g.L.P.PlainPrefix.net pair.0 in
    tells_false (λ e.
    let r = ((c.pairs.invariant.4.0 e).0 m).1 (g.R.TrieView.item pair.1, given.0.had) in
    c.in_default.ensures.given m r.0 r.1)
