use Rattle.std.proofs.Common.{rules}
use Rattle.std.proofs.Common.{◌≡◌, ◌∙◌, ℕ, ◌+◌, ◌≤◌, sym, ap, subst, Some, None}
use Rattle.std.specs.Int.{bit_at}
use Rattle.std.proofs.lemmas.Nat.Bits.{shr_and_one}
use Rattle.trie_model.specs.Views.{child_toward}
use Rattle.view_model.specs.Sides.{IsAlignedSide, SideSplit}
use Rattle.view_model.proofs.SplitLaws.{split_here, split_missing, split_away, unset_child, other_child}
use Rattle.trie_sets.proofs.side.side_child.Goals as goal

pub returns-then-child_bitmap-bit-eq0-clause-split : goal.returns-then-child_bitmap-bit-eq0-clause-split
returns-then-child_bitmap-bit-eq0-clause-split g c = λ place d ok.
    let w : ℕ = g.V.P.Number.KeyBits.width in
    let side = subst (λ o. IsAlignedSide g.V.TrieView.valid g.V.TrieView.told w place o) c.in-Some.is ok in
    subst (λ o. SideSplit g.V.TrieView.valid g.V.TrieView.told w place c.args.bit o None (Some c.in-Some.view)) (sym c.in-Some.is)
    (split_missing w c.args.bit g.V.TrieView.valid g.V.TrieView.told (g.met.V.TrieView c.lifetimes (search rules)).laws place c.in-Some.view side.0 side.1
    (subst (λ x. x + 5 ≤ w) (sym d) c.requires.deep)
    (unset_child g.V.TrieView.told w c.args.bit place c.in-Some.view (sym c.depth.ensures ∙ c.if-depth.true ∙ sym d)
    (ap (λ x. bit_at x c.args.bit) (sym c.child_bitmap.ensures) ∙ sym (shr_and_one c.child_bitmap.result c.args.bit) ∙ c.if-child_bitmap-bit-eq0.true)))

pub returns-then-depth-clause-split : goal.returns-then-depth-clause-split
returns-then-depth-clause-split g c = λ place d ok.
    let w : ℕ = g.V.P.Number.KeyBits.width in
    let side = subst (λ o. IsAlignedSide g.V.TrieView.valid g.V.TrieView.told w place o) c.in-Some.is ok in
    subst (λ o. SideSplit g.V.TrieView.valid g.V.TrieView.told w place c.args.bit o (Some c.in_ok-child.child) (Some c.get_child.new.self)) (sym c.in-Some.is)
    (split_here w c.args.bit g.V.TrieView.valid g.V.TrieView.told (g.met.V.TrieView c.lifetimes (search rules)).laws place c.in-Some.view
    c.in_ok-child.child c.get_child.new.self
    c.in_ok-child.ensures.child.0 c.in_ok-child.ensures.usable side.1 (sym c.depth.ensures ∙ c.if-depth.true ∙ sym d) c.in_ok-child.ensures.child.1
    c.in_ok-child.ensures.rest)

pub returns-then-child_bit-bit-clause-split : goal.returns-then-child_bit-bit-clause-split
returns-then-child_bit-bit-clause-split g c = λ place d ok.
    let w : ℕ = g.V.P.Number.KeyBits.width in
    let side = subst (λ o. IsAlignedSide g.V.TrieView.valid g.V.TrieView.told w place o) c.in-Some.is ok in
    subst (λ o. SideSplit g.V.TrieView.valid g.V.TrieView.told w place c.args.bit c.args.side.now o c.take.new.self) (sym c.take.ensures.value)
    (subst (λ o. SideSplit g.V.TrieView.valid g.V.TrieView.told w place c.args.bit c.args.side.now (Some c.in-Some.view) o)
    (sym c.take.ensures.after)
    (subst (λ o. SideSplit g.V.TrieView.valid g.V.TrieView.told w place c.args.bit o (Some c.in-Some.view) None) (sym c.in-Some.is)
    (split_away w c.args.bit g.V.TrieView.valid g.V.TrieView.told (g.met.V.TrieView c.lifetimes (search rules)).laws place c.in-Some.view side.0 side.1
    (λ q. c.if-depth.false (c.depth.ensures ∙ q ∙ d))
    (subst (λ x. x + 5 ≤ w) (sym d) c.requires.deep)
    (ap (λ x. child_toward w x (g.V.TrieView.told c.in-Some.view).place.bits) d ∙
    sym (c.child_bit.ensures.toward c.requires.deep ∙ ap (λ n. child_toward w c.args.depth n) c.key.ensures) ∙ c.if-child_bit-bit.true))))

pub returns-clause-split : goal.returns-clause-split
returns-clause-split g c = λ place d ok.
    let w : ℕ = g.V.P.Number.KeyBits.width in
    let side = subst (λ o. IsAlignedSide g.V.TrieView.valid g.V.TrieView.told w place o) c.in-Some.is ok in
    subst (λ o. SideSplit g.V.TrieView.valid g.V.TrieView.told w place c.args.bit o None (Some c.in-Some.view)) (sym c.in-Some.is)
    (split_missing w c.args.bit g.V.TrieView.valid g.V.TrieView.told (g.met.V.TrieView c.lifetimes (search rules)).laws place c.in-Some.view side.0 side.1
    (subst (λ x. x + 5 ≤ w) (sym d) c.requires.deep)
    (other_child g.V.TrieView.told w c.args.bit place c.in-Some.view
    (λ q. c.if-depth.false (c.depth.ensures ∙ q ∙ d))
    (λ h. c.if-child_bit-bit.false (c.child_bit.ensures.toward c.requires.deep ∙ ap (λ n. child_toward w c.args.depth n) c.key.ensures ∙
    sym (ap (λ x. child_toward w x (g.V.TrieView.told c.in-Some.view).place.bits) d) ∙ h))))
