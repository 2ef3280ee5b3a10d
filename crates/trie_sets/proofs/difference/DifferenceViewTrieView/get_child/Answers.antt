use Rattle.std.proofs.Common.{rules}
use Rattle.std.proofs.Common.{◌∙◌, ℕ, ◌+◌, ◌≤◌, sym, ap, subst, refl}
use Rattle.trie_model.proofs.Places.{and_left, and_right, bit_below, elim-false}
use Rattle.trie_model.specs.Views.{depth_at}
use Rattle.view_model.specs.Sides.{side_data_bits}
use Rattle.view_model.proofs.SideLaws.{side_valid}
use Rattle.view_model.proofs.DifferenceLaws.{difference_child, difference_took_child, child_side, rest_side}
use Rattle.trie_sets.proofs.difference.DifferenceViewTrieView.get_child.Goals as goal

pub side_child-requires : goal.side_child-requires
side_child-requires g c κs =
    let law = (g.met.L.TrieView c.lifetimes (search rules)).laws c.args.self.now.left c.requires.usable.0 in (
      (refl, tt),
      (
        side_valid g.L.P.Number.KeyBits.width g.R.TrieView.valid g.R.TrieView.told _ c.args.self.now.right c.requires.usable.1,
        (
          subst (λ x. x + 5 ≤ g.L.P.Number.KeyBits.width) (sym c.depth-depth.ensures) (law.deep c.args.bit c.requires.set),
          bit_below 32 _ c.args.bit law.children_fit c.requires.set,
        ),
      ),
    )

pub returns-in_err-left-clause-frugal : goal.returns-in_err-left-clause-frugal
returns-in_err-left-clause-frugal g c = λ h. absurd (elim-false (c.in_err-left.ensures.frugal (and_left _ _ h)))

pub returns-in_err-right-clause-frugal : goal.returns-in_err-right-clause-frugal
returns-in_err-right-clause-frugal g c = λ h. absurd (elim-false (c.in_err-right.ensures.frugal (and_right _ _ h)))

pub returns-clause-child : goal.returns-clause-child
returns-clause-child g c =
    let w : ℕ = g.L.P.Number.KeyBits.width in
    let split = c.in_ok-right.ensures.split (g.L.TrieView.told c.args.self.now.left).place (sym c.depth-depth.ensures) c.requires.usable.1 in (
      (
        c.in_ok-left.ensures.child.0,
        child_side w c.args.bit g.R.TrieView.valid g.R.TrieView.told (g.met.R.TrieView c.lifetimes (search rules)).laws _
            _ c.args.self.now.right c.in_ok-right.right c.side_child.new.side c.in_ok-left.ensures.child.1 split,
        c.side_data-right_data.ensures ∙ ap (λ d. side_data_bits g.R.TrieView.told d c.in_ok-right.right) c.depth.ensures,
      ),
      difference_child w c.args.bit g.R.TrieView.valid g.R.TrieView.told _ _ c.args.self.now.right c.in_ok-right.right c.side_child.new.side
          c.in_ok-left.ensures.child.1 split,
    )

pub returns-clause-usable : goal.returns-clause-usable
returns-clause-usable g c =
    let w : ℕ = g.L.P.Number.KeyBits.width in
    let split = c.in_ok-right.ensures.split (g.L.TrieView.told c.args.self.now.left).place (sym c.depth-depth.ensures) c.requires.usable.1 in (
      c.in_ok-left.ensures.usable,
      rest_side w c.args.bit g.R.TrieView.valid g.R.TrieView.told _ _ c.args.self.now.right c.in_ok-right.right
          c.side_child.new.side c.in_ok-left.ensures.rest split,
      c.requires.usable.2 ∙ sym split.bits ∙ ap (λ p. side_data_bits g.R.TrieView.told (depth_at p.len) c.side_child.new.side)
          (sym c.in_ok-left.ensures.rest.place),
    )

pub returns-clause-rest : goal.returns-clause-rest
returns-clause-rest g c =
    let w : ℕ = g.L.P.Number.KeyBits.width in
    let split = c.in_ok-right.ensures.split (g.L.TrieView.told c.args.self.now.left).place (sym c.depth-depth.ensures) c.requires.usable.1 in
    difference_took_child w c.args.bit g.R.TrieView.valid g.R.TrieView.told _ _ c.args.self.now.right c.in_ok-right.right c.side_child.new.side
    c.in_ok-left.ensures.rest split
