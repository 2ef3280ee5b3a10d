use Rattle.std.proofs.Common.{rules}
use Rattle.std.proofs.Common.{ℕ, ◌+◌, ◌≤◌, sym, subst, refl}
use Rattle.trie_model.proofs.Places.{and_left, and_right, bit_below, elim-false}
use Rattle.view_model.proofs.Bits.{and_bit_l}
use Rattle.view_model.proofs.SideLaws.{side_valid}
use Rattle.view_model.proofs.DifferenceLaws.{child_side, rest_side}
use Rattle.view_model.proofs.CoveringDifferenceLaws.{outside_child, outside_took_child, covered_bits_rest, covered_bits_placed}
use Rattle.trie_sets.proofs.covering_difference.CoveringDifferenceViewTrieView.get_child.Goals as goal

pub get_child-requires : goal.get_child-requires
get_child-requires g c κs = ((refl, tt), (c.requires.usable.0, and_bit_l _ _ _ c.requires.set))

pub side_child-requires : goal.side_child-requires
side_child-requires g c κs =
    let law = (g.met.L.TrieView c.lifetimes (search rules)).laws c.args.self.now.left c.requires.usable.0 in
    let set = and_bit_l (g.L.TrieView.told c.args.self.now.left).child_bits _ c.args.bit c.requires.set in (
      (refl, tt),
      (
        side_valid g.L.P.Number.KeyBits.width g.R.TrieView.valid g.R.TrieView.told _ c.args.self.now.right c.requires.usable.1,
        (subst (λ x. x + 5 ≤ g.L.P.Number.KeyBits.width) (sym c.depth-depth.ensures) (law.deep c.args.bit set), bit_below 32 _ c.args.bit law.children_fit set),
      ),
    )

pub side_cover_masks-covered_data-requires : goal.side_cover_masks-covered_data-requires
side_cover_masks-covered_data-requires g c κs =
    let w : ℕ = g.L.P.Number.KeyBits.width in
    let law = (g.met.L.TrieView c.lifetimes (search rules)).laws c.args.self.now.left c.requires.usable.0 in
    let split = c.in_ok-right.ensures.split (g.L.TrieView.told c.args.self.now.left).place (sym c.depth-depth.ensures) c.requires.usable.1 in (
      (refl, tt),
      side_valid w g.R.TrieView.valid g.R.TrieView.told (g.L.TrieView.told c.in_ok-left.left).place c.in_ok-right.right
          (child_side w c.args.bit g.R.TrieView.valid g.R.TrieView.told (g.met.R.TrieView c.lifetimes (search rules)).laws _ _ c.args.self.now.right
          c.in_ok-right.right c.side_child.new.side c.in_ok-left.ensures.child.1 split),
    )

pub returns-in_err-left-clause-frugal : goal.returns-in_err-left-clause-frugal
returns-in_err-left-clause-frugal g c = λ h. absurd (elim-false (c.in_err-left.ensures.frugal (and_left _ _ h)))

pub returns-in_err-right-clause-frugal : goal.returns-in_err-right-clause-frugal
returns-in_err-right-clause-frugal g c = λ h. absurd (elim-false (c.in_err-right.ensures.frugal (and_right _ _ h)))

pub returns-clause-child : goal.returns-clause-child
returns-clause-child g c =
    let w : ℕ = g.L.P.Number.KeyBits.width in
    let law = (g.met.L.TrieView c.lifetimes (search rules)).laws c.args.self.now.left c.requires.usable.0 in
    let split = c.in_ok-right.ensures.split (g.L.TrieView.told c.args.self.now.left).place (sym c.depth-depth.ensures) c.requires.usable.1 in
    let ok = child_side w c.args.bit g.R.TrieView.valid g.R.TrieView.told (g.met.R.TrieView c.lifetimes (search rules)).laws _ _ c.args.self.now.right
    c.in_ok-right.right c.side_child.new.side c.in_ok-left.ensures.child.1 split in (
      (c.in_ok-left.ensures.child.0, ok, c.side_cover_masks-covered_data.ensures (g.L.TrieView.told c.in_ok-left.left).place (sym c.depth.ensures) ok),
      outside_child w c.args.bit g.R.TrieView.valid g.R.TrieView.told (g.met.R.TrieView c.lifetimes (search rules)).laws _ _ c.args.self.now.covered
          c.args.self.now.right c.in_ok-right.right c.side_child.new.side c.args.self.now.covered_data c.args.self.now.covered_children _ _ law
          c.in_ok-left.ensures.child.1 split c.requires.usable.2 c.requires.set,
    )

pub returns-clause-usable : goal.returns-clause-usable
returns-clause-usable g c =
    let w : ℕ = g.L.P.Number.KeyBits.width in
    let law = (g.met.L.TrieView c.lifetimes (search rules)).laws c.args.self.now.left c.requires.usable.0 in
    let split = c.in_ok-right.ensures.split (g.L.TrieView.told c.args.self.now.left).place (sym c.depth-depth.ensures) c.requires.usable.1 in (
      c.in_ok-left.ensures.usable,
      rest_side w c.args.bit g.R.TrieView.valid g.R.TrieView.told _ _ c.args.self.now.right c.in_ok-right.right c.side_child.new.side
          c.in_ok-left.ensures.rest split,
      covered_bits_placed w g.R.TrieView.told _ _ c.args.self.now.covered c.side_child.new.side c.args.self.now.covered_data
          c.args.self.now.covered_children c.in_ok-left.ensures.rest.place
          (covered_bits_rest w c.args.bit g.R.TrieView.valid g.R.TrieView.told _ c.args.self.now.covered c.args.self.now.right c.in_ok-right.right
          c.side_child.new.side c.args.self.now.covered_data c.args.self.now.covered_children split c.requires.usable.2),
    )

pub returns-clause-rest : goal.returns-clause-rest
returns-clause-rest g c =
    let w : ℕ = g.L.P.Number.KeyBits.width in
    let law = (g.met.L.TrieView c.lifetimes (search rules)).laws c.args.self.now.left c.requires.usable.0 in
    let split = c.in_ok-right.ensures.split (g.L.TrieView.told c.args.self.now.left).place (sym c.depth-depth.ensures) c.requires.usable.1 in
    outside_took_child w c.args.bit g.R.TrieView.valid g.R.TrieView.told _ _ c.args.self.now.covered c.args.self.now.right c.in_ok-right.right
    c.side_child.new.side c.args.self.now.covered_data c.args.self.now.covered_children law c.in_ok-left.ensures.rest split
