use Rattle.std.proofs.Common.{◌∙◌, sym, refl}
use Rattle.trie_model.proofs.Places.{and_left, and_right, elim-false}
use Rattle.view_model.proofs.Bits.{and_bit_l, and_bit_r}
use Rattle.view_model.proofs.IntersectionLaws.{intersection_child, intersection_took_child, child_place}
use Rattle.trie_sets.proofs.intersection.IntersectionViewTrieView.get_child.Goals as goal

pub get_child-requires : goal.get_child-requires
get_child-requires g c κs = (
  (refl, tt),
  (
    c.requires.usable.0,
    and_bit_l (g.L.TrieView.told c.args.self.now.left).child_bits (g.R.TrieView.told c.args.self.now.right).child_bits c.args.bit c.requires.set,
  ),
)

pub get_child-requires-2 : goal.get_child-requires-2
get_child-requires-2 g c κs = (
  (refl, tt),
  (
    c.requires.usable.1,
    and_bit_r (g.L.TrieView.told c.args.self.now.left).child_bits (g.R.TrieView.told c.args.self.now.right).child_bits c.args.bit c.requires.set,
  ),
)

pub returns-in_err-left-clause-frugal : goal.returns-in_err-left-clause-frugal
returns-in_err-left-clause-frugal g c = λ h. absurd (elim-false (c.in_err-left.ensures.frugal (and_left _ _ h)))

pub returns-in_err-right-clause-frugal : goal.returns-in_err-right-clause-frugal
returns-in_err-right-clause-frugal g c = λ h. absurd (elim-false (c.in_err-right.ensures.frugal (and_right _ _ h)))

pub returns-clause-child : goal.returns-clause-child
returns-clause-child g c = (
  (
    c.in_ok-left.ensures.child.0,
    c.in_ok-right.ensures.child.0,
    child_place g.L.P.Number.KeyBits.width c.args.bit _ _ _ _ c.requires.usable.2 c.in_ok-left.ensures.child.1 c.in_ok-right.ensures.child.1,
  ),
  intersection_child g.L.P.Number.KeyBits.width c.args.bit _ _ _ _ c.requires.usable.2 c.in_ok-left.ensures.child.1 c.in_ok-right.ensures.child.1,
)

pub returns-clause-usable : goal.returns-clause-usable
returns-clause-usable g c = (
  c.in_ok-left.ensures.usable,
  c.in_ok-right.ensures.usable,
  c.in_ok-right.ensures.rest.place ∙ c.requires.usable.2 ∙
      sym c.in_ok-left.ensures.rest.place,
)

pub returns-clause-rest : goal.returns-clause-rest
returns-clause-rest g c = intersection_took_child g.L.P.Number.KeyBits.width c.args.bit _ _ _ _ c.requires.usable.2 c.in_ok-left.ensures.rest
    c.in_ok-right.ensures.rest
