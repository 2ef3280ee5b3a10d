use Rattle.std.proofs.Common.{◌∙◌, sym, subst, refl}
use Rattle.trie_model.specs.Views.{data_net}
use Rattle.trie_model.proofs.Places.{and_left, and_right, elim-false}
use Rattle.view_model.proofs.Bits.{and_bit_l, and_bit_r}
use Rattle.view_model.proofs.IntersectionLaws.{intersection_took}
use Rattle.trie_sets.proofs.intersection.IntersectionViewTrieView.get_data.Goals as goal

pub get_data-requires : goal.get_data-requires
get_data-requires g c κs = (
  (refl, tt),
  (
    c.requires.usable.0,
    and_bit_l (g.L.TrieView.told c.args.self.now.left).data_bits (g.R.TrieView.told c.args.self.now.right).data_bits c.args.bit c.requires.set,
  ),
)

pub get_data-requires-2 : goal.get_data-requires-2
get_data-requires-2 g c κs = (
  (refl, tt),
  (
    c.requires.usable.1,
    and_bit_r (g.L.TrieView.told c.args.self.now.left).data_bits (g.R.TrieView.told c.args.self.now.right).data_bits c.args.bit c.requires.set,
  ),
)

pub returns-in_err-left-clause-frugal : goal.returns-in_err-left-clause-frugal
returns-in_err-left-clause-frugal g c = λ h. absurd (elim-false (c.in_err-left.ensures.frugal (and_left _ _ h)))

pub returns-in_err-right-clause-frugal : goal.returns-in_err-right-clause-frugal
returns-in_err-right-clause-frugal g c = λ h. absurd (elim-false (c.in_err-right.ensures.frugal (and_right _ _ h)))

pub returns-clause-data : goal.returns-clause-data
returns-clause-data g c = (
  c.in_ok-left.ensures.«data»,
  subst (λ p. (g.R.TrieView.told c.args.self.now.right).at (data_net g.L.P.Number.KeyBits.width p c.args.bit) (g.R.TrieView.item c.in_ok-right.right))
      c.requires.usable.2 c.in_ok-right.ensures.«data»,
)

pub returns-clause-usable : goal.returns-clause-usable
returns-clause-usable g c = (
  c.in_ok-left.ensures.usable,
  c.in_ok-right.ensures.usable,
  c.in_ok-right.ensures.rest.place ∙ c.requires.usable.2 ∙
      sym c.in_ok-left.ensures.rest.place,
)

pub returns-clause-rest : goal.returns-clause-rest
returns-clause-rest g c =
    intersection_took g.L.P.Number.KeyBits.width c.args.bit _ _ _ _ c.requires.usable.2 c.in_ok-left.ensures.rest c.in_ok-right.ensures.rest
