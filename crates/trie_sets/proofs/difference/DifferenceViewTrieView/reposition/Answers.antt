use Rattle.std.proofs.Common.{rules}
use Rattle.std.proofs.Common.{◌∙◌, ap, sym}
use Rattle.trie_model.specs.Views.{depth_at}
use Rattle.view_model.specs.Sides.{side_data_bits}
use Rattle.view_model.proofs.DifferenceLaws.{side_moved, difference_moved}
use Rattle.trie_sets.proofs.difference.DifferenceViewTrieView.reposition.Goals as goal

pub returns-clause-usable : goal.returns-clause-usable
returns-clause-usable g c = (
  c.reposition.ensures.usable,
  side_moved g.L.P.Number.KeyBits.width g.R.TrieView.valid g.R.TrieView.told _ _ _ c.args.self.now.right
      ((g.met.L.TrieView c.lifetimes (search rules)).laws _ c.requires.usable.0).place_ok c.requires.place c.reposition.ensures.moved.place
      c.requires.usable.1,
  c.requires.usable.2 ∙ ap (λ d. side_data_bits g.R.TrieView.told d c.args.self.now.right)
      (sym c.requires.place.node ∙ sym (ap (λ p. depth_at p.len) c.reposition.ensures.moved.place)),
)

pub returns-clause-moved : goal.returns-clause-moved
returns-clause-moved g c = difference_moved g.L.P.Number.KeyBits.width _ g.R.TrieView.told _ _ c.args.self.now.right c.reposition.ensures.moved
