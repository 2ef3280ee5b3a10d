use Rattle.std.proofs.Common.{rules}
use Rattle.view_model.proofs.DifferenceLaws.{side_moved}
use Rattle.view_model.proofs.CoveringDifferenceLaws.{outside_moved, covered_bits_moved}
use Rattle.trie_sets.proofs.covering_difference.CoveringDifferenceViewTrieView.reposition.Goals as goal

pub returns-clause-usable : goal.returns-clause-usable
returns-clause-usable g c = (
  c.reposition.ensures.usable,
  side_moved g.L.P.Number.KeyBits.width g.R.TrieView.valid g.R.TrieView.told _ _ _ c.args.self.now.right
      ((g.met.L.TrieView c.lifetimes (search rules)).laws _ c.requires.usable.0).place_ok c.requires.place c.reposition.ensures.moved.place c.requires.usable.1,
  covered_bits_moved g.L.P.Number.KeyBits.width g.R.TrieView.told _ _ _ c.args.self.now.covered c.args.self.now.right c.args.self.now.covered_data
      c.args.self.now.covered_children ((g.met.L.TrieView c.lifetimes (search rules)).laws _ c.requires.usable.0).place_ok c.requires.place
      c.reposition.ensures.moved.place c.requires.usable.2,
)

pub returns-clause-moved : goal.returns-clause-moved
returns-clause-moved g c = outside_moved g.L.P.Number.KeyBits.width _ g.R.TrieView.told _ _ c.args.self.now.covered c.args.self.now.right
    c.args.self.now.covered_data c.args.self.now.covered_children c.reposition.ensures.moved
