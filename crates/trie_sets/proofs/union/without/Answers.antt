use Rattle.trie_model.proofs.TrieLaws.{cleared}
use Rattle.trie_sets.proofs.union.without.Goals as goal

pub returns : goal.returns
returns c = cleared c.args.bit c.args.bitmap c.requires
