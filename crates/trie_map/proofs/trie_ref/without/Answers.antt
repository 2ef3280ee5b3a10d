use Rattle.trie_model.proofs.TrieLaws.{cleared}
use Rattle.trie_map.proofs.trie_ref.without.Goals as goal

pub returns : goal.returns
returns c = cleared c.args.bit c.args.bitmap c.requires
