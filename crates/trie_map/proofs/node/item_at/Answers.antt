use Rattle.std.proofs.Common.{arith}
use Rattle.trie_model.proofs.NodeLaws.{slot-lt}
use Rattle.trie_model.proofs.PutNodes.{held_at}
use Rattle.trie_map.proofs.node.item_at.Goals as goal

pub index-requires : goal.index-requires
index-requires g c = let lt = slot-lt c.args.bitmap c.args.bit c.requires.set in omega (arith, lt, c.slot.ensures, c.requires.compact)

pub returns : goal.returns
returns g c = held_at c.args.bitmap c.args.bit c.slot.result c.args.items.now.items c.index.result.now c.requires.set c.requires.compact c.slot.ensures c.index.ensures
