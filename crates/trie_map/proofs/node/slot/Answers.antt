use Rattle.std.proofs.lemmas.Nat.{pow_below}
use Rattle.trie_model.proofs.NodeLaws.{slot_mask}
use Rattle.trie_map.proofs.node.slot.Goals as goal

pub returns : goal.returns
returns c = slot_mask c.args.bitmap c.args.bit (pow_below c.args.bit 32 c.requires)
