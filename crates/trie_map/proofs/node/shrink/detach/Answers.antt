use Rattle.std.proofs.Common.{rules}
use Rattle.trie_model.proofs.NodeLaws.{slot-lt}
use Rattle.trie_model.proofs.TrieLaws.{cleared}
use Rattle.trie_model.proofs.TakeLaws.{take_old_at, clear_bit}
use Rattle.trie_map.proofs.node.shrink.detach.Goals as goal

pub remove-item-requires : goal.remove-item-requires
remove-item-requires g c = let lt = slot-lt c.args.bitmap c.args.bit c.requires.set in search (rules, lt)

pub returns : goal.returns
returns g c = take_old_at c.args.bit c.args.bitmap _ c.slot.result c.args.items.now.items _ c.remove-item.result
    (clear_bit c.args.bit c.args.bitmap _ (cleared c.args.bit c.args.bitmap c.requires.bit) c.ranges.bitmap.fits c.requires.set) c.requires.compact
    c.requires.set c.remove-item.ensures.items c.slot.ensures c.remove-item.ensures.value
