use Rattle.std.proofs.Common.{rules, subst, sym, ap, ◌≡◌, slice_set}
use Rattle.std.specs.Prelude.{get_or}
use Rattle.trie_model.proofs.NodeLaws.{slot-lt}
use Rattle.trie_model.proofs.SlotLaws.{put_over}
use Rattle.trie_model.proofs.PutNodes.{held_at}
use Rattle.trie_map.proofs.node.grow.exchange.Goals as goal

pub index_mut-requires : goal.index_mut-requires
index_mut-requires g c = let lt = slot-lt c.args.bitmap c.args.bit c.requires.set in search (rules, lt)

pub returns-clause-put : goal.returns-clause-put
returns-clause-put g c = put_over c.args.bit c.args.bitmap c.slot.result c.args.items.now.items _ c.args.item c.ranges.bitmap.fits c.requires.set
    c.requires.compact (ap (λ x. slice_set c.args.items.now.items c.slot.result x) c.replace.ensures.after) c.slot.ensures

pub returns-clause-was : goal.returns-clause-was
returns-clause-was g c = held_at c.args.bitmap c.args.bit c.slot.result c.args.items.now.items c.replace.result c.requires.set c.requires.compact
    c.slot.ensures (subst (λ x. x ≡ get_or c.args.items.now.items c.slot.result x) (sym c.replace.ensures.value) c.index_mut.ensures.value)
