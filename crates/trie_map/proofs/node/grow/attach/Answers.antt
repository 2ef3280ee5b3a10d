use Rattle.std.proofs.Common.{rules, arith, subst, sym}
use Rattle.trie_model.specs.Puts.{PutAt}
use Rattle.trie_model.proofs.SlotLaws.{slot_le, one_bit, put_new_at}
use Rattle.trie_map.proofs.node.grow.attach.Goals as goal
use Rattle.trie_map.proofs.node.grow.attach.Goals.{in-Ok, in-Err}

pub insert-requires : goal.insert-requires
insert-requires g c = let le = slot_le c.args.bitmap c.args.bit in search (rules, le)

pub returns : goal.returns
returns g c = elim c.match-insert.branch [
  | in-Ok w ↦ record {
    put = subst (λ m. PutAt c.args.bit c.args.item c.args.bitmap c.args.items.now.items m c.insert.new.self.items)
        (sym w.result-is) (put_new_at c.args.bit c.args.bitmap _ c.slot.result c.args.items.now.items c.insert.new.self.items c.args.item
        (one_bit c.args.bit c.args.bitmap c.requires.bit c.ranges.bitmap.fits c.requires.clear) c.requires.compact w.in-Ok.ensures.items c.slot.ensures);
  }
  | in-Err w ↦ absurd (let full = w.in-Err.ensures.full in let no : ⊥ = omega (arith, c.requires.room, full) in no)
]
