use Rattle.std.proofs.Common.{refl}
use Rattle.stream_list.proofs.Pushes.{linked_more}
use Rattle.stream_list.proofs.links.Links.push.Goals as goal

pub returns-clause-linked : goal.returns-clause-linked
returns-clause-linked g c = λ es h.
    linked_more g.X.InStream.stream c.args.self.now es c.insert_reserved-place.result _ c.args.item c.insert_reserved-place.new.self
    c.set_link.new.nodes c.set_link-2.new.nodes _ c.stream-stream.result c.index.result.now c.index-2.result.now c.with.result h
    c.insert_reserved-place.ensures.was_vacant c.requires.stream c.stream-stream.ensures c.index.ensures c.index-2.ensures
    c.insert_reserved-place.ensures.updates c.insert_reserved-place.ensures.len c.set_link.ensures c.set_link-2.ensures
    refl c.with-self.ensures c.with.ensures refl c.insert_reserved-place.ensures.key
