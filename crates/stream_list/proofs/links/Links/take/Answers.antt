use Rattle.std.proofs.Common.{refl, arith}
use Rattle.stream_list.proofs.Takes.{linked_less, stream_in_range}
use Rattle.stream_list.proofs.links.Links.take.Goals as goal

pub index-requires : goal.index-requires
index-requires g c =
    let within = stream_in_range g.X.InStream.stream c.args.self.now c.args.place c.remove-item.result c.stream-stream.result c.requires
    c.remove-item.ensures.value c.stream-stream.ensures in
    omega (arith, within, c.args.self.now.streams.ok)

pub index_mut-requires : goal.index_mut-requires
index_mut-requires g c =
    let within = stream_in_range g.X.InStream.stream c.args.self.now c.args.place c.remove-item.result c.stream-stream.result c.requires
    c.remove-item.ensures.value c.stream-stream.ensures in
    omega (arith, within, c.args.self.now.streams.ok)

pub returns-clause-taken : goal.returns-clause-taken
returns-clause-taken g c =
    linked_less g.X.InStream.stream c.args.self.now c.args.place c.remove-item.result c.remove-item.new.self c.set_link.new.nodes
    c.set_link-2.new.nodes _ c.stream-stream.result c.index.result.now c.without.result c.remove-item.ensures.value c.remove-item.ensures.updates
    c.remove-item.ensures.len c.set_link.ensures c.set_link-2.ensures refl c.without-self.ensures c.stream-stream.ensures
    (stream_in_range g.X.InStream.stream c.args.self.now c.args.place c.remove-item.result c.stream-stream.result c.requires
    c.remove-item.ensures.value c.stream-stream.ensures)
    c.index.ensures c.without.ensures refl
