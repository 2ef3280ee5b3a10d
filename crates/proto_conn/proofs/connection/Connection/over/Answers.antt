use Rattle.std.proofs.Common.{ap, length}
use Rattle.stream_list.specs.Listed.{Listed}
use Rattle.proto_conn.specs.declared.parts.Reply.{Reply}
use Rattle.proto_conn.proofs.Sounds.{sound_fresh}
use Rattle.proto_conn.proofs.connection.Connection.over.Goals as goal

pub invariant_of-result : goal.invariant_of-result
invariant_of-result g c =
    sound_fresh c.with_start.result.session c.new.result.items c.args.start _ _ _ _ c.args.framed.reader c.new-4.result.items c.new-5.result
    c.with_start.ensures c.new.ensures.items c.ranges.start.fits (ap (λ (l : Listed (Reply g.row.T.Denot)). length l.items) c.new-2.ensures) c.new-3.ensures.len c.new-4.ensures.items c.new-5.ensures
