use Rattle.std.proofs.Common.{arith}
use Rattle.proto_conn.proofs.Fits.{on_none, texts_part}
use Rattle.proto_conn.proofs.framed.batch.texts_len.Goals as goal

pub returns-in_err-len-clause-more : goal.returns-in_err-len-clause-more
returns-in_err-len-clause-more g c =
    let part = texts_part g.T.NetlinkSerializable.text c.args.messages.now c.loop-message.message-index c.message-item.result
    c.loop-message-test.true c.message-item.is in
    on_none c.from_residual.result (omega (arith, part, c.loop-message.invariant.count, c.buffer_len.ensures, c.in_err-len.ensures))
