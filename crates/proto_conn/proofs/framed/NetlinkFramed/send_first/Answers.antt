use Rattle.std.proofs.Common.{ap}
use Rattle.proto_conn.specs.Flushing.{is_break}
use Rattle.proto_conn.proofs.framed.NetlinkFramed.send_first.Goals as goal

pub returns-in-Ok-poll_flush-clause-ok : goal.returns-in-Ok-poll_flush-clause-ok
returns-in-Ok-poll_flush-clause-ok g c = record {
  mid = c.load.new.self;
  loads = c.in-Ok.ensures.ok;
  flushes = (c.in-Ok-poll_flush.field-0, c.in-Ok-poll_flush.ensures.did);
  idle = c.poll_flush.ensures.idle;
}

pub returns-in-Err-LinkFailed-clause-ok : goal.returns-in-Err-LinkFailed-clause-ok
returns-in-Err-LinkFailed-clause-ok g c = record {
  mid = c.load.new.self;
  loads = c.in-Ok.ensures.ok;
  flushes = (c.in-Err-LinkFailed.field-0, ap is_break c.in-Err-LinkFailed.field-0-is, c.in-Err-LinkFailed.ensures.did);
  idle = c.poll_flush.ensures.idle;
}

pub returns-in-Err-Short-clause-ok : goal.returns-in-Err-Short-clause-ok
returns-in-Err-Short-clause-ok g c = record {
  mid = c.load.new.self;
  loads = c.in-Ok.ensures.ok;
  flushes = (c.in-Err-Short.field-0, ap is_break c.in-Err-Short.field-0-is, c.in-Err-Short.ensures.did);
  idle = c.poll_flush.ensures.idle;
}
