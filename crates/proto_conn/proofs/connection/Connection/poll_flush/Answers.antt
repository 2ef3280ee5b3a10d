use Rattle.std.proofs.Common.{sym, refl, ◌∙◌}
use Rattle.proto_conn.proofs.Flushes.{flush_done, flush_broke, flush_wants}
use Rattle.proto_conn.proofs.connection.Connection.poll_flush.Goals as goal

pub returns-in-Ok-clause-ok : goal.returns-in-Ok-clause-ok
returns-in-Ok-clause-ok g c =
    rw (sym c.self.view_is)
    (flush_done g.S.Link.meaning _ c.self.inside.held c.self.inside.framed c.poll_flush.new.self refl refl refl c.if-self.false c.poll_flush.ensures.idle c.in-Ok.field-0 c.in-Ok.ensures.did)

pub returns-then-not-is_break-clause-err : goal.returns-then-not-is_break-clause-err
returns-then-not-is_break-clause-err g c =
    rw (sym c.self.view_is)
    (flush_wants g.S.Link.meaning _ c.self.inside.held c.self.inside.framed c.poll_flush.new.self refl refl refl c.if-self.false c.poll_flush.ensures.idle c.in-Err.error (sym c.is_break.ensures ∙ c.if-not-is_break.true) c.in-Err.ensures.did)

pub returns-else-not-is_break-clause-ok : goal.returns-else-not-is_break-clause-ok
returns-else-not-is_break-clause-ok g c =
    rw (sym c.self.view_is)
    (flush_broke g.S.Link.meaning _ c.self.inside.held c.self.inside.framed c.poll_flush.new.self refl refl refl c.if-self.false c.poll_flush.ensures.idle c.in-Err.error (sym c.is_break.ensures ∙ c.if-not-is_break.false) c.in-Err.ensures.did)
