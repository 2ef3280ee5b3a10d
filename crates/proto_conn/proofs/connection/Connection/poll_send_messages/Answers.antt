use Rattle.std.proofs.Common.{◌≡◌, Bool, true, false, inl, inr, sym, refl, subst, ◌∙◌}
use Rattle.proto_conn.specs.Conn.{Conn}
use Rattle.proto_conn.specs.Flushing.{Flushed, GoesOn, Unflushed, is_stuck}
use Rattle.proto_conn.proofs.Seeing.{on_err}
use Rattle.proto_conn.proofs.connection.Connection.poll_send_messages.Goals as goal

pub returns-then-is_stuck-clause-ok : goal.returns-then-is_stuck-clause-ok
returns-then-is_stuck-clause-ok g c =
    let stuck : is_stuck c.poll_flush.new.self ≡ true = sym c.is_stuck.ensures ∙ c.if-is_stuck.true in record {
      mid = c.poll_flush.new.self;
      first = c.in_ok-poll_flush.ensures.ok;
      next = subst (λ (b : Bool). GoesOn g.S.Link.meaning g.T.NetlinkSerializable.text b c.poll_flush.new.self c.poll_flush.new.self) (sym stuck) refl;
    }

pub returns-in_err-load-clause-err : goal.returns-in_err-load-clause-err
returns-in_err-load-clause-err g c =
    on_err _ (inr (record {
      mid = c.poll_flush.new.self;
      first = c.in_ok-poll_flush.ensures.ok;
      free = sym c.is_stuck.ensures ∙ c.if-is_stuck.false;
      next = inl (c.in_err-load.ensures.err, c.in_err-load.ensures.memory);
    }))

pub returns-clause-ok : goal.returns-clause-ok
returns-clause-ok g c =
    let free : is_stuck c.poll_flush.new.self ≡ false = sym c.is_stuck.ensures ∙ c.if-is_stuck.false in record {
      mid = c.poll_flush.new.self;
      first = c.in_ok-poll_flush.ensures.ok;
      next = subst (λ (b : Bool). GoesOn g.S.Link.meaning g.T.NetlinkSerializable.text b c.poll_flush.new.self c.poll_flush-2.new.self) (sym free)
          (subst (λ (m : Conn g.row.T.Denot g.row.S.Denot). Flushed g.S.Link.meaning m c.poll_flush-2.new.self) c.in_ok-load.ensures.ok c.in_ok-poll_flush-2.ensures.ok);
    }

pub returns-in_err-poll_flush-2-clause-err : goal.returns-in_err-poll_flush-2-clause-err
returns-in_err-poll_flush-2-clause-err g c =
    on_err _ (inr (record {
      mid = c.poll_flush.new.self;
      first = c.in_ok-poll_flush.ensures.ok;
      free = sym c.is_stuck.ensures ∙ c.if-is_stuck.false;
      next = inr (subst (λ
          (m : Conn g.row.T.Denot g.row.S.Denot). Unflushed g.S.Link.meaning m c.poll_flush-2.new.self) c.in_ok-load.ensures.ok c.in_err-poll_flush-2.ensures.err);
    }))
