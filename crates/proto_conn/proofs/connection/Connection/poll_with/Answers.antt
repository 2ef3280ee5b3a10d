use Rattle.std.proofs.Common.{◌≡◌, inl, inr, sym, subst, ◌∙◌, ap}
use Rattle.proto_conn.specs.Conn.{AskedSome, Conn, asked, forwarded, with_replies}
use Rattle.proto_conn.specs.Flushing.{SendStopped, SendsNext}
use Rattle.proto_conn.specs.Polls.{poll_answer}
use Rattle.proto_conn.proofs.Seeing.{on_err}
use Rattle.proto_conn.proofs.connection.Connection.poll_with.Goals as goal

pub returns-in_err-read_with-clause-err : goal.returns-in_err-read_with-clause-err
returns-in_err-read_with-clause-err g c = on_err _ (inl c.in_err-read_with.ensures.err)

pub returns-in_err-poll_requests-clause-err : goal.returns-in_err-poll_requests-clause-err
returns-in_err-poll_requests-clause-err g c =
    let f : c.forward_responses.new.self ≡ forwarded c.read_with.new.self = c.forward_responses.ensures
    ∙ ap with_replies c.forward_unsolicited_messages.ensures in
    on_err _ (inr (record {
      read = c.read_with.new.self;
      reads_to = c.in_ok-read_with.ensures.ok.0;
      drained = c.in_ok-read_with.ensures.ok.1;
      later = inl (subst (λ
          (v : Conn g.row.T.Denot g.row.S.Denot). AskedSome g.T.NetlinkSerializable.kind g.T.NetlinkSerializable.text g.T.NetlinkSerializable.fitting v c.poll_requests.new.self) f c.in_err-poll_requests.ensures.err);
    }))

pub returns-in_err-poll_send_messages-clause-err : goal.returns-in_err-poll_send_messages-clause-err
returns-in_err-poll_send_messages-clause-err g c =
    let f : c.forward_responses.new.self ≡ forwarded c.read_with.new.self = c.forward_responses.ensures
    ∙ ap with_replies c.forward_unsolicited_messages.ensures in
    let a = c.in_ok-poll_requests.ensures.ok ∙ ap (asked g.T.NetlinkSerializable.kind g.T.NetlinkSerializable.text) f in
    on_err _ (inr (record {
      read = c.read_with.new.self;
      reads_to = c.in_ok-read_with.ensures.ok.0;
      drained = c.in_ok-read_with.ensures.ok.1;
      later = inr (subst (λ
          (v : Conn g.row.T.Denot g.row.S.Denot). SendStopped g.S.Link.meaning g.T.NetlinkSerializable.text g.T.NetlinkSerializable.fitting v c.poll_send_messages.new.self) a c.in_err-poll_send_messages.ensures.err);
    }))

pub returns-then-should_shut_down-clause-ok : goal.returns-then-should_shut_down-clause-ok
returns-then-should_shut_down-clause-ok g c =
    let f : c.forward_responses.new.self ≡ forwarded c.read_with.new.self = c.forward_responses.ensures
    ∙ ap with_replies c.forward_unsolicited_messages.ensures in
    let a = c.in_ok-poll_requests.ensures.ok ∙ ap (asked g.T.NetlinkSerializable.kind g.T.NetlinkSerializable.text) f in
    record {
      read = c.read_with.new.self;
      reads_to = c.in_ok-read_with.ensures.ok.0;
      drained = c.in_ok-read_with.ensures.ok.1;
      sent = subst (λ (v : Conn g.row.T.Denot g.row.S.Denot). SendsNext g.S.Link.meaning g.T.NetlinkSerializable.text v c.poll_send_messages.new.self) a c.in_ok-poll_send_messages.ensures.ok;
      answers = ap poll_answer (sym c.if-should_shut_down.true ∙ c.should_shut_down.ensures);
    }

pub returns-else-should_shut_down-clause-ok : goal.returns-else-should_shut_down-clause-ok
returns-else-should_shut_down-clause-ok g c =
    let f : c.forward_responses.new.self ≡ forwarded c.read_with.new.self = c.forward_responses.ensures
    ∙ ap with_replies c.forward_unsolicited_messages.ensures in
    let a = c.in_ok-poll_requests.ensures.ok ∙ ap (asked g.T.NetlinkSerializable.kind g.T.NetlinkSerializable.text) f in
    record {
      read = c.read_with.new.self;
      reads_to = c.in_ok-read_with.ensures.ok.0;
      drained = c.in_ok-read_with.ensures.ok.1;
      sent = subst (λ (v : Conn g.row.T.Denot g.row.S.Denot). SendsNext g.S.Link.meaning g.T.NetlinkSerializable.text v c.poll_send_messages.new.self) a c.in_ok-poll_send_messages.ensures.ok;
      answers = ap poll_answer (sym c.if-should_shut_down.false ∙ c.should_shut_down.ensures);
    }
