use Rattle.std.proofs.Common.{◌+◌, ◌-◌, ◌||◌, false, ◌++◌, ◌∷◌, [], ℕ, Bool, List, length, length-append, refl, sym, ◌∙◌, ap, arith}
use Rattle.proto_core.specs.declared.request.Request.{Request}
use Rattle.proto_conn.specs.Conn.{Conn, messages_in}
use Rattle.proto_conn.specs.Seen.{Framing}
use Rattle.proto_conn.proofs.Seeing.{on_err}
use Rattle.proto_conn.proofs.Sounds.{sound_reserved, sound_same}
use Rattle.proto_conn.proofs.Submits.{dropped_again, first_false, kept_taken, no_fewer, reader_taken, sends_none, sound_back, sound_submitted, submits_at}
use Rattle.proto_conn.proofs.connection.Connection.take_batch.Goals as goal

pub returns-in_err-reserve_stream-clause-unsent : goal.returns-in_err-reserve_stream-clause-unsent
returns-in_err-reserve_stream-clause-unsent g c =
    on_err _ (sends_none g.S.Link.meaning c.args.self.now.link c.self.inside.framed.link (sym
    (ap (λ (v : Conn g.row.T.Denot g.row.S.Denot). v.link) c.self.view_is)))

pub returns-in_err-reserve-clause-unsent : goal.returns-in_err-reserve-clause-unsent
returns-in_err-reserve-clause-unsent g c =
    on_err _ (sends_none g.S.Link.meaning c.args.self.now.link c.self.inside.framed.link (sym
    (ap (λ (v : Conn g.row.T.Denot g.row.S.Denot). v.link) c.self.view_is)))

pub returns-in_err-add-clause-unsent : goal.returns-in_err-add-clause-unsent
returns-in_err-add-clause-unsent g c =
    on_err _ (sends_none g.S.Link.meaning c.args.self.now.link c.self.inside.framed.link (sym
    (ap (λ (v : Conn g.row.T.Denot g.row.S.Denot). v.link) c.self.view_is)))

pub invariant_of-self : goal.invariant_of-self
invariant_of-self g c =
    sound_reserved c.self.inside.protocol.session c.self.inside.queue.items c.self.inside.count c.self.inside.replies c.reserve_stream.new.self _ _
    c.self.inside.held c.self.inside.framed.reader _ c.self.inside.tallies c.reserve_stream.ensures.items c.reserve_stream.ensures.capacity
    c.reserve_stream.ensures.more c.self.invariant

pub invariant_of-self-in_err-reserve : goal.invariant_of-self-in_err-reserve
invariant_of-self-in_err-reserve g c =
    sound_same c.self.inside.protocol.session c.self.inside.queue.items c.self.inside.queue.items c.self.inside.count _ _ _ _ c.self.inside.held
    c.self.inside.framed.reader _ _ c.self.inside.tallies c.self.inside.tallies refl (ap length c.reserve.ensures.items) refl
    (sound_reserved c.self.inside.protocol.session c.self.inside.queue.items c.self.inside.count c.self.inside.replies c.reserve_stream.new.self _ _
    c.self.inside.held c.self.inside.framed.reader _ c.self.inside.tallies c.reserve_stream.ensures.items c.reserve_stream.ensures.capacity
    c.reserve_stream.ensures.more c.self.invariant)

pub invariant_of-self-in_err-add : goal.invariant_of-self-in_err-add
invariant_of-self-in_err-add g c =
    sound_same c.self.inside.protocol.session c.self.inside.queue.items c.self.inside.queue.items c.self.inside.count _ _ _ _ c.self.inside.held
    c.self.inside.framed.reader _ _ c.self.inside.tallies c.add.new.self refl (ap length c.reserve.ensures.items) c.in_err-add.ensures.err
    (sound_reserved c.self.inside.protocol.session c.self.inside.queue.items c.self.inside.count c.self.inside.replies c.reserve_stream.new.self _ _
    c.self.inside.held c.self.inside.framed.reader _ c.self.inside.tallies c.reserve_stream.ensures.items c.reserve_stream.ensures.capacity
    c.reserve_stream.ensures.more c.self.invariant)

pub invariant_of-self-in_default : goal.invariant_of-self-in_default
invariant_of-self-in_default g c =
    sound_back c.self.inside.protocol.session c.submit.new.protocol.session _ _ _ _ _ _ _ c.self.inside.framed.reader c.submit.new.self.reader
    (length c.self.inside.given_up.items) (length c.reserve.new.self.items) c.self.inside.tallies c.drop_last.new.self
    c.in_default.ensures.session (ap (λ (x : Framing g.row.S.Denot). x.reader) c.in_default.ensures.stays) (ap length c.in_ok-reserve.ensures.items)
    (dropped_again c.self.inside.tallies c.add.new.self c.drop_last.new.self c.in_ok-add.ensures.ok c.drop_last.ensures)
    (sound_reserved c.self.inside.protocol.session c.self.inside.queue.items c.self.inside.count c.self.inside.replies c.reserve_stream.new.self _ _
    c.self.inside.held c.self.inside.framed.reader _ c.self.inside.tallies c.reserve_stream.ensures.items c.reserve_stream.ensures.capacity c.reserve_stream.ensures.more c.self.invariant)

pub overflow_sub-noted : goal.overflow_sub-noted
overflow_sub-noted g c =
    no_fewer g.S.Link.meaning g.T.NetlinkSerializable.kind g.T.NetlinkSerializable.text c.self.inside.framed c.submit.new.self
    c.self.inside.protocol.session c.submit.new.protocol.session _ c.in-Ok.broke c.in-Ok.ensures.ok c.pending_len-awaited.result
    c.pending_len.result c.pending_len-awaited.ensures.len c.pending_len.ensures.len

pub invariant_of-self-2 : goal.invariant_of-self-2
invariant_of-self-2 g c =
    let r : Request g.row.T.Denot ℕ = record {
      metadata = c.len.result + 1;
      messages = c.args.messages;
      destination = c.args.destination;
      expect_response = c.args.expect_response;
    } in
    let kept = kept_taken g.S.Link.meaning g.T.NetlinkSerializable.kind g.T.NetlinkSerializable.text c.self.inside.framed c.submit.new.self
    c.self.inside.protocol.session c.submit.new.protocol.session r c.in-Ok.broke c.in-Ok.ensures.ok in
    let same = reader_taken g.S.Link.meaning g.T.NetlinkSerializable.kind g.T.NetlinkSerializable.text c.self.inside.framed c.submit.new.self
    c.self.inside.protocol.session c.submit.new.protocol.session r c.in-Ok.broke c.in-Ok.ensures.ok in
    let marks = ap length c.push_reserved.ensures.items in
    let more = length-append c.reserve.new.self.items (false ∷ []) in
    let own = ap length c.in_ok-reserve.ensures.items in
    let number = c.len.ensures in
    let marked = c.self.inside.given_up.ok in
    let last = ap (λ (v : Conn g.row.T.Denot g.row.S.Denot). v.session.last + messages_in v.queue) c.self.view_is in
    let len = ap length c.as_slice.ensures in
    sound_submitted g.T.NetlinkSerializable.kind g.T.NetlinkSerializable.text c.self.inside.protocol.session c.submit.new.protocol.session
    c.self.inside.queue.items r c.self.inside.count _ _ _ _ c.self.inside.held c.self.inside.framed.reader c.submit.new.self.reader
    (length c.self.inside.given_up.items) (length c.push_reserved.new.self.items) c.self.inside.tallies c.add.new.self c.note_request.new.self
    (c.pending_len.result - c.pending_len-awaited.result) c.pending_len-awaited.result c.pending_len.result kept same
    (omega (arith, marks, more, own)) (omega (arith, number, marked))
    (ap (λ (v : Conn g.row.T.Denot g.row.S.Denot). v.queue) c.self.view_is ∙ c.requires) c.in_ok-add.ensures.ok c.note_request.ensures
    (omega (arith, c.in_ok-reserve_stream.ensures.room, marks, more, own, number, marked))
    (omega (arith, c.self.invariant.counted, last, len, c.in_ok-check_request.ensures.in_range)) c.pending_len-awaited.ensures.len
    c.pending_len.ensures.len refl c.submit.ensures.batches
    (sound_reserved c.self.inside.protocol.session c.self.inside.queue.items c.self.inside.count c.self.inside.replies c.reserve_stream.new.self _ _
    c.self.inside.held c.self.inside.framed.reader _ c.self.inside.tallies c.reserve_stream.ensures.items c.reserve_stream.ensures.capacity c.reserve_stream.ensures.more c.self.invariant)

pub returns-clause-ok : goal.returns-clause-ok
returns-clause-ok g c =
    let takes = ap (λ (v : Conn g.row.T.Denot g.row.S.Denot). v.closed || v.requests_closed) c.self.view_is ∙ c.in_ok-check_request.ensures.open in
    let number = c.len.ensures in
    let marked = c.self.inside.given_up.ok in
    submits_at g.S.Link.meaning g.T.NetlinkSerializable.kind g.T.NetlinkSerializable.text _ _ c.self.view_is c.self.inside.held
    c.self.inside.framed c.submit.new.self c.submit.new.protocol.session c.args.messages c.args.expect_response c.args.destination
    (c.len.result + 1) c.in-Ok.broke c.push_reserved.new.self.items c.reserve_stream.new.self.items refl refl refl
    (first_false c.self.inside.closed c.self.inside.requests_closed takes) (omega (arith, number, marked))
    (c.push_reserved.ensures.items ∙ ap (λ (xs : List Bool). xs ++ false ∷ []) c.in_ok-reserve.ensures.items)
    c.reserve_stream.ensures.items c.in-Ok.ensures.ok
