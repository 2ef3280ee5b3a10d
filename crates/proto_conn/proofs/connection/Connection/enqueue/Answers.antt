use Rattle.std.proofs.Common.{◌≡◌, ◌+◌, false, ◌++◌, ◌∷◌, [], ℕ, Bool, List, length, length-append, refl, sym, ◌∙◌, ap, arith}
use Rattle.std.specs.List.{list_all}
use Rattle.nl_core.specs.Frames.{message_fits}
use Rattle.proto_core.specs.declared.request.Request.{Request}
use Rattle.proto_conn.specs.Conn.{Conn, messages_in}
use Rattle.proto_conn.proofs.Enqueues.{sound_queued}
use Rattle.proto_conn.proofs.Sounds.{sound_reserved, sound_same}
use Rattle.proto_conn.proofs.connection.Connection.enqueue.Goals as goal

pub invariant_of-self-2 : goal.invariant_of-self-2
invariant_of-self-2 g c =
    let room = c.in_ok-check_request.ensures.in_range in
    let fit = sym (ap (list_all (message_fits g.T.NetlinkSerializable.text g.T.NetlinkSerializable.fitting)) c.as_slice.ensures)
    ∙ c.in_ok-check_request.ensures.fit in
    let last = ap (λ (v : Conn g.row.T.Denot g.row.S.Denot). v.session.last + messages_in v.queue) c.self.view_is in
    let count = c.self.invariant.counted in
    let len = ap length c.as_slice.ensures in
    let r : Request g.row.T.Denot ℕ = record { metadata = c.len.result + 1; messages = c.args.messages; destination = c.args.destination; expect_response = c.args.expect_response } in
    let same = ap (λ (q : List (Request g.row.T.Denot ℕ)). q ++ r ∷ []) c.in_ok-reserve.ensures.items in
    let marks : c.push_reserved.new.self.items ≡ c.self.inside.given_up.items ++ false ∷ [] = c.push_reserved.ensures.items
    ∙ ap (λ (xs : List Bool). xs ++ false ∷ []) c.in_ok-reserve-2.ensures.items in
    let more : length c.push_reserved.new.self.items ≡ length c.self.inside.given_up.items + 1 = ap length marks
    ∙ length-append c.self.inside.given_up.items (false ∷ []) in
    let next : c.len.result + 1 ≡ length c.push_reserved.new.self.items = omega (arith, c.len.ensures, more, c.self.inside.given_up.ok) in
    let known = c.in_ok-reserve_stream.ensures.room in
    sound_queued c.self.inside.protocol.session c.self.inside.queue.items _ r c.self.inside.count c.len-2.result _ _ _ _ c.self.inside.held c.self.inside.framed.reader
    (length c.self.inside.given_up.items) _ c.self.inside.tallies _ more c.in_ok-add.ensures.ok next
    (c.push_back_reserved.ensures.items ∙ same) c.len-2.ensures (omega (arith, known, next)) (omega (arith, room, last, count, len)) fit
    (sound_reserved c.self.inside.protocol.session c.self.inside.queue.items c.self.inside.count c.self.inside.replies c.reserve_stream.new.self _ _
    c.self.inside.held c.self.inside.framed.reader _ c.self.inside.tallies c.reserve_stream.ensures.items c.reserve_stream.ensures.capacity c.reserve_stream.ensures.more c.self.invariant)

pub invariant_of-self : goal.invariant_of-self
invariant_of-self g c =
    sound_reserved c.self.inside.protocol.session c.self.inside.queue.items c.self.inside.count c.self.inside.replies c.reserve_stream.new.self _ _
    c.self.inside.held c.self.inside.framed.reader _ c.self.inside.tallies c.reserve_stream.ensures.items c.reserve_stream.ensures.capacity
    c.reserve_stream.ensures.more c.self.invariant

pub invariant_of-self-in_err-reserve : goal.invariant_of-self-in_err-reserve
invariant_of-self-in_err-reserve g c =
    sound_same c.self.inside.protocol.session c.self.inside.queue.items c.reserve.new.self.items c.self.inside.count _ _ _ _ c.self.inside.held
    c.self.inside.framed.reader _ _ c.self.inside.tallies c.self.inside.tallies c.reserve.ensures.items refl refl
    (sound_reserved c.self.inside.protocol.session c.self.inside.queue.items c.self.inside.count c.self.inside.replies c.reserve_stream.new.self _ _
    c.self.inside.held c.self.inside.framed.reader _ c.self.inside.tallies c.reserve_stream.ensures.items c.reserve_stream.ensures.capacity
    c.reserve_stream.ensures.more c.self.invariant)

pub invariant_of-self-in_err-reserve-2 : goal.invariant_of-self-in_err-reserve-2
invariant_of-self-in_err-reserve-2 g c =
    sound_same c.self.inside.protocol.session c.self.inside.queue.items c.reserve.new.self.items c.self.inside.count _ _ _ _ c.self.inside.held
    c.self.inside.framed.reader _ _ c.self.inside.tallies c.self.inside.tallies c.reserve.ensures.items (ap length c.reserve-2.ensures.items) refl
    (sound_reserved c.self.inside.protocol.session c.self.inside.queue.items c.self.inside.count c.self.inside.replies c.reserve_stream.new.self _ _
    c.self.inside.held c.self.inside.framed.reader _ c.self.inside.tallies c.reserve_stream.ensures.items c.reserve_stream.ensures.capacity
    c.reserve_stream.ensures.more c.self.invariant)

pub invariant_of-self-in_err-add : goal.invariant_of-self-in_err-add
invariant_of-self-in_err-add g c =
    sound_same c.self.inside.protocol.session c.self.inside.queue.items c.reserve.new.self.items c.self.inside.count _ _ _ _ c.self.inside.held
    c.self.inside.framed.reader _ _ c.self.inside.tallies c.add.new.self c.reserve.ensures.items (ap length c.reserve-2.ensures.items)
    c.in_err-add.ensures.err
    (sound_reserved c.self.inside.protocol.session c.self.inside.queue.items c.self.inside.count c.self.inside.replies c.reserve_stream.new.self _ _
    c.self.inside.held c.self.inside.framed.reader _ c.self.inside.tallies c.reserve_stream.ensures.items c.reserve_stream.ensures.capacity
    c.reserve_stream.ensures.more c.self.invariant)
