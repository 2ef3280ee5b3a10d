use Rattle.std.proofs.Common.{refl, subst, sym, ◌≡◌, ◌+◌, ◌∷◌, length, ap, arith, ◌∙◌}
use Rattle.proto_core.specs.Session.{Session}
use Rattle.proto_conn.specs.Conn.{messages_in}
use Rattle.proto_conn.specs.Tallies.{AreNewest}
use Rattle.proto_conn.proofs.Fits.{first_fits, memory_alone, requested_fit, rest_fits}
use Rattle.proto_conn.proofs.OneMore.{took_one}
use Rattle.proto_conn.proofs.Numbering.{noted_fits, noted_more, same_length, tallied_took}
use Rattle.proto_conn.proofs.queues.take_requests.Goals as goal

pub requests-preserved : goal.requests-preserved
requests-preserved g c =
    let cut : c.requests.queue.items ≡ c.in-Some.request ∷ c.pop_front.new.self.items = c.in-Some.ensures.items in
    let sum : c.requests.count ≡ length c.in-Some.request.messages + messages_in c.pop_front.new.self.items = c.requests.invariant.counted
    ∙ ap messages_in cut in
    let len = c.len-len.ensures in
    let last = ap (λ (s : Session g.row.T.Denot _). s.last) c.in-Ok.ensures.ok in
    let front = subst (λ q. AreNewest (length c.requests.tallies.streams) q) cut c.requests.invariant.newest in
    record {
      took = took_one g.T.NetlinkSerializable.kind g.T.NetlinkSerializable.text _ _ _ _ _ _ c.in-Some.request cut c.in-Ok.ensures.ok c.requests.invariant.took;
      counted = omega (arith, sum, len);
      fit = rest_fits g.T.NetlinkSerializable.text g.T.NetlinkSerializable.fitting c.in-Some.request _ _ cut c.requests.invariant.fit;
      batches = requested_fit g.T.NetlinkSerializable.text g.T.NetlinkSerializable.fitting g.T.NetlinkSerializable.kind c.requests.protocol.session _
          c.in-Some.request c.in-Ok.ensures.ok c.requests.invariant.batches
          (first_fits g.T.NetlinkSerializable.text g.T.NetlinkSerializable.fitting c.in-Some.request _ _ cut c.requests.invariant.fit);
      numbers = omega (arith, sum, len, last, c.requests.invariant.numbers);
      responses = ap (λ (s : Session g.row.T.Denot _). s.responses) c.in-Ok.ensures.ok ∙ c.requests.invariant.responses;
      incoming = ap (λ (s : Session g.row.T.Denot _). s.incoming) c.in-Ok.ensures.ok ∙ c.requests.invariant.incoming;
      given = same_length c.requests.tallies c.note_request.new.self c.in-Some.request.metadata _ c.note_request.ensures ∙ c.requests.invariant.given;
      newest = subst (λ n. AreNewest n c.pop_front.new.self.items) (sym
          (same_length c.requests.tallies c.note_request.new.self c.in-Some.request.metadata _ c.note_request.ensures)) front.2;
      tallied = tallied_took g.T.NetlinkSerializable.kind g.T.NetlinkSerializable.text c.requests.protocol.session c.request.new.self.session c.requests.tallies c.note_request.new.self c.in-Some.request _ _ _
          c.requests.invariant.tallied c.in-Ok.ensures.ok c.note_request.ensures c.pending_len-awaited.ensures.len c.pending_len.ensures.len refl front.0 (omega (arith, front.0, front.1));
    }

pub note_request-requires-clause-first : goal.note_request-requires-clause-first
note_request-requires-clause-first g c =
    (subst (λ q. AreNewest (length c.requests.tallies.streams) q) c.in-Some.ensures.items c.requests.invariant.newest).0

pub note_request-requires-clause-given : goal.note_request-requires-clause-given
note_request-requires-clause-given g c =
    let sum = (subst (λ q. AreNewest (length c.requests.tallies.streams) q) c.in-Some.ensures.items c.requests.invariant.newest).1 in
    omega (arith, sum)

pub note_request-requires-clause-fits : goal.note_request-requires-clause-fits
note_request-requires-clause-fits g c =
    let first = (subst (λ q. AreNewest (length c.requests.tallies.streams) q) c.in-Some.ensures.items c.requests.invariant.newest).0 in
    let fits = noted_fits g.T.NetlinkSerializable.kind g.T.NetlinkSerializable.text c.requests.protocol.session c.request.new.self.session
    c.requests.tallies c.in-Some.request _ _ _ c.requests.invariant.tallied c.in-Ok.ensures.ok c.pending_len-awaited.ensures.len
    c.pending_len.ensures.len refl first in
    omega (arith, fits, c.pending_len.type_inv)

pub overflow_sub-noted : goal.overflow_sub-noted
overflow_sub-noted g c =
    noted_more g.T.NetlinkSerializable.kind g.T.NetlinkSerializable.text c.requests.protocol.session c.request.new.self.session
    c.in-Some.request _ _ c.in-Ok.ensures.ok c.pending_len-awaited.ensures.len c.pending_len.ensures.len

pub want_of_memory-requires : goal.want_of_memory-requires
want_of_memory-requires g c =
    let cut : c.requests.queue.items ≡ c.in-Some.request ∷ c.pop_front.new.self.items = c.in-Some.ensures.items in
    let sum : c.requests.count ≡ length c.in-Some.request.messages + messages_in c.pop_front.new.self.items = c.requests.invariant.counted
    ∙ ap messages_in cut in
    memory_alone g.T.NetlinkSerializable.text g.T.NetlinkSerializable.fitting c.requests.protocol.session.last c.in-Some.request.messages
    c.in-Err.refusal c.in-Err.ensures.refused (omega (arith, sum, c.requests.invariant.numbers, c.requires.numbers))
    (first_fits g.T.NetlinkSerializable.text g.T.NetlinkSerializable.fitting c.in-Some.request _ _ cut c.requests.invariant.fit)
