use Rattle.std.proofs.Common.{◌≡◌, ◌∷◌, length, sym, ap, subst, ◌∙◌, arith}
use Rattle.stream_list.specs.Listed.{Room}
use Rattle.proto_core.specs.Session.{Session}
use Rattle.proto_conn.specs.Tallies.{AreBelow}
use Rattle.proto_conn.proofs.OneMore.{moved_one, popped}
use Rattle.proto_conn.proofs.queues.forward_responses.Goals as goal

pub replies-preserved : goal.replies-preserved
replies-preserved g c =
    let cut : c.replies.protocol.session.responses ≡ c.in-Some.response ∷ c.next_response.new.self.session.responses = ap (λ
    (s : Session g.row.T.Denot _). s.responses) c.in-Some.ensures.some in
    let count = ap length cut in record {
      session = popped c.replies.protocol.session c.next_response.new.self.session c.args.protocol.now.session c.in-Some.response c.in-Some.ensures.some c.replies.invariant.session;
      moved = moved_one c.args.forward c.args.given_up.now _ _ _ c.in-Some.response _ _ cut c.replies.invariant.moved c.hand_on.ensures.replies;
      room = c.hand_on.ensures.room ∙ c.replies.invariant.room;
      fits = let same = ap (λ (r : Room). r.items) c.hand_on.ensures.room in
          omega (arith, count, c.replies.invariant.fits, c.hand_on.ensures.len, same);
      streams = subst (λ (r : Room). AreBelow r.streams c.next_response.new.self.session.responses) (sym c.hand_on.ensures.room)
          (subst (λ rs. AreBelow c.replies.replies.room.streams rs) cut c.replies.invariant.streams).1;
    }

pub hand_on-requires-clause-stream : goal.hand_on-requires-clause-stream
hand_on-requires-clause-stream g c =
    let cut : c.replies.protocol.session.responses ≡ c.in-Some.response ∷ c.next_response.new.self.session.responses = ap (λ
    (s : Session g.row.T.Denot _). s.responses) c.in-Some.ensures.some in
    (subst (λ rs. AreBelow c.replies.replies.room.streams rs) cut c.replies.invariant.streams).0
