use Rattle.std.proofs.Common.{◌≡◌, [], ◌∷◌, ◌++◌, length, refl, ◌∙◌, ap, arith}
use Rattle.proto_conn.specs.Links.{is_prompt}
use Rattle.proto_conn.specs.Tapes.{Tape}
use Rattle.mirror.proofs.Polling.{received_one}
use Rattle.mirror.proofs.Sends.{manners}
use Rattle.mirror.proofs.exchange.arrive.Goals as goal
use Rattle.mirror.proofs.exchange.arrive.Goals.{In_ok-push}

-- The tape on which the arrival waits.
pushed : (c : In_ok-push) → c.push.new.self ≡ record c.args.connection.now.link { waits = c.args.connection.now.link.waits ++ c.args.arrival ∷ [] }
pushed c = c.in_ok-push.ensures.ok ∙ ap (λ (l : Tape). record l { waits = l.waits ++ c.args.arrival ∷ [] }) c.socket_mut.ensures.now

one_waits : (c : In_ok-push) → c.push.new.self.waits ≡ c.args.arrival ∷ []
one_waits c = ap (λ (l : Tape). l.waits) (pushed c) ∙ ap (λ waits. waits ++ c.args.arrival ∷ []) c.requires.rest.link.waits

pub poll_with-requires : goal.poll_with-requires
poll_with-requires c =
    let one = ap length (one_waits (goal.at.poll_with-requires c).In_ok-push) in omega (arith, one, c.requires.space)

pub returns : goal.returns
returns c =
    let at = (goal.at.returns c).In_ok-push in
    let link = pushed at in
    let rest = c.requires.rest in
    let received = received_one c.args.connection.now c.push.new.self c.args.connection.now.queue c.args.connection.now.given_up
    c.args.observers.now c.poll_with.new.watch c.in_ok-poll_with.field-0 c.poll_with.new.self rest c.requires.unshut
    (ap (λ (l : Tape). l.closings) link ∙ rest.closings c.requires.unshut)
    (ap (λ (l : Tape). is_prompt (manners l)) link ∙ rest.link.prompt) c.in_ok-poll_with.ensures.ok c.args.arrival
    (one_waits at) (ap (λ (l : Tape). l.posted) link ∙ rest.posted) rest.queue refl in
    record { reads = received.0; shown = received.1 }
