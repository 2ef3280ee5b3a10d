use Rattle.std.proofs.Common.{sym, ◌∙◌}
use Rattle.proto_conn.proofs.Inside.{inside_message, inside_rest, inside_unreadable}
use Rattle.proto_conn.proofs.Steps.{step_message, step_unreadable, step_rest}
use Rattle.proto_conn.proofs.framed.NetlinkFramed.step.Goals as goal

pub returns-in-Message-clause-step : goal.returns-in-Message-clause-step
returns-in-Message-clause-step g c = rw (sym c.self.view_is) (step_message g.T.NetlinkDeserializable.reads g.S.Link.meaning _
    c.in-Message.message c.decode_next.new.src.items (sym c.in_ok-message.ensures.front ∙ c.in-Message.is) c.in_ok-message.ensures.rest)

pub returns-in-Unreadable-clause-step : goal.returns-in-Unreadable-clause-step
returns-in-Unreadable-clause-step g c = rw (sym c.self.view_is)
    (step_unreadable g.T.NetlinkDeserializable.reads g.S.Link.meaning _ c.in-Unreadable.message_type c.in-Unreadable.sequence_number
    c.decode_next.new.src.items (sym c.in_ok-message.ensures.front ∙ c.in-Unreadable.is) c.in_ok-message.ensures.rest)

pub returns-in-Rest-clause-step : goal.returns-in-Rest-clause-step
returns-in-Rest-clause-step g c = rw (sym c.self.view_is) (step_rest g.T.NetlinkDeserializable.reads g.S.Link.meaning _ c.in-Rest.bytes
    c.decode_next.new.src.items (sym c.in_ok-message.ensures.front ∙ c.in-Rest.is) c.in_ok-message.ensures.rest)

pub returns-in-Message-clause-inside : goal.returns-in-Message-clause-inside
returns-in-Message-clause-inside g c = rw (sym c.self.view_is) (inside_message g.T.NetlinkDeserializable.reads _ _ _ _)

pub returns-in-Unreadable-clause-inside : goal.returns-in-Unreadable-clause-inside
returns-in-Unreadable-clause-inside g c =
    rw (sym c.self.view_is) (inside_unreadable g.T.NetlinkDeserializable.reads _ _ _ _ _
    (sym c.in_ok-message.ensures.front ∙ c.in-Unreadable.is) c.in_ok-message.ensures.rest)

pub returns-in-Rest-clause-inside : goal.returns-in-Rest-clause-inside
returns-in-Rest-clause-inside g c =
    rw (sym c.self.view_is) (inside_rest g.T.NetlinkDeserializable.reads _ _ _ _ (sym c.in_ok-message.ensures.front ∙ c.in-Rest.is))
