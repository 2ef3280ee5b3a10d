use Rattle.std.proofs.Common.{ap, subst, sym, ◌∙◌, length}
use Rattle.proto_core.specs.Session.{arrival_of}
use Rattle.proto_conn.specs.Tallies.{IsTallied, Tallied}
use Rattle.proto_conn.proofs.Counts.{as_many, given_place, tallied_after}
use Rattle.proto_conn.proofs.connection.reading.take_in.Goals as goal

pub note_handled-requires : goal.note_handled-requires
note_handled-requires g c =
    given_place (arrival_of c.args.message c.args.source) c.args.protocol.now.session c.args.tallies.now c.requires.tallied
    c.would_handle-handled.ensures.ascending c.would_handle-handled.result c.would_handle-handled.ensures.handled

pub returns-clause-given : goal.returns-clause-given
returns-clause-given g c =
    ap (λ (x : Tallied). length x.streams) c.note_handled.ensures ∙ as_many c.would_handle-handled.result c.args.tallies.now

pub returns-clause-tallied : goal.returns-clause-tallied
returns-clause-tallied g c =
    subst (λ (x : Tallied). IsTallied c.handle_message.new.self.session.awaited c.handle_message.new.self.session.responses
    c.handle_message.new.self.session.arrived x) (sym c.note_handled.ensures)
    (tallied_after (arrival_of c.args.message c.args.source) c.args.protocol.now.session c.args.tallies.now c.requires.tallied
    c.would_handle-handled.ensures.ascending c.would_handle-handled.result c.handle_message.new.self.session
    c.would_handle-handled.ensures.handled c.handle_message.ensures.after)
