use Rattle.std.proofs.Common.{◌==◌, not, length, refl, sym, ap, ◌∙◌}
use Rattle.proto_conn.specs.declared.parts.Reply.{Reply}
use Rattle.stream_list.specs.Listed.{Listed}
use Rattle.proto_conn.proofs.Sounds.{as_many_marks, sound_fewer}
use Rattle.proto_conn.proofs.Taking.{shorter_cleared}
use Rattle.proto_conn.proofs.connection.Connection.give_up.Goals as goal

pub returns : goal.returns
returns g c =
    let kept = ap (λ (l : Listed (Reply g.row.T.Denot)). l.items) c.clear_of.ensures in
    rw (kept, c.mark.ensures, sym c.self.view_is) refl

pub invariant_of-self : goal.invariant_of-self
invariant_of-self g c =
    let s = shorter_cleared (λ (r : Reply g.row.T.Denot). not (r.stream == c.args.stream)) c.self.inside.replies c.clear_of.new.self c.clear_of.ensures in
    sound_fewer _ _ _ _ _ _ _ _ _ _ _ _ _ _ s.less s.room
    (ap length c.mark.ensures ∙ as_many_marks c.args.stream c.self.inside.given_up.items) c.self.invariant
