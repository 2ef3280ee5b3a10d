use Rattle.std.proofs.Common.{refl}
use Rattle.proto_conn.specs.declared.parts.Reply.{Reply}
use Rattle.proto_conn.proofs.Sounds.{sound_fewer}
use Rattle.proto_conn.proofs.Taking.{none_taken, one_taken, shorter_taken}
use Rattle.proto_conn.proofs.connection.Connection.take_reply.Goals as goal

pub returns-clause-none : goal.returns-clause-none
returns-clause-none g c =
    none_taken c.args.stream _ _ c.self.view_is c.self.inside.replies c.pop_front_of.new.self refl c.pop_front_of.result c.pop_front_of.ensures.none

pub returns-clause-some : goal.returns-clause-some
returns-clause-some g c =
    one_taken c.args.stream _ _ c.self.view_is c.self.inside.replies c.pop_front_of.new.self refl c.pop_front_of.result c.pop_front_of.ensures.some

pub invariant_of-self : goal.invariant_of-self
invariant_of-self g c =
    let s = shorter_taken (λ (r : Reply g.row.T.Denot). r.stream) c.args.stream c.self.inside.replies c.pop_front_of.new.self c.pop_front_of.result
    c.pop_front_of.ensures.none c.pop_front_of.ensures.some in
    sound_fewer _ _ _ _ _ _ _ _ _ _ _ _ _ _ s.less s.room refl c.self.invariant
