use Rattle.std.proofs.Common.{sym, subst, ◌∙◌, refl}
use Rattle.proto_conn.specs.declared.link.Received.{Received}
use Rattle.proto_conn.specs.declared.parts.Waiting.TheVariants as waiting
use Rattle.proto_conn.specs.Polls.{Gets}
use Rattle.proto_conn.proofs.Fills.{fills_by, fills_closed, fills_datagram, fills_overrun, fills_rest, fills_closed_link, fills_failed_link, got_datagram, got_nothing, got_overrun, no_bytes, none_waits, waits_of}
use Rattle.proto_conn.proofs.Sounds.{sound_held}
use Rattle.proto_conn.proofs.connection.Connection.fill.Goals as goal

pub returns-then-is_overrun-clause-ok : goal.returns-then-is_overrun-clause-ok
returns-then-is_overrun-clause-ok g c =
    fills_overrun g.S.Link.meaning _ _ c.self.view_is c.self.inside.held c.self.inside.framed.source c.self.inside.framed.reader refl
    (sym c.is_overrun.ensures ∙ c.if-is_overrun.true)

pub returns-then-is_datagram-clause-ok : goal.returns-then-is_datagram-clause-ok
returns-then-is_datagram-clause-ok g c =
    fills_datagram g.S.Link.meaning _ _ c.self.view_is c.self.inside.held c.self.inside.framed.source c.self.inside.framed.reader refl
    (sym c.is_datagram.ensures ∙ c.if-is_datagram.true)

pub returns-then-has_unread-clause-ok : goal.returns-then-has_unread-clause-ok
returns-then-has_unread-clause-ok g c =
    fills_rest g.S.Link.meaning _ _ c.self.view_is c.self.inside.held c.self.inside.framed.source c.self.inside.framed.reader refl
    (sym c.is_overrun.ensures ∙ c.if-is_overrun.false) (sym c.is_datagram.ensures ∙ c.if-is_datagram.false)
    (sym c.has_unread.ensures ∙ c.if-has_unread.true)

pub returns-then-self-clause-ok : goal.returns-then-self-clause-ok
returns-then-self-clause-ok g c =
    fills_closed g.S.Link.meaning _ _ c.self.view_is c.self.inside.held c.self.inside.framed.source c.self.inside.framed.reader refl
    (sym c.is_overrun.ensures ∙ c.if-is_overrun.false) (sym c.is_datagram.ensures ∙ c.if-is_datagram.false)
    (sym c.has_unread.ensures ∙ c.if-has_unread.false) c.if-self.true

pub receive-requires : goal.receive-requires
receive-requires g c = no_bytes c.self.inside.framed.reader (sym c.has_unread.ensures ∙ c.if-has_unread.false)

pub returns-in-Datagram-clause-ok : goal.returns-in-Datagram-clause-ok
returns-in-Datagram-clause-ok g c =
    let got = subst (λ (r : Received). Gets g.S.Link.meaning c.self.inside.framed r c.receive.new.self) c.in-Datagram.is c.in_ok-answer.ensures.ok in
    fills_by g.S.Link.meaning _ _ c.self.view_is c.self.inside.held c.self.inside.framed.source c.self.inside.framed.reader refl
    (sym c.is_overrun.ensures ∙ c.if-is_overrun.false) (sym c.is_datagram.ensures ∙ c.if-is_datagram.false)
    (sym c.has_unread.ensures ∙ c.if-has_unread.false) c.if-self.false
    waiting.Datagram _ (got_datagram g.S.Link.meaning _ c.self.inside.framed c.receive.new.self refl refl
    (none_waits g.S.Link.meaning _ _ c.self.view_is c.self.inside.held c.self.inside.framed.source c.self.inside.framed.reader refl
    (sym c.is_overrun.ensures ∙ c.if-is_overrun.false) (sym c.is_datagram.ensures ∙ c.if-is_datagram.false)
    (sym c.has_unread.ensures ∙ c.if-has_unread.false)) c.in-Datagram._source got)

pub returns-in-Overrun-clause-ok : goal.returns-in-Overrun-clause-ok
returns-in-Overrun-clause-ok g c =
    let got = subst (λ (r : Received). Gets g.S.Link.meaning c.self.inside.framed r c.receive.new.self) c.in-Overrun.is c.in_ok-answer.ensures.ok in
    fills_by g.S.Link.meaning _ _ c.self.view_is c.self.inside.held c.self.inside.framed.source c.self.inside.framed.reader refl
    (sym c.is_overrun.ensures ∙ c.if-is_overrun.false) (sym c.is_datagram.ensures ∙ c.if-is_datagram.false)
    (sym c.has_unread.ensures ∙ c.if-has_unread.false) c.if-self.false
    waiting.Overrun _ (got_overrun g.S.Link.meaning _ c.self.inside.framed c.receive.new.self refl refl
    (none_waits g.S.Link.meaning _ _ c.self.view_is c.self.inside.held c.self.inside.framed.source c.self.inside.framed.reader refl
    (sym c.is_overrun.ensures ∙ c.if-is_overrun.false) (sym c.is_datagram.ensures ∙ c.if-is_datagram.false)
    (sym c.has_unread.ensures ∙ c.if-has_unread.false)) got)

pub returns-in-NotReady-clause-ok : goal.returns-in-NotReady-clause-ok
returns-in-NotReady-clause-ok g c =
    let got = subst (λ (r : Received). Gets g.S.Link.meaning c.self.inside.framed r c.receive.new.self) c.in-NotReady.is c.in_ok-answer.ensures.ok in
    fills_by g.S.Link.meaning _ _ c.self.view_is c.self.inside.held c.self.inside.framed.source c.self.inside.framed.reader refl
    (sym c.is_overrun.ensures ∙ c.if-is_overrun.false) (sym c.is_datagram.ensures ∙ c.if-is_datagram.false)
    (sym c.has_unread.ensures ∙ c.if-has_unread.false) c.if-self.false
    waiting.Nothing _ (got_nothing g.S.Link.meaning _ c.self.inside.framed c.receive.new.self refl refl
    (none_waits g.S.Link.meaning _ _ c.self.view_is c.self.inside.held c.self.inside.framed.source c.self.inside.framed.reader refl
    (sym c.is_overrun.ensures ∙ c.if-is_overrun.false) (sym c.is_datagram.ensures ∙ c.if-is_datagram.false)
    (sym c.has_unread.ensures ∙ c.if-has_unread.false)) got)

pub returns-in-Closed-clause-ok : goal.returns-in-Closed-clause-ok
returns-in-Closed-clause-ok g c =
    let got = subst (λ (r : Received). Gets g.S.Link.meaning c.self.inside.framed r c.receive.new.self) c.in-Closed.is c.in_ok-answer.ensures.ok in
    fills_closed_link g.S.Link.meaning _ _ c.self.view_is c.self.inside.held c.self.inside.framed c.receive.new.self refl refl refl
    (sym c.is_overrun.ensures ∙ c.if-is_overrun.false) (sym c.is_datagram.ensures ∙ c.if-is_datagram.false)
    (sym c.has_unread.ensures ∙ c.if-has_unread.false) c.if-self.false got

pub returns-in-Failed-clause-ok : goal.returns-in-Failed-clause-ok
returns-in-Failed-clause-ok g c =
    let got = subst (λ (r : Received). Gets g.S.Link.meaning c.self.inside.framed r c.receive.new.self) c.in-Failed.is c.in_ok-answer.ensures.ok in
    fills_failed_link g.S.Link.meaning _ _ c.self.view_is c.self.inside.held c.self.inside.framed c.receive.new.self refl refl refl
    (sym c.is_overrun.ensures ∙ c.if-is_overrun.false) (sym c.is_datagram.ensures ∙ c.if-is_datagram.false)
    (sym c.has_unread.ensures ∙ c.if-has_unread.false) c.if-self.false got

pub returns-then-is_datagram-clause-waits : goal.returns-then-is_datagram-clause-waits
returns-then-is_datagram-clause-waits g c = waits_of g.S.Link.meaning c.args.self.now _ waiting.Datagram (returns-then-is_datagram-clause-ok g c)

pub returns-then-has_unread-clause-waits : goal.returns-then-has_unread-clause-waits
returns-then-has_unread-clause-waits g c = waits_of g.S.Link.meaning c.args.self.now _ waiting.Datagram (returns-then-has_unread-clause-ok g c)

pub returns-in-Datagram-clause-waits : goal.returns-in-Datagram-clause-waits
returns-in-Datagram-clause-waits g c = waits_of g.S.Link.meaning c.args.self.now _ waiting.Datagram (returns-in-Datagram-clause-ok g c)

pub invariant_of-self-in-Overrun : goal.invariant_of-self-in-Overrun
invariant_of-self-in-Overrun g c =
    let got = subst (λ (r : Received). Gets g.S.Link.meaning c.self.inside.framed r c.receive.new.self) c.in-Overrun.is c.in_ok-answer.ensures.ok in
    sound_held _ _ _ _ _ _ _ c.self.inside.held _ c.self.inside.framed.reader _ _ _ got.did.cause.0 c.self.invariant
