use Rattle.std.proofs.Common.{ℕ, List, rules, [], inl, inr, sym, subst, ◌∙◌, ap, refl}
use Rattle.session_model.specs.Events.{Came, Overran}
use Rattle.proto_conn.specs.declared.framed.Step.{Step}
use Rattle.proto_conn.specs.Seen.{Framing, IsStep, loss}
use Rattle.proto_conn.proofs.Seeing.{on_err}
use Rattle.proto_conn.proofs.Readings.{calm_of, overran_of, stopped_nothing, did_one, missed_one, did_none, did_wait, did_end, did_overrun, missed_overrun, follows_loss, followed_shut, loss_after, loss_open, number_for}
use Rattle.proto_conn.specs.Conn.{IsHeld}
use Rattle.proto_conn.proofs.Sounds.{sound_roomy}
use Rattle.proto_conn.proofs.connection.Connection.read_step.Goals as goal

pub returns-in_err-make_room-clause-err : goal.returns-in_err-make_room-clause-err
returns-in_err-make_room-clause-err g c =
    rw (c.make_room.ensures.same_replies, c.make_room.ensures.same_unsolicited, sym c.self.view_is)
    (on_err _ (stopped_nothing g.W.Watch.sees g.W.Watch.loses g.W.Watch.overruns g.T.NetlinkDeserializable.reads g.S.Link.meaning _ _ _
    (search rules)))

pub returns-in_err-step-clause-err : goal.returns-in_err-step-clause-err
returns-in_err-step-clause-err g c =
    rw (c.make_room.ensures.same_replies, c.make_room.ensures.same_unsolicited, sym c.self.view_is)
    (on_err _ (stopped_nothing g.W.Watch.sees g.W.Watch.loses g.W.Watch.overruns g.T.NetlinkDeserializable.reads g.S.Link.meaning _ _ _
    (search rules)))

pub returns-in_err-take_overrun-clause-err : goal.returns-in_err-take_overrun-clause-err
returns-in_err-take_overrun-clause-err g c =
    rw (c.make_room.ensures.same_replies, c.make_room.ensures.same_unsolicited, sym c.self.view_is)
    (on_err _ (missed_overrun g.W.Watch.sees g.W.Watch.loses g.W.Watch.overruns g.T.NetlinkDeserializable.reads g.S.Link.meaning _
    c.self.inside.held c.self.inside.framed (overran_of c.self.inside.held (sym c.is_overrun.ensures ∙ c.if-is_overrun.true))
    c.self.invariant.held refl _ c.make_room.new.protocol.session c.take_overrun.new.protocol.session c.take_overrun.new.watch
    c.make_room.ensures.session c.take_overrun.ensures.session c.in_err-take_overrun.ensures.watch))

pub returns-then-is_overrun-clause-ok : goal.returns-then-is_overrun-clause-ok
returns-then-is_overrun-clause-ok g c =
    rw (c.make_room.ensures.same_replies, c.make_room.ensures.same_unsolicited, sym c.self.view_is)
    (did_overrun g.W.Watch.sees g.W.Watch.loses g.W.Watch.overruns g.T.NetlinkDeserializable.reads g.S.Link.meaning _ c.self.inside.held
    c.self.inside.framed (overran_of c.self.inside.held (sym c.is_overrun.ensures ∙ c.if-is_overrun.true)) c.self.invariant.held refl _
    c.make_room.new.protocol.session c.take_overrun.new.protocol.session c.take_overrun.new.watch c.make_room.ensures.session
    c.take_overrun.ensures.session c.in_ok-take_overrun.ensures.watch)

pub take_in-requires-clause-count : goal.take_in-requires-clause-count
take_in-requires-clause-count g c =
    let s = subst (λ (s : Step g.row.T.Denot). IsStep g.T.NetlinkDeserializable.reads g.S.Link.meaning c.self.inside.framed s
    c.step.new.self) c.in-Message.is c.in_ok-step.ensures.step in
    rw c.make_room.ensures.session (number_for g.W.Watch.sees g.W.Watch.loses g.W.Watch.overruns g.T.NetlinkDeserializable.reads
    g.S.Link.meaning _ _ c.self.view_is c.self.inside.held (calm_of c.self.inside.held (sym c.is_overrun.ensures ∙ c.if-is_overrun.false))
    c.self.inside.framed c.step.new.self refl refl refl (Came c.in-Message.message c.in-Message.source) refl s.because c.requires)

pub take_overrun-requires-in-Overrun-clause-count : goal.take_overrun-requires-in-Overrun-clause-count
take_overrun-requires-in-Overrun-clause-count g c =
    let s = subst (λ (s : Step g.row.T.Denot). IsStep g.T.NetlinkDeserializable.reads g.S.Link.meaning c.self.inside.framed s
    c.step.new.self) c.in-Overrun.is c.in_ok-step.ensures.step in
    rw c.make_room.ensures.session (number_for g.W.Watch.sees g.W.Watch.loses g.W.Watch.overruns g.T.NetlinkDeserializable.reads
    g.S.Link.meaning _ _ c.self.view_is c.self.inside.held (calm_of c.self.inside.held (sym c.is_overrun.ensures ∙ c.if-is_overrun.false))
    c.self.inside.framed c.step.new.self refl refl refl Overran refl s.because.0 c.requires)

pub returns-in_err-take_in-in-Message-clause-err : goal.returns-in_err-take_in-in-Message-clause-err
returns-in_err-take_in-in-Message-clause-err g c =
    let s = subst (λ (s : Step g.row.T.Denot). IsStep g.T.NetlinkDeserializable.reads g.S.Link.meaning c.self.inside.framed s
    c.step.new.self) c.in-Message.is c.in_ok-step.ensures.step in
    rw (c.make_room.ensures.same_replies, c.make_room.ensures.same_unsolicited, sym c.self.view_is)
    (on_err _ (missed_one g.W.Watch.sees g.W.Watch.loses g.W.Watch.overruns g.T.NetlinkDeserializable.reads g.S.Link.meaning _
    c.self.inside.held (calm_of c.self.inside.held (sym c.is_overrun.ensures ∙ c.if-is_overrun.false)) c.self.inside.framed
    c.step.new.self refl refl refl _ c.make_room.new.protocol.session c.take_in.new.protocol.session
    c.take_in.new.watch (Came c.in-Message.message c.in-Message.source) c.make_room.ensures.session
    c.take_in.ensures.session s.read c.in_err-take_in-in-Message.ensures.watch))

pub returns-in_ok-take_in-in-Message-clause-ok : goal.returns-in_ok-take_in-in-Message-clause-ok
returns-in_ok-take_in-in-Message-clause-ok g c =
    let s = subst (λ (s : Step g.row.T.Denot). IsStep g.T.NetlinkDeserializable.reads g.S.Link.meaning c.self.inside.framed s
    c.step.new.self) c.in-Message.is c.in_ok-step.ensures.step in
    rw (c.make_room.ensures.same_replies, c.make_room.ensures.same_unsolicited, sym c.self.view_is)
    (did_one g.W.Watch.sees g.W.Watch.loses g.W.Watch.overruns g.T.NetlinkDeserializable.reads g.S.Link.meaning _ c.self.inside.held
    (calm_of c.self.inside.held (sym c.is_overrun.ensures ∙ c.if-is_overrun.false)) c.self.inside.framed c.step.new.self refl refl refl _
    c.make_room.new.protocol.session c.take_in.new.protocol.session c.take_in.new.watch
    (Came c.in-Message.message c.in-Message.source) c.make_room.ensures.session c.take_in.ensures.session refl s.read s.because
    c.in_ok-take_in-in-Message.ensures.watch)

pub returns-in_err-take_overrun-in-Overrun-clause-err : goal.returns-in_err-take_overrun-in-Overrun-clause-err
returns-in_err-take_overrun-in-Overrun-clause-err g c =
    let s = subst (λ (s : Step g.row.T.Denot). IsStep g.T.NetlinkDeserializable.reads g.S.Link.meaning c.self.inside.framed s
    c.step.new.self) c.in-Overrun.is c.in_ok-step.ensures.step in
    rw (c.make_room.ensures.same_replies, c.make_room.ensures.same_unsolicited, sym c.self.view_is)
    (on_err _ (missed_one g.W.Watch.sees g.W.Watch.loses g.W.Watch.overruns g.T.NetlinkDeserializable.reads g.S.Link.meaning _
    c.self.inside.held (calm_of c.self.inside.held (sym c.is_overrun.ensures ∙ c.if-is_overrun.false)) c.self.inside.framed
    c.step.new.self refl refl refl _ c.make_room.new.protocol.session c.take_overrun-in-Overrun.new.protocol.session
    c.take_overrun-in-Overrun.new.watch Overran c.make_room.ensures.session c.take_overrun-in-Overrun.ensures.session s.read
    c.in_err-take_overrun-in-Overrun.ensures.watch))

pub returns-in_ok-take_overrun-in-Overrun-clause-ok : goal.returns-in_ok-take_overrun-in-Overrun-clause-ok
returns-in_ok-take_overrun-in-Overrun-clause-ok g c =
    let s = subst (λ (s : Step g.row.T.Denot). IsStep g.T.NetlinkDeserializable.reads g.S.Link.meaning c.self.inside.framed s
    c.step.new.self) c.in-Overrun.is c.in_ok-step.ensures.step in
    rw (c.make_room.ensures.same_replies, c.make_room.ensures.same_unsolicited, sym c.self.view_is)
    (did_one g.W.Watch.sees g.W.Watch.loses g.W.Watch.overruns g.T.NetlinkDeserializable.reads g.S.Link.meaning _ c.self.inside.held
    (calm_of c.self.inside.held (sym c.is_overrun.ensures ∙ c.if-is_overrun.false)) c.self.inside.framed c.step.new.self refl refl refl _
    c.make_room.new.protocol.session c.take_overrun-in-Overrun.new.protocol.session c.take_overrun-in-Overrun.new.watch Overran
    c.make_room.ensures.session c.take_overrun-in-Overrun.ensures.session refl s.read s.because.0 c.in_ok-take_overrun-in-Overrun.ensures.watch)

pub returns-in-Lost-clause-ok : goal.returns-in-Lost-clause-ok
returns-in-Lost-clause-ok g c =
    let s = subst (λ (s : Step g.row.T.Denot). IsStep g.T.NetlinkDeserializable.reads g.S.Link.meaning c.self.inside.framed s
    c.step.new.self) c.in-Lost.is c.in_ok-step.ensures.step in
    rw (c.make_room.ensures.same_replies, c.make_room.ensures.same_unsolicited, sym c.self.view_is)
    (did_one g.W.Watch.sees g.W.Watch.loses g.W.Watch.overruns g.T.NetlinkDeserializable.reads g.S.Link.meaning _ c.self.inside.held
    (calm_of c.self.inside.held (sym c.is_overrun.ensures ∙ c.if-is_overrun.false)) c.self.inside.framed c.step.new.self refl refl refl _
    c.make_room.new.protocol.session c.make_room.new.protocol.session c.dropped.new.self
    (loss c.in-Lost.what c.in-Lost.source) c.make_room.ensures.session
    (loss_after c.in-Lost.what c.in-Lost.source c.make_room.new.protocol.session)
    (loss_open g.row.T.Denot c.in-Lost.what c.in-Lost.source) s.read s.because
    (follows_loss g.W.Watch.sees g.W.Watch.loses g.W.Watch.overruns c.in-Lost.what c.in-Lost.source _ _ _ c.dropped.ensures))

pub returns-in-Fetched-clause-ok : goal.returns-in-Fetched-clause-ok
returns-in-Fetched-clause-ok g c =
    let s = subst (λ (s : Step g.row.T.Denot). IsStep g.T.NetlinkDeserializable.reads g.S.Link.meaning c.self.inside.framed s
    c.step.new.self) c.in-Fetched.is c.in_ok-step.ensures.step in
    rw (c.make_room.ensures.same_replies, c.make_room.ensures.same_unsolicited, sym c.self.view_is)
    (did_none g.W.Watch.sees g.W.Watch.loses g.W.Watch.overruns g.T.NetlinkDeserializable.reads g.S.Link.meaning _ c.self.inside.held
    (calm_of c.self.inside.held (sym c.is_overrun.ensures ∙ c.if-is_overrun.false)) c.self.inside.framed c.step.new.self refl refl refl _
    c.make_room.new.protocol.session c.make_room.ensures.session s.read s.because)

pub returns-in-Closed-clause-ok : goal.returns-in-Closed-clause-ok
returns-in-Closed-clause-ok g c =
    let s = subst (λ (s : Step g.row.T.Denot). IsStep g.T.NetlinkDeserializable.reads g.S.Link.meaning c.self.inside.framed s
    c.step.new.self) c.in-Closed.is c.in_ok-step.ensures.step in
    rw (c.make_room.ensures.same_replies, c.make_room.ensures.same_unsolicited, sym c.self.view_is)
    (did_end g.W.Watch.sees g.W.Watch.loses g.W.Watch.overruns g.T.NetlinkDeserializable.reads g.S.Link.meaning _ c.self.inside.held
    (calm_of c.self.inside.held (sym c.is_overrun.ensures ∙ c.if-is_overrun.false)) c.self.inside.framed c.step.new.self refl refl refl _
    c.make_room.new.protocol.session _ c.make_room.ensures.session
    (followed_shut g.W.Watch.sees g.W.Watch.loses g.W.Watch.overruns _ _ _) s.read (inl s.because.0))

pub returns-in-Failed-clause-ok : goal.returns-in-Failed-clause-ok
returns-in-Failed-clause-ok g c =
    let s = subst (λ (s : Step g.row.T.Denot). IsStep g.T.NetlinkDeserializable.reads g.S.Link.meaning c.self.inside.framed s
    c.step.new.self) c.in-Failed.is c.in_ok-step.ensures.step in
    rw (c.make_room.ensures.same_replies, c.make_room.ensures.same_unsolicited, sym c.self.view_is)
    (did_end g.W.Watch.sees g.W.Watch.loses g.W.Watch.overruns g.T.NetlinkDeserializable.reads g.S.Link.meaning _ c.self.inside.held
    (calm_of c.self.inside.held (sym c.is_overrun.ensures ∙ c.if-is_overrun.false)) c.self.inside.framed c.step.new.self refl refl refl _
    c.make_room.new.protocol.session [] c.make_room.ensures.session (refl, refl) s.read (inr (s.because.0, s.because.1)))

pub returns-in-NotYet-clause-ok : goal.returns-in-NotYet-clause-ok
returns-in-NotYet-clause-ok g c =
    let s = subst (λ (s : Step g.row.T.Denot). IsStep g.T.NetlinkDeserializable.reads g.S.Link.meaning c.self.inside.framed s
    c.step.new.self) c.in-NotYet.is c.in_ok-step.ensures.step in
    rw (c.make_room.ensures.same_replies, c.make_room.ensures.same_unsolicited, sym c.self.view_is)
    (did_wait g.W.Watch.sees g.W.Watch.loses g.W.Watch.overruns g.T.NetlinkDeserializable.reads g.S.Link.meaning _ c.self.inside.held
    (calm_of c.self.inside.held (sym c.is_overrun.ensures ∙ c.if-is_overrun.false)) c.self.inside.framed c.step.new.self refl refl refl _
    c.make_room.new.protocol.session c.make_room.ensures.session s.read s.because.0 s.because.1 s.because.2)

pub invariant_of-self : goal.invariant_of-self
invariant_of-self g c =
    sound_roomy c.self.inside.protocol.session _ _ _ _ _ _ _ _ _ _ _ c.self.inside.held _ c.self.inside.framed.reader _ _ _
    c.make_room.ensures.session c.make_room.ensures.streams c.make_room.ensures.replies c.make_room.ensures.unsolicited c.self.invariant.held c.self.invariant

pub invariant_of-self-in_err-step : goal.invariant_of-self-in_err-step
invariant_of-self-in_err-step g c =
    sound_roomy c.self.inside.protocol.session _ _ _ _ _ _ _ _ _ _ _ c.self.inside.held _ c.self.inside.framed.reader _ _ _
    c.make_room.ensures.session c.make_room.ensures.streams c.make_room.ensures.replies c.make_room.ensures.unsolicited
    (subst (λ (r : List ℕ). IsHeld c.self.inside.held r) (sym (ap (λ (f : Framing g.row.S.Denot). f.reader) c.in_err-step.ensures.err)) c.self.invariant.held)
    c.self.invariant
