use Rattle.std.proofs.Common.{ℕ, [], ◌∷◌, inl, inr, subst, ◌∙◌, refl}
use Rattle.session_model.specs.Events.{Came, Overran}
use Rattle.proto_conn.specs.declared.framed.Step.{Step}
use Rattle.proto_conn.specs.Links.{HasRisen}
use Rattle.proto_conn.specs.Next.{Skipped, StaysInside}
use Rattle.proto_conn.specs.Seen.{IsStep, shut_by}
use Rattle.proto_conn.proofs.Seeing.{risen_before}
use Rattle.proto_conn.proofs.Inside.{inside_at_first, inside_fetched, inside_last, inside_lost, inside_stopped}
use Rattle.proto_conn.proofs.Skips.{skipped_nothing, skipped_lost, skipped_then, later_of}
use Rattle.proto_conn.proofs.framed.NetlinkFramed.poll_next.Goals as goal

pub skipping-init : goal.skipping-init
skipping-init g c = record {
  skipped = skipped_nothing g.T.NetlinkDeserializable.reads g.S.Link.meaning _;
  inside = inside_at_first g.T.NetlinkDeserializable.reads c.args.self.now;
  closings = refl;
}

pub returns-in-Message-clause-ok : goal.returns-in-Message-clause-ok
returns-in-Message-clause-ok g c =
    let s = subst (λ (s : Step g.row.T.Denot). IsStep g.T.NetlinkDeserializable.reads g.S.Link.meaning c.skipping.self s c.step.new.self)
    c.in-Message.is c.in_ok-message.ensures.step in
    inl (skipped_then g.T.NetlinkDeserializable.reads g.S.Link.meaning _ c.skipping.self c.step.new.self
    (Came c.in-Message.message c.in-Message.source ∷ []) c.skipping.invariant.skipped s.read)

pub returns-in-Overrun-clause-ok : goal.returns-in-Overrun-clause-ok
returns-in-Overrun-clause-ok g c =
    let s = subst (λ (s : Step g.row.T.Denot). IsStep g.T.NetlinkDeserializable.reads g.S.Link.meaning c.skipping.self s c.step.new.self)
    c.in-Overrun.is c.in_ok-message.ensures.step in
    inr (
      c.overrun_message.ensures,
      refl,
      skipped_then g.T.NetlinkDeserializable.reads g.S.Link.meaning _ c.skipping.self c.step.new.self
          (Overran ∷ []) c.skipping.invariant.skipped s.read,
    )

pub skipping-preserved-in-Lost-1 : goal.skipping-preserved-in-Lost-1
skipping-preserved-in-Lost-1 g c =
    let s = subst (λ (s : Step g.row.T.Denot). IsStep g.T.NetlinkDeserializable.reads g.S.Link.meaning c.skipping.self s c.step.new.self)
    c.in-Lost.is c.in_ok-message.ensures.step in
    let i = subst (λ (s : Step g.row.T.Denot). StaysInside g.T.NetlinkDeserializable.reads c.skipping.self s c.step.new.self) c.in-Lost.is
    c.in_ok-message.ensures.inside in
    record {
      inside = inside_lost g.T.NetlinkDeserializable.reads c.args.self.now c.skipping.self c.step.new.self c.in-Lost._what
          c.in-Lost._source c.skipping.invariant.inside i;
      skipped = skipped_lost g.T.NetlinkDeserializable.reads g.S.Link.meaning _
          c.skipping.self c.step.new.self c.in-Lost._what c.in-Lost._source c.skipping.invariant.skipped s.read;
      closings = s.because.closings
          ∙ c.skipping.invariant.closings;
    }

pub skipping-preserved : goal.skipping-preserved
skipping-preserved g c =
    let s = subst (λ (s : Step g.row.T.Denot). IsStep g.T.NetlinkDeserializable.reads g.S.Link.meaning c.skipping.self s c.step.new.self)
    c.in-Fetched.is c.in_ok-message.ensures.step in
    let i = subst (λ (s : Step g.row.T.Denot). StaysInside g.T.NetlinkDeserializable.reads c.skipping.self s c.step.new.self)
    c.in-Fetched.is c.in_ok-message.ensures.inside in
    record {
      inside = inside_fetched g.T.NetlinkDeserializable.reads c.args.self.now c.skipping.self c.step.new.self
          c.skipping.invariant.inside i;
      skipped = skipped_then g.T.NetlinkDeserializable.reads g.S.Link.meaning _ c.skipping.self
          c.step.new.self [] c.skipping.invariant.skipped s.read;
      closings = s.because.closings ∙ c.skipping.invariant.closings;
    }

pub returns-in-Closed-clause-ok : goal.returns-in-Closed-clause-ok
returns-in-Closed-clause-ok g c =
    let s = subst (λ (s : Step g.row.T.Denot). IsStep g.T.NetlinkDeserializable.reads g.S.Link.meaning c.skipping.self s c.step.new.self)
    c.in-Closed.is c.in_ok-message.ensures.step in
    let same = c.skipping.invariant.closings in
    inl (
      subst (λ (n : ℕ). Skipped g.T.NetlinkDeserializable.reads g.S.Link.meaning c.args.self.now (shut_by n) c.step.new.self) same
          (skipped_then g.T.NetlinkDeserializable.reads g.S.Link.meaning _ c.skipping.self c.step.new.self
          (shut_by (g.S.Link.meaning c.skipping.self.link).closings) c.skipping.invariant.skipped s.read),
      subst (λ (n : ℕ). HasRisen n (g.S.Link.meaning c.step.new.self.link).closings) same s.because.0,
    )

pub returns-in-Failed-clause-ok : goal.returns-in-Failed-clause-ok
returns-in-Failed-clause-ok g c =
    let s = subst (λ (s : Step g.row.T.Denot). IsStep g.T.NetlinkDeserializable.reads g.S.Link.meaning c.skipping.self s c.step.new.self)
    c.in-Failed.is c.in_ok-message.ensures.step in
    inr (
      skipped_then g.T.NetlinkDeserializable.reads g.S.Link.meaning _ c.skipping.self c.step.new.self [] c.skipping.invariant.skipped
          s.read,
      risen_before _ _ _ (later_of g.T.NetlinkDeserializable.reads g.S.Link.meaning _ _ c.skipping.invariant.skipped).faults s.because.0,
    )

pub returns-in-NotYet-clause-ok : goal.returns-in-NotYet-clause-ok
returns-in-NotYet-clause-ok g c =
    let s = subst (λ (s : Step g.row.T.Denot). IsStep g.T.NetlinkDeserializable.reads g.S.Link.meaning c.skipping.self s c.step.new.self)
    c.in-NotYet.is c.in_ok-message.ensures.step in (
      skipped_then g.T.NetlinkDeserializable.reads g.S.Link.meaning _ c.skipping.self c.step.new.self [] c.skipping.invariant.skipped s.read,
      risen_before _ _ _ (later_of g.T.NetlinkDeserializable.reads g.S.Link.meaning _ _ c.skipping.invariant.skipped).stalls s.because.0,
    )

pub returns-in-Message-clause-unasked : goal.returns-in-Message-clause-unasked
returns-in-Message-clause-unasked g c =
    inside_last g.T.NetlinkDeserializable.reads c.args.self.now c.skipping.self c.step.new.self _ c.skipping.invariant.inside c.in_ok-message.ensures.inside

pub returns-in-Overrun-clause-unasked : goal.returns-in-Overrun-clause-unasked
returns-in-Overrun-clause-unasked g c =
    inside_last g.T.NetlinkDeserializable.reads c.args.self.now c.skipping.self c.step.new.self _ c.skipping.invariant.inside c.in_ok-message.ensures.inside

pub returns-in-Closed-clause-unasked : goal.returns-in-Closed-clause-unasked
returns-in-Closed-clause-unasked g c =
    inside_last g.T.NetlinkDeserializable.reads c.args.self.now c.skipping.self c.step.new.self _ c.skipping.invariant.inside c.in_ok-message.ensures.inside

pub returns-in-Failed-clause-unasked : goal.returns-in-Failed-clause-unasked
returns-in-Failed-clause-unasked g c =
    inside_last g.T.NetlinkDeserializable.reads c.args.self.now c.skipping.self c.step.new.self _ c.skipping.invariant.inside c.in_ok-message.ensures.inside

pub returns-in-NotYet-clause-unasked : goal.returns-in-NotYet-clause-unasked
returns-in-NotYet-clause-unasked g c =
    inside_last g.T.NetlinkDeserializable.reads c.args.self.now c.skipping.self c.step.new.self _ c.skipping.invariant.inside c.in_ok-message.ensures.inside

pub returns-in_err-message-clause-unasked : goal.returns-in_err-message-clause-unasked
returns-in_err-message-clause-unasked g c = inside_stopped g.T.NetlinkDeserializable.reads c.args.self.now c.skipping.self c.step.new.self
    c.in_err-message.ensures.err c.skipping.invariant.inside
