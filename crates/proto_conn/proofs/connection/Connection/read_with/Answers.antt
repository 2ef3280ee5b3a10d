use Rattle.std.proofs.Common.{◌≤◌, Bool, inl, sym, subst, ◌∙◌, ap, arith}
use Rattle.proto_conn.specs.Conn.{Conn}
use Rattle.proto_conn.specs.Reading.{DidStep, loads_of}
use Rattle.proto_conn.proofs.Seeing.{on_err}
use Rattle.proto_conn.proofs.Readings.{reads_nothing, reads_more, stopped_more, drained_more, keeps_room}
use Rattle.proto_conn.proofs.connection.Connection.read_with.Goals as goal

pub returns-then-self-clause-ok : goal.returns-then-self-clause-ok
returns-then-self-clause-ok g c = (
  reads_nothing g.W.Watch.sees g.W.Watch.loses g.W.Watch.overruns g.T.NetlinkDeserializable.reads g.S.Link.meaning _ _,
  inl
      (ap (λ (v : Conn g.row.T.Denot g.row.S.Denot). v.closed) (sym c.self.view_is) ∙ c.if-self.true),
)

pub reading-init : goal.reading-init
reading-init g c =
    let b : loads_of c.args.self.now.waiting ≤ 65536 = c.hold_bound.ensures in
    record {
      so_far = reads_nothing g.W.Watch.sees g.W.Watch.loses g.W.Watch.overruns g.T.NetlinkDeserializable.reads g.S.Link.meaning _ _;
      room = omega (arith, c.requires, b);
    }

pub returns-in_err-read_step-clause-err : goal.returns-in_err-read_step-clause-err
returns-in_err-read_step-clause-err g c =
    on_err _ (stopped_more g.W.Watch.sees g.W.Watch.loses g.W.Watch.overruns g.T.NetlinkDeserializable.reads g.S.Link.meaning _ _ _ _ _ _
    c.reading.invariant.so_far c.in_err-read_step.ensures.err)

pub returns-then-not-branch-clause-ok : goal.returns-then-not-branch-clause-ok
returns-then-not-branch-clause-ok g c =
    let s = subst (λ (b : Bool). DidStep g.W.Watch.sees g.W.Watch.loses g.W.Watch.overruns g.T.NetlinkDeserializable.reads g.S.Link.meaning
    c.reading.self c.reading.watch b c.read_step.new.self c.read_step.new.watch) c.if-not-branch.true c.in_ok-read_step.ensures.ok in (
      reads_more g.W.Watch.sees g.W.Watch.loses g.W.Watch.overruns g.T.NetlinkDeserializable.reads g.S.Link.meaning _ _ _ _ _ _
          c.reading.invariant.so_far s.reads_to,
      drained_more g.W.Watch.sees g.W.Watch.loses g.W.Watch.overruns g.T.NetlinkDeserializable.reads
          g.S.Link.meaning c.args.self.now c.reading.self c.read_step.new.self c.args.watch.now c.reading.watch c.reading.invariant.so_far s.goes,
    )

pub reading-preserved : goal.reading-preserved
reading-preserved g c =
    let s = subst (λ (b : Bool). DidStep g.W.Watch.sees g.W.Watch.loses g.W.Watch.overruns g.T.NetlinkDeserializable.reads g.S.Link.meaning
    c.reading.self c.reading.watch b c.read_step.new.self c.read_step.new.watch) c.if-not-branch.false c.in_ok-read_step.ensures.ok in
    record {
      so_far = reads_more g.W.Watch.sees g.W.Watch.loses g.W.Watch.overruns g.T.NetlinkDeserializable.reads g.S.Link.meaning _ _ _ _
          _ _ c.reading.invariant.so_far s.reads_to;
      room = keeps_room g.W.Watch.sees g.W.Watch.loses g.W.Watch.overruns
          g.T.NetlinkDeserializable.reads g.S.Link.meaning _ _ _ _ s c.reading.invariant.room;
    }

pub reading-smaller : goal.reading-smaller
reading-smaller g c =
    let s = subst (λ (b : Bool). DidStep g.W.Watch.sees g.W.Watch.loses g.W.Watch.overruns g.T.NetlinkDeserializable.reads g.S.Link.meaning
    c.reading.self c.reading.watch b c.read_step.new.self c.read_step.new.watch) c.if-not-branch.false c.in_ok-read_step.ensures.ok in
    s.goes.less
