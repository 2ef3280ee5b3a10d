use Rattle.std.proofs.Common.{◌≡◌, [], IfSome, Some}
use Rattle.proto_core.specs.Codec.{readable}
use Rattle.proto_conn.specs.Seen.{work}
use Rattle.proto_conn.specs.Next.{Skipped}
use Rattle.proto_conn.proofs.framed.NetlinkFramed.poll_next.Given as goal

abbrev pub invariant-skipping : goal.invariant-skipping
invariant-skipping g l = record {
  skipped : Skipped g.T.NetlinkDeserializable.reads g.S.Link.meaning l.initial.self [] l.self;
  inside : IfSome (readable g.T.NetlinkDeserializable.reads l.initial.self.reader)
      (λ first. (l.self.link ≡ l.initial.self.link) × (readable g.T.NetlinkDeserializable.reads l.self.reader ≡ Some first));
  closings : (g.S.Link.meaning l.self.link).closings ≡ (g.S.Link.meaning l.initial.self.link).closings;
}

abbrev pub decreases-skipping : goal.decreases-skipping
decreases-skipping g l = work g.S.Link.meaning l.self
