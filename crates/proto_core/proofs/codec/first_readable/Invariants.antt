use Rattle.std.proofs.Common.{◌≡◌, ◌-◌, ◌≤◌, length, drop}
use Rattle.proto_core.specs.Codec.{readable, left}
use Rattle.proto_core.proofs.codec.first_readable.Given as goal

-- what is behind the frames so far has the same first message
abbrev pub invariant-walk : goal.invariant-walk
invariant-walk g l = record {
  within : l.at ≤ length l.bytes;
  message : readable g.T.NetlinkDeserializable.reads (drop l.at l.bytes) ≡ readable g.T.NetlinkDeserializable.reads l.bytes;
  left : left g.T.NetlinkDeserializable.reads (drop l.at l.bytes) ≡ left g.T.NetlinkDeserializable.reads l.bytes;
}

abbrev pub decreases-walk : goal.decreases-walk
decreases-walk g l = length l.bytes - l.at
