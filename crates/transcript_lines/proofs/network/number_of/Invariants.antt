use Rattle.std.proofs.Common.{◌≡◌, ◌<◌, ◌^◌, take}
use Rattle.std.specs.Int.{bytes_high_first}
use Rattle.transcript_lines.proofs.network.number_of.Given as goal

abbrev pub invariant-loop-octet : goal.invariant-loop-octet
invariant-loop-octet l = record {
  octets : bytes_high_first l.octet-index l.number ≡ take l.octet-index l.octets;
  fits : l.number < 256 ^ l.octet-index;
}
