use Rattle.std.proofs.Common.{◌*◌, take}
use Rattle.transcript_lines.proofs.Pairs.{Decoded}
use Rattle.transcript_lines.proofs.digits.decode_pairs.Given as goal

abbrev pub invariant-loop-at : goal.invariant-loop-at
invariant-loop-at l = Decoded (take (2 * l.at) l.digits) (take l.at l.bytes) l.worst
