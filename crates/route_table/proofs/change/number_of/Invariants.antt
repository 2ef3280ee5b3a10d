use Rattle.std.proofs.Common.{◌≡◌, ◌<◌, ◌^◌, take}
use Rattle.std.specs.Slice.Scan.{big_endian}
use Rattle.route_table.proofs.change.number_of.Given as goal

abbrev pub invariant-loop-octet : goal.invariant-loop-octet
invariant-loop-octet l = record { number : l.number ≡ big_endian 0 (take l.octet-index l.octets); fits : l.number < 256 ^ l.octet-index }
