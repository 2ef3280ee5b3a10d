use Rattle.std.proofs.Common.{◌≡◌, ◌^◌, ◌<◌, take}
use Rattle.trie_json.specs.Hex.{hex_text}
use Rattle.trie_json.proofs.hex_digits.read_hex.Given as goal

abbrev pub invariant-digits : goal.invariant-digits
invariant-digits l = (hex_text l.byte-index l.number ≡ take l.byte-index l.text) × (l.number < 16 ^ l.byte-index)
