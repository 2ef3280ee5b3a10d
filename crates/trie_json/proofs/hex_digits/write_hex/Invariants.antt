use Rattle.std.proofs.Common.{◌≡◌, ◌*◌, ◌/◌, ◌^◌, ◌-◌, string_bytes}
use Rattle.trie_json.specs.Hex.{hex_text}
use Rattle.trie_json.proofs.hex_digits.write_hex.Given as goal

abbrev pub invariant-digits : goal.invariant-digits
invariant-digits l = string_bytes l.text ≡ hex_text l.place (l.number / 2 ^ (4 * (32 - l.place)))
