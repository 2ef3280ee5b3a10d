use Rattle.std.proofs.Common.{◌<◌, ◌∙◌, ◌++◌, sym, ap, string_bytes}
use Rattle.trie_json.proofs.HexLaws.{text_none, text_place, digit_small}
use Rattle.trie_json.proofs.hex_digits.write_hex.Goals as goal

pub digits-init : goal.digits-init
digits-init c = c.in_ok-text.ensures.bytes ∙ sym (text_none _)

pub digits-preserved : goal.digits-preserved
digits-preserved c =
    let letter = c.from.ensures ∙ c.hex_digit-digit.ensures in
    let text = c.in_ok-push.ensures.bytes in
    let one = c.in_ok-push.ensures.ascii (let small : c.from.result < 128 = digit_small _ _ letter in small) in
    text_place c.args.number c.digits.place _ _ _ c.digits-test.true c.digits.invariant (text ∙ ap (λ zs. string_bytes c.digits.text ++ zs) one) letter
