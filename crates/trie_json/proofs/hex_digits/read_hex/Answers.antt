use Rattle.std.proofs.Common.{[], ◌∷◌, ◌++◌, length, ap, sym, subst, ◌∙◌, arith}
use Rattle.std.specs.List.{All}
use Rattle.trie_json.specs.Hex.{hex_digit}
use Rattle.trie_json.proofs.HexLaws.{text_length, text_none, text_more, all_digits, IsDigit, read_small, more_small}
use Rattle.trie_json.proofs.ReadLaws.{take_next}
use Rattle.trie_json.proofs.hex_digits.read_hex.Goals as goal

pub returns-then-text-ne32-clause-other : goal.returns-then-text-ne32-clause-other
returns-then-text-ne32-clause-other c n e = c.if-text-ne32.true (ap length e ∙ text_length 32 n)

pub digits-init : goal.digits-init
digits-init c = (text_none 0, omega arith)

pub returns-in_default-clause-other : goal.returns-in_default-clause-other
returns-in_default-clause-other c n e =
    let all = subst (All IsDigit) (sym e) (all_digits 32 n) in
    let digit = all c.digits.byte-index 0 c.digits-test.true in
    c.in_default.ensures.other digit.0 digit.1 digit.2

pub overflow_mul-number : goal.overflow_mul-number
overflow_mul-number c = let small = read_small c.digits.byte-index c.digits.number (length c.args.text.now) c.if-text-ne32.false c.digits-test.true
    c.digits.invariant.1 in omega (arith, small)

pub overflow_add-number : goal.overflow_add-number
overflow_add-number c =
    let small = read_small c.digits.byte-index c.digits.number (length c.args.text.now) c.if-text-ne32.false c.digits-test.true c.digits.invariant.1 in
    let digit = (c.in-Some.ensures.digit).0 in
    omega (arith, small, digit)

pub digits-preserved : goal.digits-preserved
digits-preserved c =
    let digit = c.in-Some.ensures.digit in (
      text_more c.digits.byte-index c.digits.number c.in-Some.value digit.0
          ∙ ap (λ zs. zs ++ hex_digit c.in-Some.value ∷ []) c.digits.invariant.0
          ∙ sym (take_next c.args.text.now c.digits.byte-index 0 _ c.digits-test.true digit.1),
      more_small c.digits.byte-index c.digits.number c.in-Some.value digit.0 c.digits.invariant.1,
    )
