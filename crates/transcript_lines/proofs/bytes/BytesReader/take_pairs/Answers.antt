use Rattle.std.proofs.Common.{◌≡◌, ◌+◌, ◌-◌, ◌*◌, ◌/◌, ◌<◌, ◌⊎◌, ℕ, true, false, ◌++◌, length, take, replicate, sym, subst, ap, ◌∙◌, arith}
use Rattle.std.proofs.lemmas.Bool.Decides.{nat_tests}
use Rattle.std.proofs.lemmas.List.{with_items_is, length-append, length-drop, length-replicate, length-take}
use borrow.Rule.Slice.PartMut.{post_of}
use Rattle.std.specs.Prelude.{vec_len}
use Rattle.transcript_lines.specs.Bytes.{ReadsAt}
use Rattle.transcript_lines.specs.declared.bytes.Last.TheVariants.{Begin, Whole}
use Rattle.transcript_lines.proofs.Pairs.{after_pairs, made_longer, pairs_read, written_behind}
use Rattle.transcript_lines.proofs.bytes.BytesReader.take_pairs.Goals as goal
use Rattle.transcript_lines.proofs.bytes.BytesReader.take_pairs.Goals.{in-Begin, in_default}
use Rattle.transcript_lines.proofs.bytes.BytesReader.take_pairs.Goals.{then-decode_pairs, else-decode_pairs}

pub returns : goal.returns
returns c fed r =
    let bytes = c.args.self.now.bytes in
    let old = bytes.items in
    let digits = c.args.digits.now in
    let held = c.len-held.result in
    let n = length digits / 2 in
    let now = c.as_mut_slice.result.now in
    let decoded = c.decode_pairs.new.bytes in
    let count : length old ≡ held = omega (arith, c.len-held.ensures, bytes.ok.0) in
    let longer = c.as_mut_slice.ensures.value ∙ made_longer old c.resize.new.self.items held (vec_len bytes) n count (sym c.len-held.ensures) c.in_ok-resize.ensures.items in
    let long : length now ≡ length (old ++ replicate n 0) = ap length longer in
    let wide : length now ≡ held + n = omega (arith, count, long, length-append old (replicate n 0), length-replicate {A = ℕ} n 0) in
    let size : length decoded ≡ n = omega (arith, c.decode_pairs.auto.bytes, wide, length-drop {A = ℕ}, length-take {A = ℕ}) in
    let whole = written_behind old decoded now held n longer count size in
    let written = take held now ++ (decoded ++ post_of held (length now - held) now) in
    let all : length written ≡ length (old ++ decoded) = ap length whole in
    let items = with_items_is c.resize.new.self written (omega (arith, all, wide, c.as_mut_slice.ensures.len, length-append old decoded, size, count)) ∙ whole in
    let last : c.if-decode_pairs.self ≡ after_pairs c.decode_pairs.result = elim c.if-decode_pairs.branch [
      | then-decode_pairs w ↦ w.self-is ∙ sym (ap after_pairs w.if-decode_pairs.true)
      | else-decode_pairs w ↦ w.self-is ∙ sym (ap after_pairs w.if-decode_pairs.false)
    ] in
    let kind : (c.args.self.now.last ≡ Begin) ⊎ (c.args.self.now.last ≡ Whole) = elim c.match-matches.branch [
      | in-Begin w ↦ w.in-Begin.is
      | in_default w ↦ let no : true ≡ false = sym c.if-not-matches.false ∙ w.matches-is in absurd (cc)
    ] in
    let some : 0 < length digits = grind (arith, nat_tests) in
    let even : length digits ≡ 2 * length decoded = omega (arith, c.requires, size) in
    subst (λ z. ReadsAt (fed ++ digits) z c.if-decode_pairs.self) (sym items)
    (subst (λ l. ReadsAt (fed ++ digits) (old ++ decoded) l) (sym last)
    (pairs_read fed old digits decoded c.args.self.now.last c.decode_pairs.result r kind some even c.decode_pairs.ensures))
