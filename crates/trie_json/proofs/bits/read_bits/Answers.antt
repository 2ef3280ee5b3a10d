use Rattle.std.proofs.Common.{◌∙◌, sym, subst, ◌<◌, ◌^◌}
use Rattle.std.proofs.Math.Nat.{div-eq_of_lt}
use Rattle.trie_json.proofs.BitsLaws.{bits_one, fits_128}
use Rattle.trie_json.proofs.bits.read_bits.Goals as goal

pub returns-then-number-width-ne0-clause-other : goal.returns-then-number-width-ne0-clause-other
returns-then-number-width-ne0-clause-other c bits is =
    let same = bits_one c.args.width bits c.in-Some.number (fits_128 c.args.width bits c.requires is.fit) c.in-Some.ensures.fits
    (sym is.written ∙ c.in-Some.ensures.number) in
    c.if-number-width-ne0.true (div-eq_of_lt (subst (λ n. n < 2 ^ c.args.width) same is.fit))
