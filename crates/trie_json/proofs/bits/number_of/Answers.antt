use Rattle.std.proofs.Common.{◌≡◌, ◌≤◌, ◌<◌, ◌+◌, ◌-◌, ◌*◌, ◌/◌, ◌%◌, ◌^◌, ◌∙◌, sym, ap, subst, arith}
use Rattle.trie_model.specs.Spots.{five_bits}
use Rattle.trie_json.proofs.BitsLaws.{fives_next, fives_fit}
use Rattle.trie_json.proofs.bits.number_of.Given.{Over}
use Rattle.trie_json.proofs.bits.number_of.Goals as goal

fits_width : (g : Over) (c : goal.After-five_bits-five g) → c.fives.depth + c.piece_len-count.result ≤ c.bits-width.result
fits_width g c = omega (arith, c.piece_len-count.ensures.left, c.fives.invariant.0)

five_is : (g : Over) (c : goal.After-five_bits-five g) → c.five_bits-five.result ≡ five_bits c.bits-width.result c.fives.depth (g.W.KeyBits.number c.args.key)
five_is g c = c.five_bits-five.ensures ∙ ap (λ w. five_bits w c.fives.depth (g.W.KeyBits.number c.args.key)) (sym c.bits-width.ensures)

sum_fits : (g : Over) (c : goal.After-five_bits-five g)
    → c.fives.number * (1 * 2 ^ c.piece_len-count.result % 340282366920938463463374607431768211456)
    + c.five_bits-five.result / 2 ^ (5 - c.piece_len-count.result) < 2 ^ 128
sum_fits g c =
    fives_fit c.bits-width.result c.fives.depth c.piece_len-count.result (g.W.KeyBits.number c.args.key) c.fives.number c.five_bits-five.result
    c.piece_len-count.ensures.longest (fits_width g c) (five_is g c) c.fives.invariant.1 (subst (λ w. w ≤ 128) (sym c.bits-width.ensures) g.W.KeyBits.width_law)
    (subst (λ w. g.W.KeyBits.number c.args.key < 2 ^ w) (sym c.bits-width.ensures) c.requires)

pub overflow_mul-number : goal.overflow_mul-number
overflow_mul-number g c = let fits = sum_fits g c in omega (arith, fits)

pub overflow_add-number : goal.overflow_add-number
overflow_add-number g c = let fits = sum_fits g c in omega (arith, fits)

pub fives-preserved : goal.fives-preserved
fives-preserved g c = (
  fits_width g c,
  fives_next c.bits-width.result c.fives.depth c.piece_len-count.result (g.W.KeyBits.number c.args.key) c.fives.number c.five_bits-five.result
      c.piece_len-count.ensures.longest (fits_width g c) (five_is g c) c.fives.invariant.1,
)
