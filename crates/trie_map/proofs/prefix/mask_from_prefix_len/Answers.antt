use Rattle.std.proofs.Common.{◌-◌, ◌∙◌, ap, arith}
use Rattle.std.specs.Int.{bit_not, count_zeros}
use Rattle.num_traits.specs.Laws.{bit_len, shift_left}
use Rattle.std.proofs.lemmas.Nat.{pow_pos}
use Rattle.std.proofs.Math.Pow.{pow-sub-lt}
use Rattle.trie_map.proofs.Widths.{zeros-zero, ones-shift, not-zero_fits}
use Rattle.trie_map.proofs.prefix.mask_from_prefix_len.Goals as goal

pub overflow_sub-bits : goal.overflow_sub-bits
overflow_sub-bits g c =
    let zero_is = g.met.R.FixedWidth.bits_of_natural_law c.zero-2.result 0 (rw c.zero-2.ensures (g.met.R.Zero.zero_law g.met.R.Integral.exact_law)) in
    let count = c.count_zeros-bits.ensures ∙ ap (count_zeros g.R.FixedWidth.width) zero_is ∙ zeros-zero g.R.FixedWidth.width in
    omega (arith, count, c.requires)

pub returns : goal.returns
returns g c =
    let w = g.R.FixedWidth.width in
    let zero_is = g.met.R.FixedWidth.bits_of_natural_law c.zero-2.result 0 (rw c.zero-2.ensures (g.met.R.Zero.zero_law g.met.R.Integral.exact_law)) in
    let zero_also = g.met.R.FixedWidth.bits_of_natural_law c.zero-3.result 0 (rw c.zero-3.ensures (g.met.R.Zero.zero_law g.met.R.Integral.exact_law)) in
    let count = c.count_zeros-bits.ensures ∙ ap (count_zeros w) zero_is ∙ zeros-zero w in
    let ones = ap g.R.FixedWidth.bits_of (g.met.R.PrimInt.not_law _ _ c.not.ensures ∙ ap (λ n. g.R.FixedWidth.of_bits (bit_not w n)) zero_also) ∙ g.R.FixedWidth.bits_round_trip_law _ (not-zero_fits w) in
    let by = bit_len w - c.args.len in
    ap g.R.FixedWidth.bits_of c.unsigned_shl.ensures
    ∙ ap (λ n. g.R.FixedWidth.bits_of (g.R.FixedWidth.of_bits (shift_left w n (c.count_zeros-bits.result - c.args.len)))) ones
    ∙ ap (λ n. g.R.FixedWidth.bits_of (g.R.FixedWidth.of_bits (shift_left w (bit_not w 0) (n - c.args.len)))) count
    ∙ ap (λ n. g.R.FixedWidth.bits_of (g.R.FixedWidth.of_bits n)) (ones-shift w by (omega arith))
    ∙ g.R.FixedWidth.bits_round_trip_law _ (pow-sub-lt (bit_len w) (pow_pos by))
