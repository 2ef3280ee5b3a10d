use Rattle.std.proofs.Common.{◌≡◌, ℕ, ◌+◌, ◌-◌, ◌*◌, ◌%◌, ◌^◌, ◌≤◌, ◌<◌, ◌∙◌, ap, subst, sym, arith}
use Rattle.trie_model.specs.Nets.{masked}
use Rattle.trie_model.proofs.PlaceMoves.{low_code, key_fits}
use Rattle.trie_map.proofs.prefixes.U128KeyBits.with_bits.Goals as goal

whole : (d l p c t : ℕ) → p < 2 ^ 128 → c < 2 ^ l → d + l ≤ 128 → t ≡ masked 128 p d → t + c * 2 ^ (128 - (d + l)) % 340282366920938463463374607431768211456 ≡ masked 128 p d + c * 2 ^ (128 - (d + l))
whole d l p c t hp hc fits e = ap (λ x. x + c * 2 ^ (128 - (d + l)) % 340282366920938463463374607431768211456) e ∙ ap (λ x. masked 128 p d + x) (low_code 128 d l p c 340282366920938463463374607431768211456 hp hc fits (omega arith))

pub overflow_add-result-2 : goal.overflow_add-result-2
overflow_add-result-2 c = record {
  fits = subst (λ x. x < 340282366920938463463374607431768211456)
      (sym (whole c.args.depth c.args.count c.args.self c.args.bits c.first_bits-first.result c.requires.fits c.requires.bits c.requires.depth
      c.first_bits-first.ensures)) (key_fits 128 c.args.depth c.args.count c.args.self c.args.bits c.requires.fits c.requires.bits c.requires.depth);
}

pub returns : goal.returns
returns c = whole c.args.depth c.args.count c.args.self c.args.bits c.first_bits-first.result c.requires.fits c.requires.bits c.requires.depth c.first_bits-first.ensures
