use Rattle.std.proofs.Common.{◌≡◌, ℕ, ◌+◌, ◌-◌, ◌*◌, ◌%◌, ◌^◌, ◌≤◌, ◌<◌, ◌∙◌, ap, subst, sym, arith}
use Rattle.trie_model.specs.Nets.{masked}
use Rattle.trie_model.proofs.PlaceMoves.{low_code, key_fits}
use Rattle.trie_map.proofs.prefixes.U64KeyBits.with_bits.Goals as goal

whole : (d l p c t : ℕ) → p < 2 ^ 64 → c < 2 ^ l → d + l ≤ 64 → t ≡ masked 64 p d → t + c * 2 ^ (64 - (d + l)) % 18446744073709551616 ≡ masked 64 p d + c * 2 ^ (64 - (d + l))
whole d l p c t hp hc fits e = ap (λ x. x + c * 2 ^ (64 - (d + l)) % 18446744073709551616) e ∙ ap (λ x. masked 64 p d + x) (low_code 64 d l p c 18446744073709551616 hp hc fits (omega arith))

pub overflow_add-result-2 : goal.overflow_add-result-2
overflow_add-result-2 c = record {
  fits = subst (λ x. x < 18446744073709551616)
      (sym (whole c.args.depth c.args.count c.args.self c.args.bits c.first_bits-first.result c.requires.fits c.requires.bits c.requires.depth
      c.first_bits-first.ensures)) (key_fits 64 c.args.depth c.args.count c.args.self c.args.bits c.requires.fits c.requires.bits c.requires.depth);
}

pub returns : goal.returns
returns c = whole c.args.depth c.args.count c.args.self c.args.bits c.first_bits-first.result c.requires.fits c.requires.bits c.requires.depth c.first_bits-first.ensures
