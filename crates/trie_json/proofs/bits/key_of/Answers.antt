use Rattle.std.proofs.Common.{◌≤◌, ◌+◌, ◌-◌, ◌*◌, ◌/◌, ◌%◌, ◌^◌, ◌∙◌, sym, ap, arith}
use Rattle.trie_model.specs.Nets.{masked}
use Rattle.trie_json.proofs.BitsLaws.{words_next}
use Rattle.trie_json.proofs.bits.key_of.Goals as goal

pub words-preserved : goal.words-preserved
words-preserved g c =
    let width = c.bits-width.result in
    let depth = c.words.depth in
    let count = c.piece_len-count.result in
    let left : depth + count ≤ width = omega (arith, c.piece_len-count.ensures.left, c.words.invariant.0) in (
      left,
      c.with_bits-key.ensures
          ∙ ap (λ w. masked w (g.W.KeyBits.number c.words.key) depth
          + c.args.number / 2 ^ (width - (depth + count)) % (1 * 2 ^ count % 340282366920938463463374607431768211456)
          * 2 ^ (w - (depth + count))) (sym c.bits-width.ensures)
          ∙ words_next width depth count c.args.number (g.W.KeyBits.number c.words.key) c.piece_len-count.ensures.longest left c.words.invariant.1,
    )
