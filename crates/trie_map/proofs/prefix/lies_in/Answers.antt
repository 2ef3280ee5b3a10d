use Rattle.std.proofs.Common.{arith, sym, ◌∙◌}
use Rattle.trie_model.proofs.Places.{elim-false, covers_len}
use Rattle.trie_model.proofs.StartLaws.{lies, lies_back}
use Rattle.trie_map.proofs.prefix.lies_in.Goals as goal

pub returns-then-len-place_len : goal.returns-then-len-place_len
returns-then-len-place_len g c = (
  (λ h. absurd (elim-false h)),
  (λ h. let le = covers_len g.W.KeyBits.width (record { bits = g.W.KeyBits.number c.args.place; len = c.args.place_len })
      (record { bits = g.W.KeyBits.number c.args.key; len = c.args.len }) h in let lt = c.if-len-place_len.true in
      absurd (let no : ⊥ = omega (arith, le, lt) in no)),
)

pub returns-then-is_at_most : goal.returns-then-is_at_most
returns-then-is_at_most g c = (
  (λ h. lies g.W.KeyBits.width (g.W.KeyBits.number c.args.place) c.args.place_len (g.W.KeyBits.number c.args.key)
      c.args.len (g.W.KeyBits.number c.first_bits-first.result) c.first_bits-first.ensures c.if-len-place_len.false
      (c.is_at_most.ensures.0 c.if-is_at_most.true) (c.is_at_most-then-is_at_most.ensures.0 h)),
  (λ h. c.is_at_most-then-is_at_most.ensures.1 (lies_back g.W.KeyBits.width (g.W.KeyBits.number c.args.place) c.args.place_len
      (g.W.KeyBits.number c.args.key) c.args.len (g.W.KeyBits.number c.first_bits-first.result) c.first_bits-first.ensures h).1),
)

pub returns-else-is_at_most : goal.returns-else-is_at_most
returns-else-is_at_most g c = (
  (λ h. absurd (elim-false (sym c.if-is_at_most.false ∙ h))),
  (λ h. c.is_at_most.ensures.1 (lies_back g.W.KeyBits.width (g.W.KeyBits.number c.args.place) c.args.place_len (g.W.KeyBits.number c.args.key)
      c.args.len (g.W.KeyBits.number c.first_bits-first.result) c.first_bits-first.ensures h).0),
)
