use Rattle.std.proofs.Common.{rules}
use Rattle.std.proofs.Common.{◌∙◌, sym, ap, subst}
use Rattle.std.specs.Int.{bit_at}
use Rattle.std.proofs.lemmas.Nat.Bits.{shr_and_one}
use Rattle.view_model.proofs.Bits.{one-zero}
use Rattle.trie_sets.proofs.own.own_item.Goals as goal

pub returns-then-data_bitmap-bit-eq0-clause-item : goal.returns-then-data_bitmap-bit-eq0-clause-item
returns-then-data_bitmap-bit-eq0-clause-item g c = λ h.
    let law = (g.met.V.TrieView c.lifetimes (search rules)).laws c.args.view c.requires in
    one-zero _ (law.untold c.own_bit-bit.result h.0 c.own_bit-bit.ensures.small
    (subst (λ p. (g.V.TrieView.told c.args.view).at p h.0) (sym c.own_bit-bit.ensures.net) h.1))
    (ap (λ m. bit_at m c.own_bit-bit.result) (sym c.data_bitmap.ensures) ∙ sym (shr_and_one c.data_bitmap.result c.own_bit-bit.result) ∙
    c.if-data_bitmap-bit-eq0.true)

pub returns-clause-item : goal.returns-clause-item
returns-clause-item g c = subst (λ p. (g.V.TrieView.told c.args.view).at p (g.V.TrieView.item c.in_ok-item.item)) c.own_bit-bit.ensures.net
    c.in_ok-item.ensures.«data»
