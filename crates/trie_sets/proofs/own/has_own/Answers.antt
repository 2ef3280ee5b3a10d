use Rattle.std.proofs.Common.{rules}
use Rattle.std.proofs.Common.{◌∙◌, sym, ap, subst, refl}
use Rattle.std.specs.Int.{bit_at}
use Rattle.std.proofs.lemmas.Nat.Bits.{shr_and_one}
use Rattle.trie_model.specs.Views.{Has}
use Rattle.trie_model.proofs.Places.{elim-false}
use Rattle.trie_sets.proofs.own.has_own.Goals as goal

pub returns-then-data_bitmap-bit-eq1 : goal.returns-then-data_bitmap-bit-eq1
returns-then-data_bitmap-bit-eq1 g c =
    let law = (g.met.V.TrieView c.lifetimes (search rules)).laws c.args.view.now c.requires in
    let set = ap (λ m. bit_at m c.own_bit-bit.result) (sym c.data_bitmap.ensures) ∙ sym (shr_and_one c.data_bitmap.result c.own_bit-bit.result) ∙
    c.if-data_bitmap-bit-eq1.true in (
      (λ e. subst (Has (g.V.TrieView.told c.args.view.now)) c.own_bit-bit.ensures.net (law.told c.own_bit-bit.result c.own_bit-bit.ensures.small set)),
      (λ h. refl),
    )

pub returns : goal.returns
returns g c =
    let law = (g.met.V.TrieView c.lifetimes (search rules)).laws c.args.view.now c.requires in (
      (λ e. absurd (elim-false e)),
      (λ h. absurd (c.if-data_bitmap-bit-eq1.false (shr_and_one c.data_bitmap.result c.own_bit-bit.result ∙
          ap (λ m. bit_at m c.own_bit-bit.result) c.data_bitmap.ensures ∙
          law.untold c.own_bit-bit.result h.0 c.own_bit-bit.ensures.small
          (subst (λ p. (g.V.TrieView.told c.args.view.now).at p h.0) (sym c.own_bit-bit.ensures.net) h.1)))),
    )
