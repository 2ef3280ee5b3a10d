use Rattle.std.proofs.Common.{◌∙◌, sym, refl, arith, rules}
use Rattle.trie_model.proofs.Places.{elim-false}
use Rattle.trie_adapters.proofs.EnterLaws.{bit_left, keeps_by, all_kept, all_filtered}
use Rattle.trie_adapters.proofs.filter.filter_view.Goals as goal
use Rattle.trie_adapters.proofs.filter.filter_view.Goals.{then-is_some, else-is_some}

pub take_accepted-requires : goal.take_accepted-requires
take_accepted-requires g c κs =
    let small = bit_left g.V.TrieView.item _ g.V.P.Number.KeyBits.width c.bits.bit c.bits.data_bitmap c.bits.kept (g.V.TrieView.told c.args.view)
    (g.V.TrieView.told c.bits.rest)
    ((g.met.V.TrieView c.lifetimes (search rules)).laws c.bits.rest c.bits.invariant.0) c.bits.invariant.1
    (λ e. c.bits-test.true (c.data_bitmap.ensures ∙ e)) in
    ((refl, tt), (c.bits.invariant.0, (c.requires.callable, (c.requires.answers, small))))

pub bits-smaller : goal.bits-smaller
bits-smaller g c =
    let small = bit_left g.V.TrieView.item _ g.V.P.Number.KeyBits.width c.bits.bit c.bits.data_bitmap c.bits.kept (g.V.TrieView.told c.args.view)
    (g.V.TrieView.told c.bits.rest)
    ((g.met.V.TrieView c.lifetimes (search rules)).laws c.bits.rest c.bits.invariant.0) c.bits.invariant.1
    (λ e. c.bits-test.true (c.data_bitmap.ensures ∙ e)) in
    omega (arith, small)

pub bits-preserved : goal.bits-preserved
bits-preserved g c =
    let small = bit_left g.V.TrieView.item _ g.V.P.Number.KeyBits.width c.bits.bit c.bits.data_bitmap c.bits.kept (g.V.TrieView.told c.args.view)
    (g.V.TrieView.told c.bits.rest)
    ((g.met.V.TrieView c.lifetimes (search rules)).laws c.bits.rest c.bits.invariant.0) c.bits.invariant.1
    (λ e. c.bits-test.true (c.data_bitmap.ensures ∙ e)) in (
      c.in_ok-accepted.ensures.usable,
      keeps_by g.V.TrieView.item _ g.V.P.Number.KeyBits.width c.bits.bit c.bits.data_bitmap c.if-is_some.data_bitmap c.bits.kept c.push.new.self
          (g.V.TrieView.told c.args.view)
          (g.V.TrieView.told c.bits.rest) (g.V.TrieView.told c.take_accepted.new.view) c.in_ok-accepted.accepted c.is_some.result c.bits.invariant.1
          c.in_ok-accepted.ensures.taken
          small c.is_some.ensures
          (λ t. elim c.if-is_some.branch [ then-is_some w ↦ w.data_bitmap-is | else-is_some w ↦ absurd (elim-false (sym w.if-is_some.false ∙ t)) ])
          (λ f. elim c.if-is_some.branch [ then-is_some w ↦ absurd (elim-false (sym f ∙ w.if-is_some.true)) | else-is_some w ↦ w.data_bitmap-is ])
          c.in_ok-push.ensures,
    )

pub returns-clause-usable : goal.returns-clause-usable
returns-clause-usable g c = (
  c.bits.invariant.0,
  c.requires.callable,
  c.requires.answers,
  all_kept g.V.TrieView.item _ g.V.P.Number.KeyBits.width c.bits.bit c.bits.data_bitmap c.bits.kept (g.V.TrieView.told c.args.view)
      (g.V.TrieView.told c.bits.rest)
      c.bits.invariant.1 (sym c.data_bitmap.ensures ∙ c.bits-test.false),
)

pub returns-clause-filters : goal.returns-clause-filters
returns-clause-filters g c =
    all_filtered g.V.TrieView.item _ g.V.P.Number.KeyBits.width c.bits.bit c.bits.data_bitmap c.bits.kept (g.V.TrieView.told c.args.view)
    (g.V.TrieView.told c.bits.rest) c.bits.invariant.1
