use Rattle.std.proofs.Common.{◌<◌, ◌^◌, ◌∙◌, ap, arith, None, rules}
use Rattle.std.specs.Prelude.{slice_get}
use Rattle.trie_model.proofs.Places.{bit_below}
use Rattle.trie_model.proofs.TrieLaws.{cleared}
use Rattle.trie_adapters.specs.Filtered.{AcceptsPair}
use Rattle.trie_adapters.proofs.FilterSteps.{keeps_others, took_kept, set_other}
use Rattle.trie_adapters.proofs.filter.FilterViewTTrieView.get_data.Goals as goal

pub overflow_shl-self : goal.overflow_shl-self
overflow_shl-self g c = let small = bit_below 31 c.args.self.now.data_bitmap c.args.bit c.requires.usable.3.fit c.requires.set in omega (arith, small)

pub returns-clause-usable : goal.returns-clause-usable
returns-clause-usable g c =
    let keeps = c.requires.usable.3 in
    let bits = c.args.self.now.data_bitmap in
    let small = bit_below 31 bits c.args.bit keeps.fit c.requires.set in
    let fit : bits < 2 ^ 32 = (let lt = keeps.fit in omega (arith, lt)) in (
      c.requires.usable.0,
      c.requires.usable.1,
      c.requires.usable.2,
      keeps_others g.V.P.Number.KeyBits.width bits _ c.args.self.now.kept c.take.new.self (g.V.TrieView.told c.args.self.now.view) c.args.bit keeps fit
          (cleared c.args.bit bits (omega (arith, small))) (λ b ne. ap (λ zs. slice_get zs b) c.take.ensures.left
          ∙ set_other c.args.self.now.kept c.args.bit b None ne),
    )

pub returns-clause-rest : goal.returns-clause-rest
returns-clause-rest g c =
    let keeps = c.requires.usable.3 in
    let bits = c.args.self.now.data_bitmap in
    let small = bit_below 31 bits c.args.bit keeps.fit c.requires.set in
    let fit : bits < 2 ^ 32 = (let lt = keeps.fit in omega (arith, lt)) in
    took_kept g.V.TrieView.item (AcceptsPair g.V.P.PlainPrefix.net g.V.P.PlainPrefix.raw g.V.TrieView.item (goal.F-post g c.args.self.now.by))
    g.V.P.Number.KeyBits.width bits _
    c.args.self.now.kept c.take.new.self (g.V.TrieView.told c.args.self.now.view) c.args.bit
    ((g.met.V.TrieView c.lifetimes (search rules)).laws c.args.self.now.view c.requires.usable.0) keeps fit c.requires.set
    (cleared c.args.bit bits (omega (arith, small))) (λ b ne. ap (λ zs. slice_get zs b) c.take.ensures.left
    ∙ set_other c.args.self.now.kept c.args.bit b None ne)
