use Rattle.std.proofs.Common.{rules}
use Rattle.std.proofs.Common.{◌∙◌, ℕ, ◌^◌, ◌<◌, ◌≤◌, arith, sym, ap, subst}
use Rattle.trie_model.specs.Spots.{prefix_net}
use Rattle.trie_model.specs.Nets.{Net}
use Rattle.trie_model.specs.Views.{net_of_bit}
use Rattle.view_model.specs.LongestMatch.{net_of}
use Rattle.trie_sets.proofs.own.own_bit.Goals as goal

pub data_bit-requires-clause-fits : goal.data_bit-requires-clause-fits
data_bit-requires-clause-fits g c = let law = (g.met.V.TrieView c.lifetimes (search rules)).laws c.args.view.now c.requires in
    subst (λ b. b < 2 ^ g.V.P.Number.KeyBits.width) (sym c.key.ensures) law.place_ok.bits_fit

pub data_bit-requires-clause-low : goal.data_bit-requires-clause-low
data_bit-requires-clause-low g c = let d = c.depth.ensures in let l = c.prefix_len.ensures in omega (arith, d, l)

pub data_bit-requires-clause-high : goal.data_bit-requires-clause-high
data_bit-requires-clause-high g c = let d = c.depth.ensures in let l = c.prefix_len.ensures in omega (arith, d, l)

pub data_bit-requires-clause-end : goal.data_bit-requires-clause-end
data_bit-requires-clause-end g c = let law = (g.met.V.TrieView c.lifetimes (search rules)).laws c.args.view.now c.requires in
    subst (λ l. l ≤ g.V.P.Number.KeyBits.width) (sym c.prefix_len.ensures) law.place_ok.len_fits

pub returns-clause-net : goal.returns-clause-net
returns-clause-net g c =
    let w : ℕ = g.V.P.Number.KeyBits.width in
    let place : Net = (g.V.TrieView.told c.args.view.now).place in
    let law = (g.met.V.TrieView c.lifetimes (search rules)).laws c.args.view.now c.requires in
    let bit : ℕ = c.data_bit.result in
    ap (λ d. net_of_bit w d place.bits bit) (sym c.depth.ensures)
    ∙ ap (λ b. net_of_bit w c.depth.result b bit) (sym c.key.ensures)
    ∙ c.data_bit.ensures.net
    ∙ ap (λ b. prefix_net w b c.prefix_len.result) c.key.ensures
    ∙ ap (λ l. prefix_net w place.bits l) c.prefix_len.ensures
    ∙ ap (λ b. net_of b place.len) law.place_ok.no_rest
