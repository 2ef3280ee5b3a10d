use Rattle.std.proofs.Common.{rules}
use Rattle.std.proofs.Common.{◌∙◌, ℕ, ap, subst}
use Rattle.view_model.specs.Find.{FindsPart}
use Rattle.view_model.specs.Sides.{side_data_bits}
use Rattle.view_model.proofs.SideLaws.{side_in_ok}
use Rattle.trie_model.proofs.Places.{place_is}
use Rattle.view_model.proofs.MadeLaws.{found_in, difference_made}
use Rattle.trie_sets.proofs.pairs.AnyViewPairs.difference.Goals as goal

pub returns-clause-usable : goal.returns-clause-usable
returns-clause-usable g c =
    let w : ℕ = g.V.P.Number.KeyBits.width in
    let p = place_is (g.V.TrieView.told c.args.self).place (g.V.P.Number.KeyBits.number c.key-key.result) c.prefix_len-len.result c.key-key.ensures
    c.prefix_len-len.ensures in
    let found = subst (λ n. FindsPart g.R.TrieView.valid g.R.TrieView.told w n (g.R.TrieView.told c.args.other) c.in_ok-right.right) p
    c.in_ok-right.ensures.found in (
      c.requires.usable,
      side_in_ok w g.R.TrieView.valid g.R.TrieView.told (g.met.R.TrieView c.lifetimes (search rules)).laws
          (g.V.TrieView.told c.args.self).place c.in_ok-right.right
          (found_in g.R.TrieView.valid g.R.TrieView.told w (g.V.TrieView.told c.args.self).place (g.R.TrieView.told c.args.other) c.in_ok-right.right found),
      c.side_data-right_data.ensures ∙ ap (λ d. side_data_bits g.R.TrieView.told d c.in_ok-right.right) c.depth-depth.ensures,
    )

pub returns-clause-pairs : goal.returns-clause-pairs
returns-clause-pairs g c =
    let w : ℕ = g.V.P.Number.KeyBits.width in
    let p = place_is (g.V.TrieView.told c.args.self).place (g.V.P.Number.KeyBits.number c.key-key.result) c.prefix_len-len.result c.key-key.ensures
    c.prefix_len-len.ensures in
    let found = subst (λ n. FindsPart g.R.TrieView.valid g.R.TrieView.told w n (g.R.TrieView.told c.args.other) c.in_ok-right.right) p
    c.in_ok-right.ensures.found in
    difference_made g.R.TrieView.valid g.R.TrieView.told w (g.V.TrieView.told c.args.self) (g.R.TrieView.told c.args.other) c.in_ok-right.right
    ((g.met.V.TrieView c.lifetimes (search rules)).laws c.args.self c.requires.usable) found
