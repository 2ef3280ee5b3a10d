use Rattle.std.proofs.Common.{rules}
use Rattle.std.proofs.Common.{ℕ, sym, subst, refl}
use Rattle.view_model.specs.Find.{CoverFound}
use Rattle.view_model.proofs.SideLaws.{side_valid}
use Rattle.trie_model.proofs.Places.{place_is}
use Rattle.view_model.proofs.MadeLaws.{outside_made}
use Rattle.trie_sets.proofs.pairs.AnyViewPairs.covering_difference.Goals as goal

pub search_cover_masks-hidden-requires : goal.search_cover_masks-hidden-requires
search_cover_masks-hidden-requires g c κs =
    let w : ℕ = g.V.P.Number.KeyBits.width in
    let p = place_is (g.V.TrieView.told c.args.self).place (g.V.P.Number.KeyBits.number c.key-key.result) c.prefix_len-len.result c.key-key.ensures
    c.prefix_len-len.ensures in
    let met = subst (λ n. CoverFound g.R.TrieView.valid g.R.TrieView.told w n (g.R.TrieView.told c.args.other) c.in_ok-met.met.0 c.in_ok-met.met.1) p
    c.in_ok-met.ensures.met in
    ((refl, tt), side_valid w g.R.TrieView.valid g.R.TrieView.told (g.V.TrieView.told c.args.self).place c.in_ok-met.met.1 met.ok)

pub returns-clause-usable : goal.returns-clause-usable
returns-clause-usable g c =
    let w : ℕ = g.V.P.Number.KeyBits.width in
    let p = place_is (g.V.TrieView.told c.args.self).place (g.V.P.Number.KeyBits.number c.key-key.result) c.prefix_len-len.result c.key-key.ensures
    c.prefix_len-len.ensures in
    let met = subst (λ n. CoverFound g.R.TrieView.valid g.R.TrieView.told w n (g.R.TrieView.told c.args.other) c.in_ok-met.met.0 c.in_ok-met.met.1) p
    c.in_ok-met.ensures.met in
    (c.requires.usable, met.ok, c.search_cover_masks-hidden.ensures (g.V.TrieView.told c.args.self).place (sym c.depth-depth.ensures) met.ok)

pub returns-clause-pairs : goal.returns-clause-pairs
returns-clause-pairs g c =
    let w : ℕ = g.V.P.Number.KeyBits.width in
    let p = place_is (g.V.TrieView.told c.args.self).place (g.V.P.Number.KeyBits.number c.key-key.result) c.prefix_len-len.result c.key-key.ensures
    c.prefix_len-len.ensures in
    let met = subst (λ n. CoverFound g.R.TrieView.valid g.R.TrieView.told w n (g.R.TrieView.told c.args.other) c.in_ok-met.met.0 c.in_ok-met.met.1) p
    c.in_ok-met.ensures.met in
    outside_made g.R.TrieView.valid g.R.TrieView.told w (g.V.TrieView.told c.args.self) (g.R.TrieView.told c.args.other) c.in_ok-met.met.0
    c.in_ok-met.met.1 ((g.met.V.TrieView c.lifetimes (search rules)).laws c.args.self c.requires.usable) met
