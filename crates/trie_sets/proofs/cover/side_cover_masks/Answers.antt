use Rattle.std.proofs.Common.{rules}
use Rattle.std.proofs.Common.{◌∙◌, ◌^◌, ◌<◌, sym, ap, subst}
use Rattle.view_model.specs.Sides.{side_data_bits}
use Rattle.view_model.proofs.CoverLaws.{covered_bits_of}
use Rattle.view_model.proofs.SideLaws.{side_data_bits_fit}
use Rattle.trie_sets.proofs.cover.side_cover_masks.Goals as goal

pub cover_masks-requires : goal.cover_masks-requires
cover_masks-requires g c =
    subst (λ n. n < 2 ^ 31) (sym c.side_data.ensures)
    (side_data_bits_fit g.V.P.Number.KeyBits.width g.V.TrieView.valid g.V.TrieView.told (g.met.V.TrieView c.lifetimes (search rules)).laws
    c.args.depth c.args.side.now c.requires)

pub returns : goal.returns
returns g c = λ place d ok.
    covered_bits_of g.V.P.Number.KeyBits.width g.V.TrieView.valid g.V.TrieView.told (g.met.V.TrieView c.lifetimes (search rules)).laws place
    c.args.side.now c.side_data.result c.cover_masks.result.0 c.cover_masks.result.1 ok (c.side_data.ensures ∙
    ap (λ x. side_data_bits g.V.TrieView.told x c.args.side.now) (sym d)) c.cover_masks.ensures.data_fit c.cover_masks.ensures.children_fit
    c.cover_masks.ensures.covered_data c.cover_masks.ensures.covered_children
