use Rattle.std.proofs.Common.{sym, subst}
use Rattle.view_model.specs.CoveringDifference.{CoveredBits}
use Rattle.view_model.proofs.CoverSearchLaws.{covered_bits_all}
use Rattle.trie_sets.proofs.cover.search_cover_masks.Goals as goal

pub returns-then-covered : goal.returns-then-covered
returns-then-covered g c = λ place d ok. subst (λ t. CoveredBits g.V.P.Number.KeyBits.width place g.V.TrieView.told t c.args.side.now 4294967295
    4294967295) (sym c.if-covered.true) (covered_bits_all g.V.P.Number.KeyBits.width g.V.TrieView.told place c.args.side.now)

pub returns-else-covered : goal.returns-else-covered
returns-else-covered g c = λ place d ok. subst (λ t. CoveredBits g.V.P.Number.KeyBits.width place g.V.TrieView.told t c.args.side.now
    c.side_cover_masks.result.0 c.side_cover_masks.result.1) (sym c.if-covered.false) (c.side_cover_masks.ensures place d ok)
