use Rattle.std.proofs.Common.{rules}
use Rattle.std.proofs.Common.{refl}
use Rattle.std.proofs.lemmas.Result.{IfOk-weaker}
use Rattle.view_model.proofs.Bits.{and_bit_l}
use Rattle.view_model.proofs.CoveringDifferenceLaws.{outside_item, outside_took}
use Rattle.trie_sets.proofs.covering_difference.CoveringDifferenceViewTrieView.get_data.Goals as goal

pub get_data-requires : goal.get_data-requires
get_data-requires g c κs = ((refl, tt), (c.requires.usable.0, and_bit_l _ _ _ c.requires.set))

pub returns-clause-data : goal.returns-clause-data
returns-clause-data g c =
    IfOk-weaker c.get_data.result _ _
    (λ x e. outside_item g.L.P.Number.KeyBits.width g.R.TrieView.told (g.L.TrieView.told c.args.self.now.left) c.args.self.now.covered
    c.args.self.now.right c.args.self.now.covered_data c.args.self.now.covered_children
    ((g.met.L.TrieView c.lifetimes (search rules)).laws c.args.self.now.left c.requires.usable.0) c.requires.usable.2 c.args.bit c.requires.set _ e)
    c.get_data.ensures.«data»

pub returns-clause-rest : goal.returns-clause-rest
returns-clause-rest g c =
    IfOk-weaker c.get_data.result _ _ (λ _ took. outside_took g.L.P.Number.KeyBits.width c.args.bit g.R.TrieView.told _ _ c.args.self.now.covered
    c.args.self.now.right c.args.self.now.covered_data c.args.self.now.covered_children took) c.get_data.ensures.rest
