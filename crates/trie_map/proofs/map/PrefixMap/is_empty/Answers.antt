use Rattle.std.proofs.Common.{rules, ap, sym, length, ◌∙◌}
use Rattle.trie_model.proofs.TrieMaps.{empty_list}
use Rattle.trie_map.proofs.map.PrefixMap.is_empty.Goals as goal

pub returns : goal.returns
returns g c = let both = empty_list c.args.self.now c.self.inside.count (sym (ap length c.self.view_is) ∙ c.self.invariant.counted) in search (rules, both)
