use Rattle.std.proofs.Common.{refl, sym}
use Rattle.trie_model.proofs.ListLaws.{if_ok_map}
use Rattle.trie_adapters.proofs.cloned.ClonedViewTrieView.get_data.Goals as goal

pub returns-clause-data : goal.returns-clause-data
returns-clause-data g c =
    if_ok_map c.clone_with.result (λ copy e. (g.V.TrieView.item c.in_ok-item.item, c.in_ok-item.ensures.data, (c.in_ok-item.item, refl, sym e)))
    c.clone_with.ensures
