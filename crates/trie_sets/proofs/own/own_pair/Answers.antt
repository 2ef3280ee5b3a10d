use Rattle.std.proofs.Common.{◌∙◌, sym, ap, subst}
use Rattle.view_model.specs.LongestMatch.{ItemOf}
use Rattle.trie_sets.proofs.own.own_pair.Goals as goal

pub returns-in-Some-clause-pair : goal.returns-in-Some-clause-pair
returns-in-Some-clause-pair g c =
    let t = g.V.TrieView.told c.args.view in
    (c.own_prefix-prefix.ensures.net, subst (ItemOf g.V.TrieView.item t t.place) c.in-Some.is c.in_ok-found.ensures.item)

pub returns-in-Some-clause-plain : goal.returns-in-Some-clause-plain
returns-in-Some-clause-plain g c = c.own_prefix-prefix.ensures.plain ∙ ap (λ n. n.bits) (sym c.own_prefix-prefix.ensures.net)

pub returns-in-None-clause-pair : goal.returns-in-None-clause-pair
returns-in-None-clause-pair g c = let t = g.V.TrieView.told c.args.view in subst (ItemOf g.V.TrieView.item t t.place) c.in-None.is c.in_ok-found.ensures.item
