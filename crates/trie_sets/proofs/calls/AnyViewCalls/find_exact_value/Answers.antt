use Rattle.std.proofs.Common.{ℕ, subst}
use Rattle.trie_model.proofs.Places.{place_is}
use Rattle.trie_model.proofs.ListLaws.{if_ok_map}
use Rattle.view_model.specs.Find.{FindsEntry}
use Rattle.view_model.proofs.MadeLaws.{pair_of_part}
use Rattle.trie_sets.proofs.calls.AnyViewCalls.find_exact_value.Goals as goal

pub returns-in-None-clause-pair : goal.returns-in-None-clause-pair
returns-in-None-clause-pair g c =
    let p = place_is (g.V.P.PlainPrefix.net c.args.prefix.now) (g.V.P.Number.KeyBits.number c.number-key.result) c.length-len.result c.number-key.ensures.bits
    c.length-len.ensures in
    let w : ℕ = g.V.P.Number.KeyBits.width in
    let t = g.V.TrieView.told c.args.self in
    let finds = FindsEntry g.V.TrieView.valid g.V.TrieView.told w (g.V.P.PlainPrefix.net c.args.prefix.now) t in
    let entry = subst (λ n. FindsEntry g.V.TrieView.valid g.V.TrieView.told w n t c.in_ok-found.found) p c.in_ok-found.ensures.found in
    subst finds c.in-None.is entry

pub returns-in-Some-clause-pair : goal.returns-in-Some-clause-pair
returns-in-Some-clause-pair g c =
    let p = place_is (g.V.P.PlainPrefix.net c.args.prefix.now) (g.V.P.Number.KeyBits.number c.number-key.result) c.length-len.result c.number-key.ensures.bits
    c.length-len.ensures in
    let w : ℕ = g.V.P.Number.KeyBits.width in
    let t = g.V.TrieView.told c.args.self in
    let finds = FindsEntry g.V.TrieView.valid g.V.TrieView.told w (g.V.P.PlainPrefix.net c.args.prefix.now) t in
    let entry = subst (λ n. FindsEntry g.V.TrieView.valid g.V.TrieView.told w n t c.in_ok-found.found) p c.in_ok-found.ensures.found in
    let found = subst finds c.in-Some.is entry in
    if_ok_map c.own_pair.result (λ pair. pair_of_part w (g.V.P.PlainPrefix.net c.args.prefix.now) t (g.V.TrieView.told c.in-Some.view) g.V.P.PlainPrefix.net
    g.V.TrieView.item c.number-key.ensures.prefix found.2 found.1 pair) c.own_pair.ensures.pair
