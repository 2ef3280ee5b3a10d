use Rattle.std.proofs.Common.{subst}
use Rattle.trie_model.proofs.Places.{place_is}
use Rattle.view_model.specs.Find.{FindsEntry}
use Rattle.trie_sets.proofs.calls.AnyViewCalls.find_exact.Goals as goal

pub returns-clause-found : goal.returns-clause-found
returns-clause-found g c =
    let p = place_is (g.V.P.PlainPrefix.net c.args.prefix.now) (g.V.P.Number.KeyBits.number c.number-key.result) c.length-len.result c.number-key.ensures.bits
    c.length-len.ensures in
    subst (λ n. FindsEntry g.V.TrieView.valid g.V.TrieView.told g.V.P.Number.KeyBits.width n (g.V.TrieView.told c.args.self) c.in_ok-found.found) p
    c.in_ok-found.ensures.found
