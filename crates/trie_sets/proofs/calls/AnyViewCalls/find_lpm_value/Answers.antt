use Rattle.std.proofs.Common.{◌+◌, ◌-◌, ◌*◌, ◌/◌, ◌≤◌, subst}
use Rattle.trie_model.proofs.Places.{place_is}
use Rattle.trie_model.specs.Views.{depth_at}
use Rattle.view_model.specs.LongestMatch.{LongestMatchOf}
use Rattle.trie_sets.proofs.calls.AnyViewCalls.find_lpm_value.Goals as goal

pub returns-in_err-found-clause-cost : goal.returns-in_err-found-clause-cost
returns-in_err-found-clause-cost g c =
    subst (λ l. c.longest_match.new.steps ≤ c.args.steps.now + g.V.TrieView.cost * ((l - depth_at (g.V.TrieView.told c.args.self).place.len) / 5))
    c.length-len.ensures c.in_err-found.ensures.cost

pub returns-clause-longest : goal.returns-clause-longest
returns-clause-longest g c =
    let p = place_is (g.V.P.PlainPrefix.net c.args.prefix.now) (g.V.P.Number.KeyBits.number c.number-key.result) c.length-len.result c.number-key.ensures.bits
    c.length-len.ensures in
    subst (λ n. LongestMatchOf g.V.P.Number.KeyBits.width g.V.P.PlainPrefix.net g.V.TrieView.item (g.V.TrieView.told c.args.self) n c.in_ok-found.found) p
    c.in_ok-found.ensures.longest

pub returns-clause-cost : goal.returns-clause-cost
returns-clause-cost g c = subst (λ l. c.longest_match.new.steps ≤ c.args.steps.now + g.V.TrieView.cost *
    ((l - depth_at (g.V.TrieView.told c.args.self).place.len) / 5)) c.length-len.ensures c.in_ok-found.ensures.cost
