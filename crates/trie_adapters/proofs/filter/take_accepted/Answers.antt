use Rattle.std.proofs.Common.{◌≡◌, ◌∙◌, ap, rules}
use Rattle.trie_model.specs.Views.{data_net, depth_at, net_of_bit}
use Rattle.trie_adapters.specs.Filtered.{AcceptsPair}
use Rattle.trie_adapters.proofs.EnterLaws.{takes_item, takes_none, accepts_here, rejects_here}
use Rattle.trie_adapters.proofs.filter.take_accepted.Goals as goal

pub returns-then-by-clause-taken : goal.returns-then-by-clause-taken
returns-then-by-clause-taken g c =
    let w = g.V.P.Number.KeyBits.width in
    let t = g.V.TrieView.told c.args.view.now in
    let laws = (g.met.V.TrieView c.lifetimes (search rules)).laws in
    let net : g.V.P.PlainPrefix.net c.reconstruct_prefix-prefix.result ≡ data_net w t.place c.args.bit =
    c.reconstruct_prefix-prefix.ensures.net ∙ ap (λ d. net_of_bit w d (g.V.P.Number.KeyBits.number c.key.result) c.args.bit) c.depth.ensures
    ∙ ap (λ k. net_of_bit w (depth_at t.place.len) k c.args.bit) c.key.ensures in
    takes_item g.V.TrieView.item (AcceptsPair g.V.P.PlainPrefix.net g.V.P.PlainPrefix.raw g.V.TrieView.item (goal.F-post g c.args.by)) w c.args.bit t
    (g.V.TrieView.told c.get_data.new.self) c.in_ok-item.item (laws c.args.view.now c.requires.usable) (laws c.get_data.new.self c.in_ok-item.ensures.usable)
    c.in_ok-item.ensures.rest c.requires.bit c.in_ok-item.ensures.data
    (accepts_here g.V.P.PlainPrefix.net g.V.P.PlainPrefix.raw g.V.TrieView.item (goal.F-post g c.args.by) c.reconstruct_prefix-prefix.result _ c.by.result
    (data_net w t.place c.args.bit) net c.reconstruct_prefix-prefix.ensures.raw c.if-by.true c.by.ensures)

pub returns-clause-taken : goal.returns-clause-taken
returns-clause-taken g c =
    let w = g.V.P.Number.KeyBits.width in
    let t = g.V.TrieView.told c.args.view.now in
    let laws = (g.met.V.TrieView c.lifetimes (search rules)).laws in
    let net : g.V.P.PlainPrefix.net c.reconstruct_prefix-prefix.result ≡ data_net w t.place c.args.bit =
    c.reconstruct_prefix-prefix.ensures.net ∙ ap (λ d. net_of_bit w d (g.V.P.Number.KeyBits.number c.key.result) c.args.bit) c.depth.ensures
    ∙ ap (λ k. net_of_bit w (depth_at t.place.len) k c.args.bit) c.key.ensures in
    takes_none g.V.TrieView.item (AcceptsPair g.V.P.PlainPrefix.net g.V.P.PlainPrefix.raw g.V.TrieView.item (goal.F-post g c.args.by)) w c.args.bit t
    (g.V.TrieView.told c.get_data.new.self) (g.V.TrieView.item c.in_ok-item.item) (laws c.args.view.now c.requires.usable)
    (laws c.get_data.new.self c.in_ok-item.ensures.usable)
    c.in_ok-item.ensures.rest c.requires.bit c.in_ok-item.ensures.data
    (rejects_here g.V.P.PlainPrefix.net g.V.P.PlainPrefix.raw g.V.TrieView.item (goal.F-post g c.args.by) c.reconstruct_prefix-prefix.result _ c.by.result
    (data_net w t.place c.args.bit) g.met.V.P.PlainPrefix.one_law c.requires.answers net c.reconstruct_prefix-prefix.ensures.raw c.if-by.false c.by.ensures)
