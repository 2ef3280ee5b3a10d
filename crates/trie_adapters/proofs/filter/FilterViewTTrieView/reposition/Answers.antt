use Rattle.std.proofs.Common.{◌≡◌, ◌+◌, ◌<◌, ◌≤◌, ℕ, cond, subst, rules}
use Rattle.std.specs.Int.{bit_at}
use Rattle.trie_model.specs.Nets.{covers, net_of}
use Rattle.trie_model.specs.Spots.{prefix_net}
use Rattle.trie_model.specs.Views.{level_of, net_of_bit}
use Rattle.trie_adapters.specs.Filtered.{AcceptsPair}
use Rattle.trie_adapters.proofs.FilterSteps.{bits_moved, filtered_moved, keeps_moved}
use Rattle.trie_adapters.proofs.filter.FilterViewTTrieView.reposition.Goals as goal

pub returns-clause-usable : goal.returns-clause-usable
returns-clause-usable g c =
    let w = g.V.P.Number.KeyBits.width in
    let t = g.V.TrieView.told c.args.self.now.view in
    let to = net_of (g.V.P.Number.KeyBits.number c.args.key) c.args.prefix_len in
    let laws = (g.met.V.TrieView c.lifetimes (search rules)).laws in
    let ok = laws c.args.self.now.view c.requires.usable.0 in
    let keeps = c.requires.usable.3 in
    let mask = subst (λ d. (b : ℕ) → b < 31 → d + level_of b ≤ w
    → bit_at c.data_cover_mask.result b ≡ cond (covers w (prefix_net w to.bits to.len) (net_of_bit w d to.bits b)) 1 0)
    c.depth.ensures c.data_cover_mask.ensures.mask in
    let narrow = bits_moved w c.args.self.now.data_bitmap c.data_cover_mask.result t to ok c.requires.place keeps.fit keeps.short mask in (
      c.reposition.ensures.usable,
      c.requires.usable.1,
      c.requires.usable.2,
      keeps_moved w c.args.self.now.data_bitmap _ c.args.self.now.kept t (g.V.TrieView.told c.reposition.new.self) to ok
          (laws c.reposition.new.self c.reposition.ensures.usable) keeps c.requires.place c.reposition.ensures.moved narrow,
    )

pub returns-clause-moved : goal.returns-clause-moved
returns-clause-moved g c =
    let w = g.V.P.Number.KeyBits.width in
    let t = g.V.TrieView.told c.args.self.now.view in
    let to = net_of (g.V.P.Number.KeyBits.number c.args.key) c.args.prefix_len in
    let ok = (g.met.V.TrieView c.lifetimes (search rules)).laws c.args.self.now.view c.requires.usable.0 in
    let keeps = c.requires.usable.3 in
    let mask = subst (λ d. (b : ℕ) → b < 31 → d + level_of b ≤ w
    → bit_at c.data_cover_mask.result b ≡ cond (covers w (prefix_net w to.bits to.len) (net_of_bit w d to.bits b)) 1 0)
    c.depth.ensures c.data_cover_mask.ensures.mask in
    let narrow = bits_moved w c.args.self.now.data_bitmap c.data_cover_mask.result t to ok c.requires.place keeps.fit keeps.short mask in
    filtered_moved g.V.TrieView.item (AcceptsPair g.V.P.PlainPrefix.net g.V.P.PlainPrefix.raw g.V.TrieView.item (goal.F-post g c.args.self.now.by)) w
    c.args.self.now.data_bitmap _
    c.args.self.now.kept t (g.V.TrieView.told c.reposition.new.self) to ok c.requires.place c.reposition.ensures.moved narrow
