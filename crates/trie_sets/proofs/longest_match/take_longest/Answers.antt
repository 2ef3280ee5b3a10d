use Rattle.std.proofs.Common.{rules}
use Rattle.std.proofs.Common.{◌≡◌, ◌∙◌, ℕ, ◌-◌, sym, ap, subst, refl, Some, bit_and}
use Rattle.std.specs.Int.{w32, leading_zeros}
use Rattle.trie_model.specs.Nets.{Net, masked}
use Rattle.trie_model.specs.Views.{depth_at}
use Rattle.trie_model.proofs.Places.{covers_way, depth_le}
use Rattle.trie_model.proofs.LongestLaws.{high_bit_of}
use Rattle.view_model.specs.CoveringUnion.{pair_value}
use Rattle.view_model.specs.LongestMatch.{net_of}
use Rattle.view_model.proofs.Bits.{and_bit_l}
use Rattle.view_model.proofs.SideLaws.{aligned_same}
use Rattle.view_model.proofs.LongestLaws.{lpm_none, lpm_some, lpm_bit}
use Rattle.view_model.proofs.LongestMatchLaws.{keeps_all, keeps_took}
use Rattle.trie_sets.proofs.longest_match.take_longest.Goals as goal

pub returns-then-inside-eq0-clause-longest : goal.returns-then-inside-eq0-clause-longest
returns-then-inside-eq0-clause-longest g c =
    let w : ℕ = g.V.P.Number.KeyBits.width in
    let law = (g.met.V.TrieView c.lifetimes (search rules)).laws c.args.view.now c.requires.usable in
    let place : Net = (g.V.TrieView.told c.args.view.now).place in
    let net : Net = net_of (g.V.P.Number.KeyBits.number c.args.key) c.args.len in
    let way = covers_way w (depth_at place.len) place net law.place_ok.len_fits (depth_le place.len) c.requires.inside in
    lpm_none w g.V.TrieView.valid g.V.TrieView.told (g.met.V.TrieView c.lifetimes (search rules)).laws place c.args.depth
    (g.V.P.Number.KeyBits.number c.args.key) c.args.len c.data_lpm_mask.result (Some c.args.view.now) c.args.view.now
    (pair_value g.V.P.PlainPrefix.net g.V.TrieView.item c.args.above) refl (sym c.requires.node) (sym c.requires.node) (
      c.requires.usable,
      aligned_same w place law.place_ok,
    ) (subst (λ d. masked w net.bits d ≡ masked w place.bits d) (sym c.requires.node) way) (record {
      is =
          c.data_lpm_mask.ensures.mask;
    }) (ap (λ x. bit_and x c.data_lpm_mask.result) (sym c.data_bitmap.ensures) ∙ c.if-inside-eq0.true)

pub returns-then-inside-eq0-clause-below : goal.returns-then-inside-eq0-clause-below
returns-then-inside-eq0-clause-below g c = keeps_all c.args.depth (g.V.TrieView.told c.args.view.now)

pub reconstruct_prefix-prefix-requires-clause-bit : goal.reconstruct_prefix-prefix-requires-clause-bit
reconstruct_prefix-prefix-requires-clause-bit g c =
    let fits = ((g.met.V.TrieView c.lifetimes (search rules)).laws c.args.view.now c.requires.usable).data_fit in
    (lpm_bit g.V.P.Number.KeyBits.width c.args.depth (g.V.P.Number.KeyBits.number c.args.key) c.args.len (g.V.TrieView.told c.args.view.now).data_bits
    c.data_lpm_mask.result _ fits c.requires.net.len_fits (record {
      is =
          c.data_lpm_mask.ensures.mask;
    }) (high_bit_of (g.V.TrieView.told c.args.view.now).data_bits c.data_lpm_mask.result c.data_bitmap.result fits
    c.data_bitmap.ensures c.if-inside-eq0.false)).0

pub reconstruct_prefix-prefix-requires-clause-end : goal.reconstruct_prefix-prefix-requires-clause-end
reconstruct_prefix-prefix-requires-clause-end g c =
    let fits = ((g.met.V.TrieView c.lifetimes (search rules)).laws c.args.view.now c.requires.usable).data_fit in
    (lpm_bit g.V.P.Number.KeyBits.width c.args.depth (g.V.P.Number.KeyBits.number c.args.key) c.args.len (g.V.TrieView.told c.args.view.now).data_bits
    c.data_lpm_mask.result _ fits c.requires.net.len_fits (record {
      is =
          c.data_lpm_mask.ensures.mask;
    }) (high_bit_of (g.V.TrieView.told c.args.view.now).data_bits c.data_lpm_mask.result c.data_bitmap.result fits
    c.data_bitmap.ensures c.if-inside-eq0.false)).1

pub get_data-requires : goal.get_data-requires
get_data-requires g c κs =
    let fits = ((g.met.V.TrieView c.lifetimes (search rules)).laws c.args.view.now c.requires.usable).data_fit in
    let j : ℕ = 31 - leading_zeros w32 (bit_and c.data_bitmap.result c.data_lpm_mask.result) in
    let high = high_bit_of (g.V.TrieView.told c.args.view.now).data_bits c.data_lpm_mask.result c.data_bitmap.result fits c.data_bitmap.ensures
    c.if-inside-eq0.false in
    ((refl, tt), (c.requires.usable, and_bit_l (g.V.TrieView.told c.args.view.now).data_bits c.data_lpm_mask.result j high.set))

pub returns-clause-longest : goal.returns-clause-longest
returns-clause-longest g c =
    let w : ℕ = g.V.P.Number.KeyBits.width in
    let law = (g.met.V.TrieView c.lifetimes (search rules)).laws c.args.view.now c.requires.usable in
    let place : Net = (g.V.TrieView.told c.args.view.now).place in
    let net : Net = net_of (g.V.P.Number.KeyBits.number c.args.key) c.args.len in
    let way = covers_way w (depth_at place.len) place net law.place_ok.len_fits (depth_le place.len) c.requires.inside in
    let j : ℕ = 31 - leading_zeros w32 (bit_and c.data_bitmap.result c.data_lpm_mask.result) in
    let high = high_bit_of (g.V.TrieView.told c.args.view.now).data_bits c.data_lpm_mask.result c.data_bitmap.result law.data_fit
    c.data_bitmap.ensures c.if-inside-eq0.false in
    lpm_some w g.V.TrieView.valid g.V.TrieView.told (g.met.V.TrieView c.lifetimes (search rules)).laws place c.args.depth
    (g.V.P.Number.KeyBits.number c.args.key) c.args.len c.data_lpm_mask.result j (Some c.args.view.now) c.args.view.now
    (pair_value g.V.P.PlainPrefix.net g.V.TrieView.item c.args.above) (g.V.P.PlainPrefix.net c.reconstruct_prefix-prefix.result)
    (g.V.TrieView.item c.in_ok-item.item) refl (sym c.requires.node) (sym c.requires.node) (
      c.requires.usable,
      aligned_same w place law.place_ok,
    ) (subst (λ d. masked w net.bits d ≡ masked w place.bits d) (sym c.requires.node) way) (record {
      is =
          c.data_lpm_mask.ensures.mask;
    }) high c.reconstruct_prefix-prefix.ensures.net c.in_ok-item.ensures.«data»

pub returns-clause-below : goal.returns-clause-below
returns-clause-below g c = keeps_took g.V.P.Number.KeyBits.width (31 - leading_zeros w32 (bit_and c.data_bitmap.result c.data_lpm_mask.result))
    c.args.depth (g.V.TrieView.told c.args.view.now) (g.V.TrieView.told c.get_data.new.self) c.requires.node c.in_ok-item.ensures.rest
