use Rattle.std.proofs.Common.{rules}
use Rattle.std.proofs.Common.{◌≡◌, ◌∙◌, ℕ, ◌-◌, sym, ap, subst, refl, bit_and}
use Rattle.std.specs.Int.{bit_at, w32, leading_zeros}
use Rattle.trie_model.specs.Nets.{IsNet}
use Rattle.trie_model.specs.Views.{data_net}
use Rattle.trie_model.proofs.LongestLaws.{high_bit_of}
use Rattle.view_model.specs.Sides.{IsUsableSide}
use Rattle.view_model.specs.CoveringUnion.{pair_value}
use Rattle.view_model.proofs.Bits.{and_bit_l}
use Rattle.view_model.proofs.LongestLaws.{lpm_none, lpm_some, lpm_bit}
use Rattle.view_model.proofs.CoveringItems.{bit_is_net}
use Rattle.trie_sets.proofs.longest.longest_here.Goals as goal

pub returns-then-inside-eq0-clause-longest : goal.returns-then-inside-eq0-clause-longest
returns-then-inside-eq0-clause-longest g c = λ place d ok m.
    lpm_none g.V.P.Number.KeyBits.width g.V.TrieView.valid g.V.TrieView.told (g.met.V.TrieView c.lifetimes (search rules)).laws place c.args.depth
    (g.V.P.Number.KeyBits.number c.args.key) c.args.len c.data_lpm_mask.result c.args.side.now c.in-Some.view
    (pair_value g.V.P.PlainPrefix.net g.V.TrieView.item c.args.above) c.in-Some.is d (sym c.depth.ensures ∙
    c.if-depth.false) ok m (record {
      is =
          c.data_lpm_mask.ensures.mask;
    }) (ap (λ x. bit_and x c.data_lpm_mask.result) (sym c.data_bitmap.ensures) ∙ c.if-inside-eq0.true)

pub reconstruct_prefix-prefix-requires-clause-bit : goal.reconstruct_prefix-prefix-requires-clause-bit
reconstruct_prefix-prefix-requires-clause-bit g c =
    let ok = subst (IsUsableSide g.V.TrieView.valid) c.in-Some.is c.requires.usable in
    let fits = ((g.met.V.TrieView c.lifetimes (search rules)).laws c.in-Some.view ok).data_fit in
    (lpm_bit g.V.P.Number.KeyBits.width c.args.depth (g.V.P.Number.KeyBits.number c.args.key) c.args.len (g.V.TrieView.told c.in-Some.view).data_bits
    c.data_lpm_mask.result _ fits c.requires.net.len_fits (record {
      is =
          c.data_lpm_mask.ensures.mask;
    }) (high_bit_of (g.V.TrieView.told c.in-Some.view).data_bits c.data_lpm_mask.result c.data_bitmap.result fits
    c.data_bitmap.ensures c.if-inside-eq0.false)).0

pub reconstruct_prefix-prefix-requires-clause-end : goal.reconstruct_prefix-prefix-requires-clause-end
reconstruct_prefix-prefix-requires-clause-end g c =
    let ok = subst (IsUsableSide g.V.TrieView.valid) c.in-Some.is c.requires.usable in
    let fits = ((g.met.V.TrieView c.lifetimes (search rules)).laws c.in-Some.view ok).data_fit in
    (lpm_bit g.V.P.Number.KeyBits.width c.args.depth (g.V.P.Number.KeyBits.number c.args.key) c.args.len (g.V.TrieView.told c.in-Some.view).data_bits
    c.data_lpm_mask.result _ fits c.requires.net.len_fits (record {
      is =
          c.data_lpm_mask.ensures.mask;
    }) (high_bit_of (g.V.TrieView.told c.in-Some.view).data_bits c.data_lpm_mask.result c.data_bitmap.result fits
    c.data_bitmap.ensures c.if-inside-eq0.false)).1

pub get_data-requires : goal.get_data-requires
get_data-requires g c κs =
    let ok = subst (IsUsableSide g.V.TrieView.valid) c.in-Some.is c.requires.usable in
    let fits = ((g.met.V.TrieView c.lifetimes (search rules)).laws c.in-Some.view ok).data_fit in
    let j : ℕ = 31 - leading_zeros w32 (bit_and c.data_bitmap.result c.data_lpm_mask.result) in
    let high = high_bit_of (g.V.TrieView.told c.in-Some.view).data_bits c.data_lpm_mask.result c.data_bitmap.result fits c.data_bitmap.ensures
    c.if-inside-eq0.false in (
      (refl, tt),
      (
        subst g.V.TrieView.valid (sym c.in_ok-copy.ensures.equal) ok,
        subst (λ v. bit_at (g.V.TrieView.told v).data_bits j ≡ 1) (sym c.in_ok-copy.ensures.equal)
            (and_bit_l (g.V.TrieView.told c.in-Some.view).data_bits c.data_lpm_mask.result j high.set),
      ),
    )

pub returns-clause-longest : goal.returns-clause-longest
returns-clause-longest g c = λ place d ok m.
    let w : ℕ = g.V.P.Number.KeyBits.width in
    let okv = subst (IsUsableSide g.V.TrieView.valid) c.in-Some.is c.requires.usable in
    let fits = ((g.met.V.TrieView c.lifetimes (search rules)).laws c.in-Some.view okv).data_fit in
    let j : ℕ = 31 - leading_zeros w32 (bit_and c.data_bitmap.result c.data_lpm_mask.result) in
    let high = high_bit_of (g.V.TrieView.told c.in-Some.view).data_bits c.data_lpm_mask.result c.data_bitmap.result fits c.data_bitmap.ensures
    c.if-inside-eq0.false in
    lpm_some w g.V.TrieView.valid g.V.TrieView.told (g.met.V.TrieView c.lifetimes (search rules)).laws place c.args.depth
    (g.V.P.Number.KeyBits.number c.args.key) c.args.len c.data_lpm_mask.result j c.args.side.now c.in-Some.view
    (pair_value g.V.P.PlainPrefix.net g.V.TrieView.item c.args.above) (g.V.P.PlainPrefix.net c.reconstruct_prefix-prefix.result)
    (g.V.TrieView.item c.in_ok-item.item) c.in-Some.is d (sym c.depth.ensures ∙
    c.if-depth.false) ok m (record { is = c.data_lpm_mask.ensures.mask }) high c.reconstruct_prefix-prefix.ensures.net
    (subst (λ v. (g.V.TrieView.told v).at (data_net w (g.V.TrieView.told v).place j) (g.V.TrieView.item c.in_ok-item.item)) c.in_ok-copy.ensures.equal
    c.in_ok-item.ensures.«data»)

pub returns-clause-above : goal.returns-clause-above
returns-clause-above g c =
    let w : ℕ = g.V.P.Number.KeyBits.width in
    let ok = subst (IsUsableSide g.V.TrieView.valid) c.in-Some.is c.requires.usable in
    let fits = ((g.met.V.TrieView c.lifetimes (search rules)).laws c.in-Some.view ok).data_fit in
    let j : ℕ = 31 - leading_zeros w32 (bit_and c.data_bitmap.result c.data_lpm_mask.result) in
    let high = high_bit_of (g.V.TrieView.told c.in-Some.view).data_bits c.data_lpm_mask.result c.data_bitmap.result fits c.data_bitmap.ensures
    c.if-inside-eq0.false in
    let bit = lpm_bit w c.args.depth (g.V.P.Number.KeyBits.number c.args.key) c.args.len (g.V.TrieView.told c.in-Some.view).data_bits
    c.data_lpm_mask.result j fits c.requires.net.len_fits (record { is = c.data_lpm_mask.ensures.mask }) high in (
      subst (IsNet w) (sym c.reconstruct_prefix-prefix.ensures.net)
          (bit_is_net w c.args.depth (g.V.TrieView.told c.in-Some.view).place.len (g.V.P.Number.KeyBits.number c.args.key) j (sym c.if-depth.false ∙
          c.depth.ensures) c.requires.net.bits_fit bit.0 bit.1),
      c.reconstruct_prefix-prefix.ensures.raw,
    )
