use Rattle.std.proofs.Common.{rules}
use Rattle.std.proofs.Common.{◌≡◌, ℕ, ◌^◌, ◌<◌, ◌≤◌, arith, sym, ap, subst, refl, Some}
use Rattle.trie_model.specs.Nets.{Net, IsNet, masked}
use Rattle.view_model.proofs.SideLaws.{side_in_ok, side_room}
use Rattle.trie_model.proofs.Places.{place_is}
use Rattle.trie_model.proofs.MaskLaws.{masked_net}
use Rattle.view_model.specs.Union.{IsLongestCommon}
use Rattle.view_model.proofs.UnionLaws.{union_made}
use Rattle.trie_sets.proofs.pairs.AnyViewPairs.union.Goals as goal

pub either_data-requires : goal.either_data-requires
either_data-requires g c κs = ((refl, tt), (c.requires.usable, c.requires.other))

pub either_children-requires : goal.either_children-requires
either_children-requires g c κs =
    let w : ℕ = g.V.P.Number.KeyBits.width in
    let p = place_is (g.V.TrieView.told c.args.self).place (g.V.P.Number.KeyBits.number c.key-key.result) c.prefix_len-len.result c.key-key.ensures
    c.prefix_len-len.ensures in
    let q = place_is (g.R.TrieView.told c.args.other).place (g.V.P.Number.KeyBits.number c.key-other_key.result) c.prefix_len-other_len.result
    c.key-other_key.ensures c.prefix_len-other_len.ensures in
    let cm = c.common_len-common.ensures.common in
    let at : Net = record { bits = masked w (g.V.P.Number.KeyBits.number c.key-key.result) c.common_len-common.result; len = c.common_len-common.result } in
    let place : Net = record { bits = g.V.P.Number.KeyBits.number c.first_bits-common_key.result; len = c.common_len-common.result } in
    let e : at ≡ place = let f : ℕ → Net = λ b. record { bits = b; len = c.common_len-common.result } in ap f (sym c.first_bits-common_key.ensures) in
    let whole : IsLongestCommon w (g.V.TrieView.told c.args.self).place (g.R.TrieView.told c.args.other).place place =
    subst (λ n. IsLongestCommon w (g.V.TrieView.told c.args.self).place (g.R.TrieView.told c.args.other).place n) e
    (subst (λ n. IsLongestCommon w (g.V.TrieView.told c.args.self).place n at) q (subst (λ n. IsLongestCommon w n (record {
      bits =
          g.V.P.Number.KeyBits.number c.key-other_key.result;
      len = c.prefix_len-other_len.result;
    }) at) p cm)) in
    let law_l = (g.met.V.TrieView c.lifetimes (search rules)).laws in
    let law_r = (g.met.R.TrieView c.lifetimes (search rules)).laws in (
      (refl, tt),
      (
        c.requires.usable,
        (
          c.requires.other,
          (
            side_room w g.V.TrieView.valid g.V.TrieView.told law_l place _ (Some c.args.self) refl
                (side_in_ok w g.V.TrieView.valid g.V.TrieView.told law_l place (Some c.args.self) (c.requires.usable, whole.left)),
            side_room w g.R.TrieView.valid g.R.TrieView.told law_r place _ (Some c.args.other) refl
                (side_in_ok w g.R.TrieView.valid g.R.TrieView.told law_r place (Some c.args.other) (c.requires.other, whole.right)),
          ),
        ),
      ),
    )

pub returns-clause-usable : goal.returns-clause-usable
returns-clause-usable g c =
    let w : ℕ = g.V.P.Number.KeyBits.width in
    let p = place_is (g.V.TrieView.told c.args.self).place (g.V.P.Number.KeyBits.number c.key-key.result) c.prefix_len-len.result c.key-key.ensures
    c.prefix_len-len.ensures in
    let q = place_is (g.R.TrieView.told c.args.other).place (g.V.P.Number.KeyBits.number c.key-other_key.result) c.prefix_len-other_len.result
    c.key-other_key.ensures c.prefix_len-other_len.ensures in
    let cm = c.common_len-common.ensures.common in
    let at : Net = record { bits = masked w (g.V.P.Number.KeyBits.number c.key-key.result) c.common_len-common.result; len = c.common_len-common.result } in
    let place : Net = record { bits = g.V.P.Number.KeyBits.number c.first_bits-common_key.result; len = c.common_len-common.result } in
    let e : at ≡ place = let f : ℕ → Net = λ b. record { bits = b; len = c.common_len-common.result } in ap f (sym c.first_bits-common_key.ensures) in
    let whole : IsLongestCommon w (g.V.TrieView.told c.args.self).place (g.R.TrieView.told c.args.other).place place =
    subst (λ n. IsLongestCommon w (g.V.TrieView.told c.args.self).place (g.R.TrieView.told c.args.other).place n) e
    (subst (λ n. IsLongestCommon w (g.V.TrieView.told c.args.self).place n at) q (subst (λ n. IsLongestCommon w n (record {
      bits =
          g.V.P.Number.KeyBits.number c.key-other_key.result;
      len = c.prefix_len-other_len.result;
    }) at) p cm)) in
    let law = (g.met.V.TrieView c.lifetimes (search rules)).laws c.args.self c.requires.usable in
    let fits : c.common_len-common.result ≤ w = let low = c.common_len-common.ensures.low in let le = c.prefix_len-len.ensures in let top =
    law.place_ok.len_fits in omega (arith, low, le, top) in (
      subst (IsNet w) e (masked_net w c.common_len-common.result (g.V.P.Number.KeyBits.number c.key-key.result) fits
          (subst (λ b. b < 2 ^ w) (sym c.key-key.ensures) law.place_ok.bits_fit)),
      (c.requires.usable, whole.left),
      (c.requires.other, whole.right),
      c.either_data.ensures,
      c.either_children.ensures,
    )

pub returns-clause-place : goal.returns-clause-place
returns-clause-place g c =
    let w : ℕ = g.V.P.Number.KeyBits.width in
    let p = place_is (g.V.TrieView.told c.args.self).place (g.V.P.Number.KeyBits.number c.key-key.result) c.prefix_len-len.result c.key-key.ensures
    c.prefix_len-len.ensures in
    let q = place_is (g.R.TrieView.told c.args.other).place (g.V.P.Number.KeyBits.number c.key-other_key.result) c.prefix_len-other_len.result
    c.key-other_key.ensures c.prefix_len-other_len.ensures in
    let cm = c.common_len-common.ensures.common in
    let at : Net = record { bits = masked w (g.V.P.Number.KeyBits.number c.key-key.result) c.common_len-common.result; len = c.common_len-common.result } in
    let place : Net = record { bits = g.V.P.Number.KeyBits.number c.first_bits-common_key.result; len = c.common_len-common.result } in
    let e : at ≡ place = let f : ℕ → Net = λ b. record { bits = b; len = c.common_len-common.result } in ap f (sym c.first_bits-common_key.ensures) in
    let whole : IsLongestCommon w (g.V.TrieView.told c.args.self).place (g.R.TrieView.told c.args.other).place place =
    subst (λ n. IsLongestCommon w (g.V.TrieView.told c.args.self).place (g.R.TrieView.told c.args.other).place n) e
    (subst (λ n. IsLongestCommon w (g.V.TrieView.told c.args.self).place n at) q (subst (λ n. IsLongestCommon w n (record {
      bits =
          g.V.P.Number.KeyBits.number c.key-other_key.result;
      len = c.prefix_len-other_len.result;
    }) at) p cm)) in
    whole

pub returns-clause-pairs : goal.returns-clause-pairs
returns-clause-pairs g c = λ n z. union_made g.V.TrieView.told g.R.TrieView.told c.args.self c.args.other n z
