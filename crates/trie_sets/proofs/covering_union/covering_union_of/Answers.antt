use Rattle.std.proofs.Common.{rules}
use Rattle.std.proofs.Common.{◌≡◌, ℕ, ◌^◌, ◌<◌, ◌≤◌, arith, sym, ap, subst, refl, Some, None}
use Rattle.std.specs.Prelude.{◌↔◌}
use Rattle.trie_model.specs.Nets.{Net, IsNet, masked}
use Rattle.trie_model.specs.Views.{depth_at}
use Rattle.trie_model.proofs.MaskLaws.{masked_net}
use Rattle.view_model.specs.Sides.{IsAlignedSide}
use Rattle.view_model.specs.Union.{IsLongestCommon}
use Rattle.view_model.specs.CoveringUnion.{WithPrefixes, covering_at, covering_pairs}
use Rattle.view_model.proofs.SideLaws.{side_in_ok, side_room}
use Rattle.trie_model.proofs.Places.{place_is}
use Rattle.view_model.proofs.CoveringUnionMade.{covering_made}
use Rattle.trie_sets.proofs.covering_union.covering_union_of.Goals as goal

pub either_data-requires : goal.either_data-requires
either_data-requires g c κs = ((refl, tt), (c.requires.left, c.requires.right))

pub either_children-requires : goal.either_children-requires
either_children-requires g c κs =
    let w : ℕ = g.L.P.Number.KeyBits.width in
    let p = place_is (g.L.TrieView.told c.args.left).place (g.L.P.Number.KeyBits.number c.key-key.result) c.prefix_len-len.result c.key-key.ensures
    c.prefix_len-len.ensures in
    let q = place_is (g.R.TrieView.told c.args.right).place (g.L.P.Number.KeyBits.number c.key-other_key.result) c.prefix_len-other_len.result
    c.key-other_key.ensures c.prefix_len-other_len.ensures in
    let cm = c.common_len-common.ensures.common in
    let at : Net = record { bits = masked w (g.L.P.Number.KeyBits.number c.key-key.result) c.common_len-common.result; len = c.common_len-common.result } in
    let place : Net = record { bits = g.L.P.Number.KeyBits.number c.first_bits-common_key.result; len = c.common_len-common.result } in
    let e : at ≡ place = let f : ℕ → Net = λ b. record { bits = b; len = c.common_len-common.result } in ap f (sym c.first_bits-common_key.ensures) in
    let whole : IsLongestCommon w (g.L.TrieView.told c.args.left).place (g.R.TrieView.told c.args.right).place place =
    subst (λ n. IsLongestCommon w (g.L.TrieView.told c.args.left).place (g.R.TrieView.told c.args.right).place n) e
    (subst (λ n. IsLongestCommon w (g.L.TrieView.told c.args.left).place n at) q (subst (λ n. IsLongestCommon w n (record {
      bits =
          g.L.P.Number.KeyBits.number c.key-other_key.result;
      len = c.prefix_len-other_len.result;
    }) at) p cm)) in
    let law_l = (g.met.L.TrieView c.lifetimes (search rules)).laws in
    let law_r = (g.met.R.TrieView c.lifetimes (search rules)).laws in (
      (refl, tt),
      (
        c.requires.left,
        (
          c.requires.right,
          (
            side_room w g.L.TrieView.valid g.L.TrieView.told law_l place _ (Some c.args.left) refl
                (side_in_ok w g.L.TrieView.valid g.L.TrieView.told law_l place (Some c.args.left) (c.requires.left, whole.left)),
            side_room w g.R.TrieView.valid g.R.TrieView.told law_r place _ (Some c.args.right) refl
                (side_in_ok w g.R.TrieView.valid g.R.TrieView.told law_r place (Some c.args.right) (c.requires.right, whole.right)),
          ),
        ),
      ),
    )

pub returns-clause-usable : goal.returns-clause-usable
returns-clause-usable g c =
    let w : ℕ = g.L.P.Number.KeyBits.width in
    let p = place_is (g.L.TrieView.told c.args.left).place (g.L.P.Number.KeyBits.number c.key-key.result) c.prefix_len-len.result c.key-key.ensures
    c.prefix_len-len.ensures in
    let q = place_is (g.R.TrieView.told c.args.right).place (g.L.P.Number.KeyBits.number c.key-other_key.result) c.prefix_len-other_len.result
    c.key-other_key.ensures c.prefix_len-other_len.ensures in
    let cm = c.common_len-common.ensures.common in
    let at : Net = record { bits = masked w (g.L.P.Number.KeyBits.number c.key-key.result) c.common_len-common.result; len = c.common_len-common.result } in
    let place : Net = record { bits = g.L.P.Number.KeyBits.number c.first_bits-common_key.result; len = c.common_len-common.result } in
    let e : at ≡ place = let f : ℕ → Net = λ b. record { bits = b; len = c.common_len-common.result } in ap f (sym c.first_bits-common_key.ensures) in
    let whole : IsLongestCommon w (g.L.TrieView.told c.args.left).place (g.R.TrieView.told c.args.right).place place =
    subst (λ n. IsLongestCommon w (g.L.TrieView.told c.args.left).place (g.R.TrieView.told c.args.right).place n) e
    (subst (λ n. IsLongestCommon w (g.L.TrieView.told c.args.left).place n at) q (subst (λ n. IsLongestCommon w n (record {
      bits =
          g.L.P.Number.KeyBits.number c.key-other_key.result;
      len = c.prefix_len-other_len.result;
    }) at) p cm)) in
    let law = (g.met.L.TrieView c.lifetimes (search rules)).laws c.args.left c.requires.left in
    let fits : c.common_len-common.result ≤ w = let low = c.common_len-common.ensures.low in let le = c.prefix_len-len.ensures in let top =
    law.place_ok.len_fits in omega (arith, low, le, top) in (
      subst (IsNet w) e (masked_net w c.common_len-common.result (g.L.P.Number.KeyBits.number c.key-key.result) fits
          (subst (λ b. b < 2 ^ w) (sym c.key-key.ensures) law.place_ok.bits_fit)),
      (c.requires.left, whole.left),
      (c.requires.right, whole.right),
      subst (λ v. IsAlignedSide g.L.TrieView.valid g.L.TrieView.told w place (Some v)) (sym c.in_ok-left_all.ensures.equal)
          (side_in_ok w g.L.TrieView.valid g.L.TrieView.told (g.met.L.TrieView c.lifetimes (search rules)).laws place (Some c.args.left)
          (c.requires.left, whole.left)),
      subst (λ v. IsAlignedSide g.R.TrieView.valid g.R.TrieView.told w place (Some v)) (sym c.in_ok-right_all.ensures.equal)
          (side_in_ok w g.R.TrieView.valid g.R.TrieView.told (g.met.R.TrieView c.lifetimes (search rules)).laws place (Some c.args.right)
          (c.requires.right, whole.right)),
      tt,
      tt,
      c.either_data.ensures,
      c.either_children.ensures,
    )

pub returns-clause-place : goal.returns-clause-place
returns-clause-place g c =
    let w : ℕ = g.L.P.Number.KeyBits.width in
    let p = place_is (g.L.TrieView.told c.args.left).place (g.L.P.Number.KeyBits.number c.key-key.result) c.prefix_len-len.result c.key-key.ensures
    c.prefix_len-len.ensures in
    let q = place_is (g.R.TrieView.told c.args.right).place (g.L.P.Number.KeyBits.number c.key-other_key.result) c.prefix_len-other_len.result
    c.key-other_key.ensures c.prefix_len-other_len.ensures in
    let cm = c.common_len-common.ensures.common in
    let at : Net = record { bits = masked w (g.L.P.Number.KeyBits.number c.key-key.result) c.common_len-common.result; len = c.common_len-common.result } in
    let place : Net = record { bits = g.L.P.Number.KeyBits.number c.first_bits-common_key.result; len = c.common_len-common.result } in
    let e : at ≡ place = let f : ℕ → Net = λ b. record { bits = b; len = c.common_len-common.result } in ap f (sym c.first_bits-common_key.ensures) in
    let whole : IsLongestCommon w (g.L.TrieView.told c.args.left).place (g.R.TrieView.told c.args.right).place place =
    subst (λ n. IsLongestCommon w (g.L.TrieView.told c.args.left).place (g.R.TrieView.told c.args.right).place n) e
    (subst (λ n. IsLongestCommon w (g.L.TrieView.told c.args.left).place n at) q (subst (λ n. IsLongestCommon w n (record {
      bits =
          g.L.P.Number.KeyBits.number c.key-other_key.result;
      len = c.prefix_len-other_len.result;
    }) at) p cm)) in
    whole

pub returns-clause-pairs : goal.returns-clause-pairs
returns-clause-pairs g c = λ n z.
    let w : ℕ = g.L.P.Number.KeyBits.width in
    let net = g.L.P.PlainPrefix.net in
    let raw = g.L.P.PlainPrefix.raw in
    let d : ℕ = depth_at c.common_len-common.result in
    let pairs = covering_pairs w net raw (g.L.TrieView.told c.args.left) (g.R.TrieView.told c.args.right) n z in
    let made = covering_made w net raw g.met.L.P.PlainPrefix.net_onto g.L.TrieView.told g.R.TrieView.told d c.args.left c.args.right n z in
    subst (λ v. ((y : _) × covering_at w g.L.TrieView.told g.R.TrieView.told d (Some c.args.left) (Some c.args.right) (record {
      all = Some v;
      above =
          None;
    }) (record { all = Some c.in_ok-right_all.right_all; above = None }) n y × WithPrefixes net raw y z) ↔ pairs) (sym c.in_ok-left_all.ensures.equal)
    (subst (λ v. ((y : _) × covering_at w g.L.TrieView.told g.R.TrieView.told d (Some c.args.left) (Some c.args.right) (record {
      all =
          Some c.args.left;
      above = None;
    }) (record { all = Some v; above = None }) n y × WithPrefixes net raw y z) ↔ pairs) (sym c.in_ok-right_all.ensures.equal)
    made)
