use Rattle.std.proofs.Common.{rules}
use Rattle.std.proofs.Common.{◌≡◌, ◌∙◌, ℕ, ◌≤◌, arith, sym, ap, subst, refl}
use Rattle.trie_model.specs.Nets.{Net, IsNet, masked}
use Rattle.trie_model.specs.Tries.{Cleared}
use Rattle.trie_model.specs.Views.{data_net, depth_at}
use Rattle.trie_model.proofs.Places.{bit_below, covers_way, depth_le, level_le}
use Rattle.view_model.specs.CoveringUnion.{InNode, WithLongest, pair_value}
use Rattle.view_model.proofs.SideLaws.{in_valid, side_valid}
use Rattle.trie_model.proofs.Places.{place_is}
use Rattle.view_model.proofs.UnionLaws.{some_side, union_item, union_laws, union_took}
use Rattle.view_model.proofs.CoveringUnionLaws.{covering_took}
use Rattle.view_model.proofs.CoveringUnionMade.{covering_item}
use Rattle.view_model.specs.CoveringUnion.{WithPrefixes, covering_value}
use Rattle.view_model.proofs.CoveringItems.{prefixes_of}
use Rattle.view_model.proofs.ThroughLaws.{through_took}
use Rattle.trie_sets.proofs.KeptBits.{data_left}
use Rattle.trie_sets.proofs.covering_union.CoveringUnionViewPTTTrieView.get_data.Goals as goal

pub side_take-requires : goal.side_take-requires
side_take-requires g c κs =
    let w : ℕ = g.L.P.Number.KeyBits.width in
    let place : Net = record { bits = g.L.P.Number.KeyBits.number c.args.self.now.key; len = c.args.self.now.len } in
    let base = union_laws w g.L.TrieView.valid g.L.TrieView.told (g.met.L.TrieView c.lifetimes (search rules)).laws g.R.TrieView.valid
    g.R.TrieView.told (g.met.R.TrieView c.lifetimes (search rules)).laws place c.args.self.now.left c.args.self.now.right c.requires.usable.0
    c.requires.usable.1 c.requires.usable.2 in (
      (refl, tt),
      (
        in_valid w g.L.TrieView.valid g.L.TrieView.told place c.args.self.now.left c.requires.usable.1,
        bit_below 31 _ c.args.bit base.data_fit c.requires.set,
      ),
    )

pub side_take-requires-2 : goal.side_take-requires-2
side_take-requires-2 g c κs =
    let w : ℕ = g.L.P.Number.KeyBits.width in
    let place : Net = record { bits = g.L.P.Number.KeyBits.number c.args.self.now.key; len = c.args.self.now.len } in
    let base = union_laws w g.L.TrieView.valid g.L.TrieView.told (g.met.L.TrieView c.lifetimes (search rules)).laws g.R.TrieView.valid
    g.R.TrieView.told (g.met.R.TrieView c.lifetimes (search rules)).laws place c.args.self.now.left c.args.self.now.right c.requires.usable.0
    c.requires.usable.1 c.requires.usable.2 in (
      (refl, tt),
      (
        in_valid w g.R.TrieView.valid g.R.TrieView.told place c.args.self.now.right c.requires.usable.2,
        bit_below 31 _ c.args.bit base.data_fit c.requires.set,
      ),
    )

pub reconstruct_prefix-prefix-requires-clause-bit : goal.reconstruct_prefix-prefix-requires-clause-bit
reconstruct_prefix-prefix-requires-clause-bit g c =
    let w : ℕ = g.L.P.Number.KeyBits.width in
    let place : Net = record { bits = g.L.P.Number.KeyBits.number c.args.self.now.key; len = c.args.self.now.len } in
    let base = union_laws w g.L.TrieView.valid g.L.TrieView.told (g.met.L.TrieView c.lifetimes (search rules)).laws g.R.TrieView.valid
    g.R.TrieView.told (g.met.R.TrieView c.lifetimes (search rules)).laws place c.args.self.now.left c.args.self.now.right c.requires.usable.0
    c.requires.usable.1 c.requires.usable.2 in
    bit_below 31 _ c.args.bit base.data_fit c.requires.set

pub reconstruct_prefix-prefix-requires-clause-end : goal.reconstruct_prefix-prefix-requires-clause-end
reconstruct_prefix-prefix-requires-clause-end g c =
    let w : ℕ = g.L.P.Number.KeyBits.width in
    let place : Net = record { bits = g.L.P.Number.KeyBits.number c.args.self.now.key; len = c.args.self.now.len } in
    let base = union_laws w g.L.TrieView.valid g.L.TrieView.told (g.met.L.TrieView c.lifetimes (search rules)).laws g.R.TrieView.valid
    g.R.TrieView.told (g.met.R.TrieView c.lifetimes (search rules)).laws place c.args.self.now.left c.args.self.now.right c.requires.usable.0
    c.requires.usable.1 c.requires.usable.2 in
    let small = bit_below 31 _ c.args.bit base.data_fit c.requires.set in
    let has = base.told c.args.bit small c.requires.set in
    let there = base.pairs (data_net w place c.args.bit) has.0 has.1 in
    there.0.len_fits

pub number-key-requires : goal.number-key-requires
number-key-requires g c =
    let w : ℕ = g.L.P.Number.KeyBits.width in
    let place : Net = record { bits = g.L.P.Number.KeyBits.number c.args.self.now.key; len = c.args.self.now.len } in
    let base = union_laws w g.L.TrieView.valid g.L.TrieView.told (g.met.L.TrieView c.lifetimes (search rules)).laws g.R.TrieView.valid
    g.R.TrieView.told (g.met.R.TrieView c.lifetimes (search rules)).laws place c.args.self.now.left c.args.self.now.right c.requires.usable.0
    c.requires.usable.1 c.requires.usable.2 in
    let small = bit_below 31 _ c.args.bit base.data_fit c.requires.set in
    let has = base.told c.args.bit small c.requires.set in
    let there = base.pairs (data_net w place c.args.bit) has.0 has.1 in
    subst (λ n. n.len ≤ w) (sym c.reconstruct_prefix-prefix.ensures.net) there.0.len_fits

pub without-self-requires : goal.without-self-requires
without-self-requires g c =
    let w : ℕ = g.L.P.Number.KeyBits.width in
    let place : Net = record { bits = g.L.P.Number.KeyBits.number c.args.self.now.key; len = c.args.self.now.len } in
    let base = union_laws w g.L.TrieView.valid g.L.TrieView.told (g.met.L.TrieView c.lifetimes (search rules)).laws g.R.TrieView.valid
    g.R.TrieView.told (g.met.R.TrieView c.lifetimes (search rules)).laws place c.args.self.now.left c.args.self.now.right c.requires.usable.0
    c.requires.usable.1 c.requires.usable.2 in
    let small = bit_below 31 _ c.args.bit base.data_fit c.requires.set in
    omega (arith, small)

pub join-requires : goal.join-requires
join-requires g c =
    let w : ℕ = g.L.P.Number.KeyBits.width in
    let place : Net = record { bits = g.L.P.Number.KeyBits.number c.args.self.now.key; len = c.args.self.now.len } in
    let took_l = c.in_ok-left.ensures.took place refl c.requires.usable.1 in
    let took_r = c.in_ok-right.ensures.took place refl c.requires.usable.2 in
    some_side w c.args.bit g.L.TrieView.valid g.L.TrieView.told (g.met.L.TrieView c.lifetimes (search rules)).laws g.L.TrieView.item
    g.R.TrieView.valid g.R.TrieView.told (g.met.R.TrieView c.lifetimes (search rules)).laws g.R.TrieView.item place c.args.self.now.left
    c.args.self.now.right c.requires.usable.0 c.requires.usable.1 c.requires.usable.2 c.requires.set c.in_ok-left.left c.in_ok-right.right
    took_l.has took_r.has

pub with_longest-requires : goal.with_longest-requires
with_longest-requires g c κs =
    let w : ℕ = g.L.P.Number.KeyBits.width in
    let place : Net = record { bits = g.L.P.Number.KeyBits.number c.args.self.now.key; len = c.args.self.now.len } in
    let base = union_laws w g.L.TrieView.valid g.L.TrieView.told (g.met.L.TrieView c.lifetimes (search rules)).laws g.R.TrieView.valid
    g.R.TrieView.told (g.met.R.TrieView c.lifetimes (search rules)).laws place c.args.self.now.left c.args.self.now.right c.requires.usable.0
    c.requires.usable.1 c.requires.usable.2 in
    let small = bit_below 31 _ c.args.bit base.data_fit c.requires.set in
    let has = base.told c.args.bit small c.requires.set in
    let there = base.pairs (data_net w place c.args.bit) has.0 has.1 in
    let e : record { bits = g.L.P.Number.KeyBits.number c.number-key.result; len = c.length-len.result } ≡ data_net w place c.args.bit =
    place_is (g.L.P.PlainPrefix.net c.reconstruct_prefix-prefix.result) (g.L.P.Number.KeyBits.number c.number-key.result) c.length-len.result
    c.number-key.ensures.bits c.length-len.ensures ∙ c.reconstruct_prefix-prefix.ensures.net in (
      (refl, tt),
      (
        side_valid w g.L.TrieView.valid g.L.TrieView.told place c.args.self.now.left_all c.requires.usable.3,
        (
          side_valid w g.R.TrieView.valid g.R.TrieView.told place c.args.self.now.right_all c.requires.usable.4,
          (subst (IsNet w) (sym e) there.0, ((let l = ap (λ n. n.len) e in omega (arith, l)), (c.requires.usable.5, c.requires.usable.6))),
        ),
      ),
    )

pub returns-clause-data : goal.returns-clause-data
returns-clause-data g c =
    let w : ℕ = g.L.P.Number.KeyBits.width in
    let place : Net = record { bits = g.L.P.Number.KeyBits.number c.args.self.now.key; len = c.args.self.now.len } in
    let base = union_laws w g.L.TrieView.valid g.L.TrieView.told (g.met.L.TrieView c.lifetimes (search rules)).laws g.R.TrieView.valid
    g.R.TrieView.told (g.met.R.TrieView c.lifetimes (search rules)).laws place c.args.self.now.left c.args.self.now.right c.requires.usable.0
    c.requires.usable.1 c.requires.usable.2 in
    let small = bit_below 31 _ c.args.bit base.data_fit c.requires.set in
    let has = base.told c.args.bit small c.requires.set in
    let there = base.pairs (data_net w place c.args.bit) has.0 has.1 in
    let e : record { bits = g.L.P.Number.KeyBits.number c.number-key.result; len = c.length-len.result } ≡ data_net w place c.args.bit =
    place_is (g.L.P.PlainPrefix.net c.reconstruct_prefix-prefix.result) (g.L.P.Number.KeyBits.number c.number-key.result) c.length-len.result
    c.number-key.ensures.bits c.length-len.ensures ∙ c.reconstruct_prefix-prefix.ensures.net in
    let took_l = c.in_ok-left.ensures.took place refl c.requires.usable.1 in
    let took_r = c.in_ok-right.ensures.took place refl c.requires.usable.2 in
    let way : masked w (g.L.P.Number.KeyBits.number c.number-key.result) (depth_at place.len) ≡ masked w place.bits (depth_at place.len) =
    ap (λ n. masked w n.bits (depth_at place.len)) e ∙
    covers_way w (depth_at place.len) place (data_net w place c.args.bit) c.requires.usable.0.len_fits (depth_le place.len) there.1 in (
      covering_value g.L.P.PlainPrefix.net g.L.TrieView.item g.R.TrieView.item c.in_ok-item.item,
      covering_item w g.L.P.PlainPrefix.net g.L.TrieView.item g.R.TrieView.item g.L.TrieView.told g.R.TrieView.told (depth_at place.len)
          c.args.self.now.left c.args.self.now.right c.args.self.now.left_all c.args.self.now.right_all c.args.self.now.left_above
          c.args.self.now.right_above (data_net w place c.args.bit) (let l = level_le c.args.bit in omega (arith, l)) c.join.result c.in_ok-item.item
          (union_item g.L.TrieView.told g.L.TrieView.item g.R.TrieView.told g.R.TrieView.item (data_net w place c.args.bit) c.args.self.now.left
          c.args.self.now.right c.in_ok-left.left c.in_ok-right.right c.join.result took_l.has took_r.has c.join.ensures)
          (subst (λ n. WithLongest w g.L.P.PlainPrefix.net g.L.TrieView.item g.R.TrieView.item
          (InNode g.L.TrieView.told c.args.self.now.left_all (depth_at place.len))
          (InNode g.R.TrieView.told c.args.self.now.right_all (depth_at place.len)) c.args.self.now.left_above c.args.self.now.right_above n
          c.join.result c.in_ok-item.item) e (c.in_ok-item.ensures.with_longest place refl c.requires.usable.3 c.requires.usable.4 way)),
      prefixes_of g.L.P.PlainPrefix.net g.L.P.PlainPrefix.raw g.L.TrieView.item g.R.TrieView.item c.in_ok-item.item c.in_ok-item.ensures.plain,
    )

pub returns-clause-usable : goal.returns-clause-usable
returns-clause-usable g c =
    let w : ℕ = g.L.P.Number.KeyBits.width in
    let place : Net = record { bits = g.L.P.Number.KeyBits.number c.args.self.now.key; len = c.args.self.now.len } in
    let took_l = c.in_ok-left.ensures.took place refl c.requires.usable.1 in
    let took_r = c.in_ok-right.ensures.took place refl c.requires.usable.2 in
    let base = union_laws w g.L.TrieView.valid g.L.TrieView.told (g.met.L.TrieView c.lifetimes (search rules)).laws g.R.TrieView.valid
    g.R.TrieView.told (g.met.R.TrieView c.lifetimes (search rules)).laws place c.args.self.now.left c.args.self.now.right c.requires.usable.0
    c.requires.usable.1 c.requires.usable.2 in
    let after = union_laws w g.L.TrieView.valid g.L.TrieView.told (g.met.L.TrieView c.lifetimes (search rules)).laws g.R.TrieView.valid
    g.R.TrieView.told (g.met.R.TrieView c.lifetimes (search rules)).laws place c.side_take.new.side c.side_take-2.new.side c.requires.usable.0
    took_l.inside took_r.inside in
    let took = union_took w c.args.bit g.L.TrieView.valid g.L.TrieView.told g.L.TrieView.item g.R.TrieView.valid g.R.TrieView.told g.R.TrieView.item
    place c.args.self.now.left c.side_take.new.side c.args.self.now.right c.side_take-2.new.side c.in_ok-left.left c.in_ok-right.right took_l took_r in
    let kept = data_left w c.args.bit _ _ _ base after took c.requires.set
    (subst (λ m. Cleared c.args.bit m c.without-self.result) c.requires.usable.7 c.without-self.ensures) in (
      c.requires.usable.0,
      took_l.inside,
      took_r.inside,
      c.requires.usable.3,
      c.requires.usable.4,
      c.requires.usable.5,
      c.requires.usable.6,
      kept,
      c.requires.usable.8 ∙ sym took.child_bits,
    )

pub returns-clause-rest : goal.returns-clause-rest
returns-clause-rest g c =
    let w : ℕ = g.L.P.Number.KeyBits.width in
    let place : Net = record { bits = g.L.P.Number.KeyBits.number c.args.self.now.key; len = c.args.self.now.len } in
    let base = union_laws w g.L.TrieView.valid g.L.TrieView.told (g.met.L.TrieView c.lifetimes (search rules)).laws g.R.TrieView.valid
    g.R.TrieView.told (g.met.R.TrieView c.lifetimes (search rules)).laws place c.args.self.now.left c.args.self.now.right c.requires.usable.0
    c.requires.usable.1 c.requires.usable.2 in
    let took_l = c.in_ok-left.ensures.took place refl c.requires.usable.1 in
    let took_r = c.in_ok-right.ensures.took place refl c.requires.usable.2 in
    through_took w c.args.bit (WithPrefixes g.L.P.PlainPrefix.net g.L.P.PlainPrefix.raw) _ _
    (covering_took w c.args.bit g.L.TrieView.valid g.L.TrieView.told g.L.TrieView.item g.R.TrieView.valid g.R.TrieView.told g.R.TrieView.item
    place c.args.self.now.left c.side_take.new.side c.args.self.now.right c.side_take-2.new.side (record {
      all = c.args.self.now.left_all;
      above =
          pair_value g.L.P.PlainPrefix.net g.L.TrieView.item c.args.self.now.left_above;
    }) (record {
      all = c.args.self.now.right_all;
      above =
          pair_value g.L.P.PlainPrefix.net g.R.TrieView.item c.args.self.now.right_above;
    }) c.in_ok-left.left c.in_ok-right.right base took_l took_r)
