use Rattle.std.proofs.Common.{rules}
use Rattle.std.proofs.Common.{◌≡◌, ◌∙◌, ℕ, ◌+◌, ◌*◌, ◌/◌, ◌&&◌, arith, sym, ap, subst, refl}
use Rattle.trie_model.specs.Nets.{Net, IsNet, masked}
use Rattle.trie_model.specs.Tries.{Cleared}
use Rattle.trie_model.specs.Views.{IsChild, child_net, depth_at}
use Rattle.trie_model.proofs.Places.{bit_below, depth_below, and_left, and_right, elim-false}
use Rattle.trie_model.proofs.NodeLaws.{child_is_net, level_inside}
use Rattle.view_model.specs.Sides.{IsInnerSide, IsAlignedSide, side_frugal}
use Rattle.view_model.specs.CoveringUnion.{InNode, Longest, covering_told, pair_value}
use Rattle.view_model.specs.Union.{either_child_bits, either_data_bits}
use Rattle.view_model.proofs.SideLaws.{in_valid, side_in_ok, side_room, side_valid}
use Rattle.view_model.proofs.UnionLaws.{union_laws, union_took_child}
use Rattle.view_model.proofs.CoveringUnionLaws.{covering_took_child}
use Rattle.view_model.proofs.CoveringUnionMade.{covering_child}
use Rattle.view_model.proofs.ThroughLaws.{through_child, through_took_child}
use Rattle.view_model.specs.CoveringUnion.{WithPrefixes}
use Rattle.trie_sets.proofs.KeptBits.{children_left}
use Rattle.trie_sets.proofs.covering_union.CoveringUnionViewPTTTrieView.get_child.Goals as goal

pub extend_repr-key-requires-clause-depth : goal.extend_repr-key-requires-clause-depth
extend_repr-key-requires-clause-depth g c =
    let w : ℕ = g.L.P.Number.KeyBits.width in
    let place : Net = record { bits = g.L.P.Number.KeyBits.number c.args.self.now.key; len = c.args.self.now.len } in
    let base = union_laws w g.L.TrieView.valid g.L.TrieView.told (g.met.L.TrieView c.lifetimes (search rules)).laws g.R.TrieView.valid
    g.R.TrieView.told (g.met.R.TrieView c.lifetimes (search rules)).laws place c.args.self.now.left c.args.self.now.right c.requires.usable.0
    c.requires.usable.1 c.requires.usable.2 in
    base.deep c.args.bit c.requires.set

pub extend_repr-key-requires-clause-child : goal.extend_repr-key-requires-clause-child
extend_repr-key-requires-clause-child g c =
    let w : ℕ = g.L.P.Number.KeyBits.width in
    let place : Net = record { bits = g.L.P.Number.KeyBits.number c.args.self.now.key; len = c.args.self.now.len } in
    let base = union_laws w g.L.TrieView.valid g.L.TrieView.told (g.met.L.TrieView c.lifetimes (search rules)).laws g.R.TrieView.valid
    g.R.TrieView.told (g.met.R.TrieView c.lifetimes (search rules)).laws place c.args.self.now.left c.args.self.now.right c.requires.usable.0
    c.requires.usable.1 c.requires.usable.2 in
    bit_below 32 _ c.args.bit base.children_fit c.requires.set

pub longest_here-requires : goal.longest_here-requires
longest_here-requires g c κs =
    let w : ℕ = g.L.P.Number.KeyBits.width in
    let place : Net = record { bits = g.L.P.Number.KeyBits.number c.args.self.now.key; len = c.args.self.now.len } in
    let base = union_laws w g.L.TrieView.valid g.L.TrieView.told (g.met.L.TrieView c.lifetimes (search rules)).laws g.R.TrieView.valid
    g.R.TrieView.told (g.met.R.TrieView c.lifetimes (search rules)).laws place c.args.self.now.left c.args.self.now.right c.requires.usable.0
    c.requires.usable.1 c.requires.usable.2 in
    let deep = base.deep c.args.bit c.requires.set in
    let small = bit_below 32 _ c.args.bit base.children_fit c.requires.set in
    let at : Net = record { bits = g.L.P.Number.KeyBits.number c.extend_repr-key.result; len = c.args.self.now.len / 5 * 5 + 5 } in
    let e : child_net w place c.args.bit ≡ at = let f : ℕ → Net = λ b. record { bits = b; len = c.args.self.now.len / 5 * 5 + 5 } in
    ap f (sym c.extend_repr-key.ensures) in (
      (refl, tt),
      (
        side_valid w g.L.TrieView.valid g.L.TrieView.told place c.args.self.now.left_all c.requires.usable.3,
        (subst (IsNet w) e (child_is_net w place c.args.bit c.requires.usable.0.bits_fit small deep), (omega arith, c.requires.usable.5)),
      ),
    )

pub longest_here-requires-2 : goal.longest_here-requires-2
longest_here-requires-2 g c κs =
    let w : ℕ = g.L.P.Number.KeyBits.width in
    let place : Net = record { bits = g.L.P.Number.KeyBits.number c.args.self.now.key; len = c.args.self.now.len } in
    let base = union_laws w g.L.TrieView.valid g.L.TrieView.told (g.met.L.TrieView c.lifetimes (search rules)).laws g.R.TrieView.valid
    g.R.TrieView.told (g.met.R.TrieView c.lifetimes (search rules)).laws place c.args.self.now.left c.args.self.now.right c.requires.usable.0
    c.requires.usable.1 c.requires.usable.2 in
    let deep = base.deep c.args.bit c.requires.set in
    let small = bit_below 32 _ c.args.bit base.children_fit c.requires.set in
    let at : Net = record { bits = g.L.P.Number.KeyBits.number c.extend_repr-key.result; len = c.args.self.now.len / 5 * 5 + 5 } in
    let e : child_net w place c.args.bit ≡ at = let f : ℕ → Net = λ b. record { bits = b; len = c.args.self.now.len / 5 * 5 + 5 } in
    ap f (sym c.extend_repr-key.ensures) in (
      (refl, tt),
      (
        side_valid w g.R.TrieView.valid g.R.TrieView.told place c.args.self.now.right_all c.requires.usable.4,
        (subst (IsNet w) e (child_is_net w place c.args.bit c.requires.usable.0.bits_fit small deep), (omega arith, c.requires.usable.6)),
      ),
    )

pub side_child-requires : goal.side_child-requires
side_child-requires g c κs =
    let w : ℕ = g.L.P.Number.KeyBits.width in
    let place : Net = record { bits = g.L.P.Number.KeyBits.number c.args.self.now.key; len = c.args.self.now.len } in
    let base = union_laws w g.L.TrieView.valid g.L.TrieView.told (g.met.L.TrieView c.lifetimes (search rules)).laws g.R.TrieView.valid
    g.R.TrieView.told (g.met.R.TrieView c.lifetimes (search rules)).laws place c.args.self.now.left c.args.self.now.right c.requires.usable.0
    c.requires.usable.1 c.requires.usable.2 in
    let deep = base.deep c.args.bit c.requires.set in
    let small = bit_below 32 _ c.args.bit base.children_fit c.requires.set in
    ((refl, tt), (in_valid w g.L.TrieView.valid g.L.TrieView.told place c.args.self.now.left c.requires.usable.1, (deep, small)))

pub side_child-requires-2 : goal.side_child-requires-2
side_child-requires-2 g c κs =
    let w : ℕ = g.L.P.Number.KeyBits.width in
    let place : Net = record { bits = g.L.P.Number.KeyBits.number c.args.self.now.key; len = c.args.self.now.len } in
    let base = union_laws w g.L.TrieView.valid g.L.TrieView.told (g.met.L.TrieView c.lifetimes (search rules)).laws g.R.TrieView.valid
    g.R.TrieView.told (g.met.R.TrieView c.lifetimes (search rules)).laws place c.args.self.now.left c.args.self.now.right c.requires.usable.0
    c.requires.usable.1 c.requires.usable.2 in
    let deep = base.deep c.args.bit c.requires.set in
    let small = bit_below 32 _ c.args.bit base.children_fit c.requires.set in
    ((refl, tt), (in_valid w g.R.TrieView.valid g.R.TrieView.told place c.args.self.now.right c.requires.usable.2, (deep, small)))

pub without-self-requires : goal.without-self-requires
without-self-requires g c =
    let w : ℕ = g.L.P.Number.KeyBits.width in
    let place : Net = record { bits = g.L.P.Number.KeyBits.number c.args.self.now.key; len = c.args.self.now.len } in
    let base = union_laws w g.L.TrieView.valid g.L.TrieView.told (g.met.L.TrieView c.lifetimes (search rules)).laws g.R.TrieView.valid
    g.R.TrieView.told (g.met.R.TrieView c.lifetimes (search rules)).laws place c.args.self.now.left c.args.self.now.right c.requires.usable.0
    c.requires.usable.1 c.requires.usable.2 in
    bit_below 32 _ c.args.bit base.children_fit c.requires.set

pub either_data-requires : goal.either_data-requires
either_data-requires g c κs =
    let w : ℕ = g.L.P.Number.KeyBits.width in
    let place : Net = record { bits = g.L.P.Number.KeyBits.number c.args.self.now.key; len = c.args.self.now.len } in
    let split_l = c.in_ok-left.ensures.split place refl
    (side_in_ok w g.L.TrieView.valid g.L.TrieView.told (g.met.L.TrieView c.lifetimes (search rules)).laws place c.args.self.now.left c.requires.usable.1) in
    let split_r = c.in_ok-right.ensures.split place refl
    (side_in_ok w g.R.TrieView.valid g.R.TrieView.told (g.met.R.TrieView c.lifetimes (search rules)).laws place c.args.self.now.right
    c.requires.usable.2) in (
      (refl, tt),
      (
        in_valid w g.L.TrieView.valid g.L.TrieView.told (child_net w place c.args.bit) c.in_ok-left.left split_l.child_in,
        in_valid w g.R.TrieView.valid g.R.TrieView.told (child_net w place c.args.bit) c.in_ok-right.right split_r.child_in,
      ),
    )

pub either_children-requires : goal.either_children-requires
either_children-requires g c κs =
    let w : ℕ = g.L.P.Number.KeyBits.width in
    let place : Net = record { bits = g.L.P.Number.KeyBits.number c.args.self.now.key; len = c.args.self.now.len } in
    let law_l = (g.met.L.TrieView c.lifetimes (search rules)).laws in
    let law_r = (g.met.R.TrieView c.lifetimes (search rules)).laws in
    let below : Net = child_net w place c.args.bit in
    let split_l = c.in_ok-left.ensures.split place refl
    (side_in_ok w g.L.TrieView.valid g.L.TrieView.told law_l place c.args.self.now.left c.requires.usable.1) in
    let split_r = c.in_ok-right.ensures.split place refl
    (side_in_ok w g.R.TrieView.valid g.R.TrieView.told law_r place c.args.self.now.right c.requires.usable.2) in
    let ok_l = side_in_ok w g.L.TrieView.valid g.L.TrieView.told law_l below c.in_ok-left.left split_l.child_in in
    let ok_r = side_in_ok w g.R.TrieView.valid g.R.TrieView.told law_r below c.in_ok-right.right split_r.child_in in (
      (refl, tt),
      (
        side_valid w g.L.TrieView.valid g.L.TrieView.told below c.in_ok-left.left ok_l,
        (
          side_valid w g.R.TrieView.valid g.R.TrieView.told below c.in_ok-right.right ok_r,
          (
            side_room w g.L.TrieView.valid g.L.TrieView.told law_l below _ c.in_ok-left.left (depth_below c.args.self.now.len) ok_l,
            side_room w g.R.TrieView.valid g.R.TrieView.told law_r below _ c.in_ok-right.right (depth_below c.args.self.now.len) ok_r,
          ),
        ),
      ),
    )

pub returns-in_err-left_above-clause-frugal : goal.returns-in_err-left_above-clause-frugal
returns-in_err-left_above-clause-frugal g c =
    λ h. absurd (elim-false (c.in_err-left_above.ensures.frugal
    (and_left (side_frugal g.L.TrieView.told c.args.self.now.left_all) (side_frugal g.R.TrieView.told c.args.self.now.right_all)
    (and_right (side_frugal g.L.TrieView.told c.args.self.now.left && side_frugal g.R.TrieView.told c.args.self.now.right)
    (side_frugal g.L.TrieView.told c.args.self.now.left_all && side_frugal g.R.TrieView.told c.args.self.now.right_all) h))))

pub returns-in_err-right_above-clause-frugal : goal.returns-in_err-right_above-clause-frugal
returns-in_err-right_above-clause-frugal g c =
    λ h. absurd (elim-false (c.in_err-right_above.ensures.frugal
    (and_right (side_frugal g.L.TrieView.told c.args.self.now.left_all) (side_frugal g.R.TrieView.told c.args.self.now.right_all)
    (and_right (side_frugal g.L.TrieView.told c.args.self.now.left && side_frugal g.R.TrieView.told c.args.self.now.right)
    (side_frugal g.L.TrieView.told c.args.self.now.left_all && side_frugal g.R.TrieView.told c.args.self.now.right_all) h))))

pub returns-in_err-left-clause-frugal : goal.returns-in_err-left-clause-frugal
returns-in_err-left-clause-frugal g c =
    λ h. absurd (elim-false (c.in_err-left.ensures.frugal
    (and_left (side_frugal g.L.TrieView.told c.args.self.now.left) (side_frugal g.R.TrieView.told c.args.self.now.right)
    (and_left (side_frugal g.L.TrieView.told c.args.self.now.left && side_frugal g.R.TrieView.told c.args.self.now.right)
    (side_frugal g.L.TrieView.told c.args.self.now.left_all && side_frugal g.R.TrieView.told c.args.self.now.right_all) h))))

pub returns-in_err-right-clause-frugal : goal.returns-in_err-right-clause-frugal
returns-in_err-right-clause-frugal g c =
    λ h. absurd (elim-false (c.in_err-right.ensures.frugal
    (and_right (side_frugal g.L.TrieView.told c.args.self.now.left) (side_frugal g.R.TrieView.told c.args.self.now.right)
    (and_left (side_frugal g.L.TrieView.told c.args.self.now.left && side_frugal g.R.TrieView.told c.args.self.now.right)
    (side_frugal g.L.TrieView.told c.args.self.now.left_all && side_frugal g.R.TrieView.told c.args.self.now.right_all) h))))

pub returns-in_err-left_all-clause-frugal : goal.returns-in_err-left_all-clause-frugal
returns-in_err-left_all-clause-frugal g c = λ h.
    let w : ℕ = g.L.P.Number.KeyBits.width in
    let place : Net = record { bits = g.L.P.Number.KeyBits.number c.args.self.now.key; len = c.args.self.now.len } in
    let split_l = c.in_ok-left.ensures.split place refl
    (side_in_ok w g.L.TrieView.valid g.L.TrieView.told (g.met.L.TrieView c.lifetimes (search rules)).laws place c.args.self.now.left c.requires.usable.1) in
    let split_r = c.in_ok-right.ensures.split place refl
    (side_in_ok w g.R.TrieView.valid g.R.TrieView.told (g.met.R.TrieView c.lifetimes (search rules)).laws place c.args.self.now.right
    c.requires.usable.2) in
    absurd (elim-false (c.in_err-left_all.ensures.frugal
    (split_l.child_frugal (and_left (side_frugal g.L.TrieView.told c.args.self.now.left) (side_frugal g.R.TrieView.told c.args.self.now.right)
    (and_left (side_frugal g.L.TrieView.told c.args.self.now.left && side_frugal g.R.TrieView.told c.args.self.now.right)
    (side_frugal g.L.TrieView.told c.args.self.now.left_all && side_frugal g.R.TrieView.told c.args.self.now.right_all) h)))))

pub returns-in_err-right_all-clause-frugal : goal.returns-in_err-right_all-clause-frugal
returns-in_err-right_all-clause-frugal g c = λ h.
    let w : ℕ = g.L.P.Number.KeyBits.width in
    let place : Net = record { bits = g.L.P.Number.KeyBits.number c.args.self.now.key; len = c.args.self.now.len } in
    let split_l = c.in_ok-left.ensures.split place refl
    (side_in_ok w g.L.TrieView.valid g.L.TrieView.told (g.met.L.TrieView c.lifetimes (search rules)).laws place c.args.self.now.left c.requires.usable.1) in
    let split_r = c.in_ok-right.ensures.split place refl
    (side_in_ok w g.R.TrieView.valid g.R.TrieView.told (g.met.R.TrieView c.lifetimes (search rules)).laws place c.args.self.now.right
    c.requires.usable.2) in
    absurd (elim-false (c.in_err-right_all.ensures.frugal
    (split_r.child_frugal (and_right (side_frugal g.L.TrieView.told c.args.self.now.left) (side_frugal g.R.TrieView.told c.args.self.now.right)
    (and_left (side_frugal g.L.TrieView.told c.args.self.now.left && side_frugal g.R.TrieView.told c.args.self.now.right)
    (side_frugal g.L.TrieView.told c.args.self.now.left_all && side_frugal g.R.TrieView.told c.args.self.now.right_all) h)))))

pub returns-clause-child : goal.returns-clause-child
returns-clause-child g c =
    let w : ℕ = g.L.P.Number.KeyBits.width in
    let place : Net = record { bits = g.L.P.Number.KeyBits.number c.args.self.now.key; len = c.args.self.now.len } in
    let base = union_laws w g.L.TrieView.valid g.L.TrieView.told (g.met.L.TrieView c.lifetimes (search rules)).laws g.R.TrieView.valid
    g.R.TrieView.told (g.met.R.TrieView c.lifetimes (search rules)).laws place c.args.self.now.left c.args.self.now.right c.requires.usable.0
    c.requires.usable.1 c.requires.usable.2 in
    let deep = base.deep c.args.bit c.requires.set in
    let small = bit_below 32 _ c.args.bit base.children_fit c.requires.set in
    let at : Net = record { bits = g.L.P.Number.KeyBits.number c.extend_repr-key.result; len = c.args.self.now.len / 5 * 5 + 5 } in
    let e : child_net w place c.args.bit ≡ at = let f : ℕ → Net = λ b. record { bits = b; len = c.args.self.now.len / 5 * 5 + 5 } in
    ap f (sym c.extend_repr-key.ensures) in
    let way : masked w (g.L.P.Number.KeyBits.number c.extend_repr-key.result) (depth_at place.len) ≡ masked w place.bits (depth_at place.len) =
    ap (λ b. masked w b (depth_at place.len)) c.extend_repr-key.ensures ∙ level_inside w (depth_at place.len) 5 place.bits c.args.bit small deep in
    let split_l = c.in_ok-left.ensures.split place refl
    (side_in_ok w g.L.TrieView.valid g.L.TrieView.told (g.met.L.TrieView c.lifetimes (search rules)).laws place c.args.self.now.left c.requires.usable.1) in
    let split_r = c.in_ok-right.ensures.split place refl
    (side_in_ok w g.R.TrieView.valid g.R.TrieView.told (g.met.R.TrieView c.lifetimes (search rules)).laws place c.args.self.now.right
    c.requires.usable.2) in
    let eq_l : c.in_ok-left_all.left_all ≡ c.in_ok-left.left = c.in_ok-left_all.ensures.equal in
    let eq_r : c.in_ok-right_all.right_all ≡ c.in_ok-right.right = c.in_ok-right_all.ensures.equal in
    let low_l = subst (λ n. Longest w (InNode g.L.TrieView.told c.args.self.now.left_all (depth_at place.len))
    (pair_value g.L.P.PlainPrefix.net g.L.TrieView.item c.args.self.now.left_above) n
    (pair_value g.L.P.PlainPrefix.net g.L.TrieView.item c.in_ok-left_above.left_above)) (sym e)
    (c.in_ok-left_above.ensures.longest place refl c.requires.usable.3 way) in
    let low_r = subst (λ n. Longest w (InNode g.R.TrieView.told c.args.self.now.right_all (depth_at place.len))
    (pair_value g.L.P.PlainPrefix.net g.R.TrieView.item c.args.self.now.right_above) n
    (pair_value g.L.P.PlainPrefix.net g.R.TrieView.item c.in_ok-right_above.right_above)) (sym e)
    (c.in_ok-right_above.ensures.longest place refl c.requires.usable.4 way) in
    let child = covering_child w c.args.bit g.L.TrieView.valid g.L.TrieView.told (g.met.L.TrieView c.lifetimes (search rules)).laws g.R.TrieView.valid
    g.R.TrieView.told (g.met.R.TrieView c.lifetimes (search rules)).laws place c.args.self.now.left c.in_ok-left.left c.side_child.new.side
    c.args.self.now.right c.in_ok-right.right c.side_child-2.new.side (record {
      all = c.args.self.now.left_all;
      above =
          pair_value g.L.P.PlainPrefix.net g.L.TrieView.item c.args.self.now.left_above;
    }) (record {
      all = c.args.self.now.right_all;
      above =
          pair_value g.L.P.PlainPrefix.net g.R.TrieView.item c.args.self.now.right_above;
    })
    (pair_value g.L.P.PlainPrefix.net g.L.TrieView.item c.in_ok-left_above.left_above)
    (pair_value g.L.P.PlainPrefix.net g.R.TrieView.item c.in_ok-right_above.right_above) base deep
    (side_valid w g.L.TrieView.valid g.L.TrieView.told place c.args.self.now.left_all c.requires.usable.3)
    (side_valid w g.R.TrieView.valid g.R.TrieView.told place c.args.self.now.right_all c.requires.usable.4) split_l split_r low_l low_r in
    let five = subst (λ p. IsNet w p × IsInnerSide g.L.TrieView.valid g.L.TrieView.told w p c.in_ok-left.left ×
    IsInnerSide g.R.TrieView.valid g.R.TrieView.told w p c.in_ok-right.right ×
    IsAlignedSide g.L.TrieView.valid g.L.TrieView.told w p c.in_ok-left_all.left_all ×
    IsAlignedSide g.R.TrieView.valid g.R.TrieView.told w p c.in_ok-right_all.right_all) e (
      child_is_net w place c.args.bit c.requires.usable.0.bits_fit small deep,
      split_l.child_in,
      split_r.child_in,
      subst (λ o. IsAlignedSide g.L.TrieView.valid g.L.TrieView.told w (child_net w place c.args.bit) o) (sym eq_l)
          (side_in_ok w g.L.TrieView.valid g.L.TrieView.told (g.met.L.TrieView c.lifetimes (search rules)).laws (child_net w place c.args.bit)
          c.in_ok-left.left split_l.child_in),
      subst (λ o. IsAlignedSide g.R.TrieView.valid g.R.TrieView.told w (child_net w place c.args.bit) o) (sym eq_r)
          (side_in_ok w g.R.TrieView.valid g.R.TrieView.told (g.met.R.TrieView c.lifetimes (search rules)).laws (child_net w place c.args.bit)
          c.in_ok-right.right split_r.child_in),
    ) in (
      (
        five.0,
        five.1,
        five.2,
        five.3,
        five.4,
        c.in_ok-left_above.ensures.above,
        c.in_ok-right_above.ensures.above,
        c.either_data.ensures ∙ ap (λ x. either_data_bits g.L.TrieView.told g.R.TrieView.told x c.in_ok-left.left c.in_ok-right.right)
            (sym (depth_below c.args.self.now.len)),
        c.either_children.ensures ∙ ap (λ x. either_child_bits g.L.TrieView.told g.R.TrieView.told w x c.in_ok-left.left c.in_ok-right.right)
            (sym (depth_below c.args.self.now.len)),
      ),
      through_child w c.args.bit (WithPrefixes g.L.P.PlainPrefix.net g.L.P.PlainPrefix.raw) _ _
          (subst (λ p. IsChild w c.args.bit (covering_told w g.L.TrieView.told g.R.TrieView.told place c.args.self.now.left c.args.self.now.right
          (record { all = c.args.self.now.left_all; above = pair_value g.L.P.PlainPrefix.net g.L.TrieView.item c.args.self.now.left_above }) (record {
            all =
                c.args.self.now.right_all;
            above =
                pair_value g.L.P.PlainPrefix.net g.R.TrieView.item c.args.self.now.right_above;
          }))
          (covering_told w g.L.TrieView.told g.R.TrieView.told p c.in_ok-left.left c.in_ok-right.right (record {
            all =
                c.in_ok-left_all.left_all;
            above = (pair_value g.L.P.PlainPrefix.net g.L.TrieView.item c.in_ok-left_above.left_above);
          }) (record {
            all =
                c.in_ok-right_all.right_all;
            above = (pair_value g.L.P.PlainPrefix.net g.R.TrieView.item c.in_ok-right_above.right_above);
          }))) e
          (subst (λ o. IsChild w c.args.bit (covering_told w g.L.TrieView.told g.R.TrieView.told place c.args.self.now.left c.args.self.now.right
          (record {
            all = c.args.self.now.left_all;
            above =
                pair_value g.L.P.PlainPrefix.net g.L.TrieView.item c.args.self.now.left_above;
          }) (record {
            all = c.args.self.now.right_all;
            above =
                pair_value g.L.P.PlainPrefix.net g.R.TrieView.item c.args.self.now.right_above;
          }))
          (covering_told w g.L.TrieView.told g.R.TrieView.told (child_net w place c.args.bit) c.in_ok-left.left c.in_ok-right.right
          (record { all = o; above = (pair_value g.L.P.PlainPrefix.net g.L.TrieView.item c.in_ok-left_above.left_above) }) (record {
            all =
                c.in_ok-right_all.right_all;
            above = (pair_value g.L.P.PlainPrefix.net g.R.TrieView.item c.in_ok-right_above.right_above);
          }))) (sym eq_l)
          (subst (λ o. IsChild w c.args.bit (covering_told w g.L.TrieView.told g.R.TrieView.told place c.args.self.now.left c.args.self.now.right
          (record {
            all = c.args.self.now.left_all;
            above =
                pair_value g.L.P.PlainPrefix.net g.L.TrieView.item c.args.self.now.left_above;
          }) (record {
            all = c.args.self.now.right_all;
            above =
                pair_value g.L.P.PlainPrefix.net g.R.TrieView.item c.args.self.now.right_above;
          }))
          (covering_told w g.L.TrieView.told g.R.TrieView.told (child_net w place c.args.bit) c.in_ok-left.left c.in_ok-right.right
          (record {
            all = c.in_ok-left.left;
            above =
                (pair_value g.L.P.PlainPrefix.net g.L.TrieView.item c.in_ok-left_above.left_above);
          }) (record {
            all = o;
            above =
                (pair_value g.L.P.PlainPrefix.net g.R.TrieView.item c.in_ok-right_above.right_above);
          }))) (sym eq_r) child))),
    )

pub returns-clause-usable : goal.returns-clause-usable
returns-clause-usable g c =
    let w : ℕ = g.L.P.Number.KeyBits.width in
    let place : Net = record { bits = g.L.P.Number.KeyBits.number c.args.self.now.key; len = c.args.self.now.len } in
    let split_l = c.in_ok-left.ensures.split place refl
    (side_in_ok w g.L.TrieView.valid g.L.TrieView.told (g.met.L.TrieView c.lifetimes (search rules)).laws place c.args.self.now.left c.requires.usable.1) in
    let split_r = c.in_ok-right.ensures.split place refl
    (side_in_ok w g.R.TrieView.valid g.R.TrieView.told (g.met.R.TrieView c.lifetimes (search rules)).laws place c.args.self.now.right
    c.requires.usable.2) in
    let base = union_laws w g.L.TrieView.valid g.L.TrieView.told (g.met.L.TrieView c.lifetimes (search rules)).laws g.R.TrieView.valid
    g.R.TrieView.told (g.met.R.TrieView c.lifetimes (search rules)).laws place c.args.self.now.left c.args.self.now.right c.requires.usable.0
    c.requires.usable.1 c.requires.usable.2 in
    let took = union_took_child w c.args.bit g.L.TrieView.valid g.L.TrieView.told g.R.TrieView.valid g.R.TrieView.told place c.args.self.now.left
    c.in_ok-left.left c.side_child.new.side c.args.self.now.right c.in_ok-right.right c.side_child-2.new.side split_l split_r in
    let kept = children_left w c.args.bit _ _ _ base took
    (subst (λ m. Cleared c.args.bit m c.without-self.result) c.requires.usable.8 c.without-self.ensures) in (
      c.requires.usable.0,
      split_l.rest_in c.requires.usable.1,
      split_r.rest_in c.requires.usable.2,
      c.requires.usable.3,
      c.requires.usable.4,
      c.requires.usable.5,
      c.requires.usable.6,
      c.requires.usable.7 ∙ sym took.data_bits,
      kept,
    )

pub returns-clause-rest : goal.returns-clause-rest
returns-clause-rest g c =
    let w : ℕ = g.L.P.Number.KeyBits.width in
    let place : Net = record { bits = g.L.P.Number.KeyBits.number c.args.self.now.key; len = c.args.self.now.len } in
    let base = union_laws w g.L.TrieView.valid g.L.TrieView.told (g.met.L.TrieView c.lifetimes (search rules)).laws g.R.TrieView.valid
    g.R.TrieView.told (g.met.R.TrieView c.lifetimes (search rules)).laws place c.args.self.now.left c.args.self.now.right c.requires.usable.0
    c.requires.usable.1 c.requires.usable.2 in
    let split_l = c.in_ok-left.ensures.split place refl
    (side_in_ok w g.L.TrieView.valid g.L.TrieView.told (g.met.L.TrieView c.lifetimes (search rules)).laws place c.args.self.now.left c.requires.usable.1) in
    let split_r = c.in_ok-right.ensures.split place refl
    (side_in_ok w g.R.TrieView.valid g.R.TrieView.told (g.met.R.TrieView c.lifetimes (search rules)).laws place c.args.self.now.right
    c.requires.usable.2) in
    through_took_child w c.args.bit (WithPrefixes g.L.P.PlainPrefix.net g.L.P.PlainPrefix.raw) _ _
    (covering_took_child w c.args.bit g.L.TrieView.valid g.L.TrieView.told g.R.TrieView.valid g.R.TrieView.told place c.args.self.now.left
    c.in_ok-left.left c.side_child.new.side c.args.self.now.right c.in_ok-right.right c.side_child-2.new.side (record {
      all =
          c.args.self.now.left_all;
      above = pair_value g.L.P.PlainPrefix.net g.L.TrieView.item c.args.self.now.left_above;
    }) (record {
      all =
          c.args.self.now.right_all;
      above = pair_value g.L.P.PlainPrefix.net g.R.TrieView.item c.args.self.now.right_above;
    }) base split_l split_r)
