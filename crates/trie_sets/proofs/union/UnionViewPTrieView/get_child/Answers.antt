use Rattle.std.proofs.Common.{rules}
use Rattle.std.proofs.Common.{◌≡◌, ◌∙◌, ℕ, ◌+◌, ◌*◌, ◌/◌, sym, ap, subst, refl}
use Rattle.trie_model.specs.Nets.{Net, IsNet}
use Rattle.trie_model.specs.Tries.{Cleared}
use Rattle.trie_model.specs.Views.{IsChild, child_net}
use Rattle.trie_model.proofs.Places.{bit_below, depth_below}
use Rattle.trie_model.proofs.NodeLaws.{child_is_net}
use Rattle.view_model.specs.Sides.{IsInnerSide}
use Rattle.view_model.specs.Union.{either_child_bits, either_data_bits, union_told}
use Rattle.view_model.proofs.SideLaws.{in_valid, side_in_ok, side_room, side_valid}
use Rattle.view_model.proofs.UnionLaws.{union_laws, union_child, union_took_child}
use Rattle.trie_sets.proofs.KeptBits.{children_left}
use Rattle.trie_sets.proofs.union.UnionViewPTrieView.get_child.Goals as goal

pub extend_repr-key-requires-clause-depth : goal.extend_repr-key-requires-clause-depth
extend_repr-key-requires-clause-depth g c =
    let w : ℕ = g.L.P.Number.KeyBits.width in
    let place : Net = record { bits = g.L.P.Number.KeyBits.number c.args.self.now.key; len = c.args.self.now.len } in
    let base = union_laws w g.L.TrieView.valid g.L.TrieView.told (g.met.L.TrieView c.lifetimes (search rules)).laws g.R.TrieView.valid
    g.R.TrieView.told (g.met.R.TrieView c.lifetimes (search rules)).laws place c.args.self.now.left c.args.self.now.right c.requires.usable.0
    c.requires.usable.1 c.requires.usable.2 in
    base.deep c.args.bit c.requires.set

pub extend_repr-key-requires-clause-child : goal.extend_repr-key-requires-clause-child
extend_repr-key-requires-clause-child g c =
    let w : ℕ = g.L.P.Number.KeyBits.width in
    let place : Net = record { bits = g.L.P.Number.KeyBits.number c.args.self.now.key; len = c.args.self.now.len } in
    let base = union_laws w g.L.TrieView.valid g.L.TrieView.told (g.met.L.TrieView c.lifetimes (search rules)).laws g.R.TrieView.valid
    g.R.TrieView.told (g.met.R.TrieView c.lifetimes (search rules)).laws place c.args.self.now.left c.args.self.now.right c.requires.usable.0
    c.requires.usable.1 c.requires.usable.2 in
    bit_below 32 _ c.args.bit base.children_fit c.requires.set

pub side_child-requires : goal.side_child-requires
side_child-requires g c κs =
    let w : ℕ = g.L.P.Number.KeyBits.width in
    let place : Net = record { bits = g.L.P.Number.KeyBits.number c.args.self.now.key; len = c.args.self.now.len } in
    let base = union_laws w g.L.TrieView.valid g.L.TrieView.told (g.met.L.TrieView c.lifetimes (search rules)).laws g.R.TrieView.valid
    g.R.TrieView.told (g.met.R.TrieView c.lifetimes (search rules)).laws place c.args.self.now.left c.args.self.now.right c.requires.usable.0
    c.requires.usable.1 c.requires.usable.2 in (
      (refl, tt),
      (
        in_valid w g.L.TrieView.valid g.L.TrieView.told place c.args.self.now.left c.requires.usable.1,
        (base.deep c.args.bit c.requires.set, bit_below 32 _ c.args.bit base.children_fit c.requires.set),
      ),
    )

pub side_child-requires-2 : goal.side_child-requires-2
side_child-requires-2 g c κs =
    let w : ℕ = g.L.P.Number.KeyBits.width in
    let place : Net = record { bits = g.L.P.Number.KeyBits.number c.args.self.now.key; len = c.args.self.now.len } in
    let base = union_laws w g.L.TrieView.valid g.L.TrieView.told (g.met.L.TrieView c.lifetimes (search rules)).laws g.R.TrieView.valid
    g.R.TrieView.told (g.met.R.TrieView c.lifetimes (search rules)).laws place c.args.self.now.left c.args.self.now.right c.requires.usable.0
    c.requires.usable.1 c.requires.usable.2 in (
      (refl, tt),
      (
        in_valid w g.R.TrieView.valid g.R.TrieView.told place c.args.self.now.right c.requires.usable.2,
        (base.deep c.args.bit c.requires.set, bit_below 32 _ c.args.bit base.children_fit c.requires.set),
      ),
    )

pub without-self-requires : goal.without-self-requires
without-self-requires g c =
    let w : ℕ = g.L.P.Number.KeyBits.width in
    let place : Net = record { bits = g.L.P.Number.KeyBits.number c.args.self.now.key; len = c.args.self.now.len } in
    let base = union_laws w g.L.TrieView.valid g.L.TrieView.told (g.met.L.TrieView c.lifetimes (search rules)).laws g.R.TrieView.valid
    g.R.TrieView.told (g.met.R.TrieView c.lifetimes (search rules)).laws place c.args.self.now.left c.args.self.now.right c.requires.usable.0
    c.requires.usable.1 c.requires.usable.2 in
    bit_below 32 _ c.args.bit base.children_fit c.requires.set

pub either_data-requires : goal.either_data-requires
either_data-requires g c κs =
    let w : ℕ = g.L.P.Number.KeyBits.width in
    let place : Net = record { bits = g.L.P.Number.KeyBits.number c.args.self.now.key; len = c.args.self.now.len } in
    let split_l = c.in_ok-left.ensures.split place refl
    (side_in_ok w g.L.TrieView.valid g.L.TrieView.told (g.met.L.TrieView c.lifetimes (search rules)).laws place c.args.self.now.left c.requires.usable.1) in
    let split_r = c.in_ok-right.ensures.split place refl
    (side_in_ok w g.R.TrieView.valid g.R.TrieView.told (g.met.R.TrieView c.lifetimes (search rules)).laws place c.args.self.now.right
    c.requires.usable.2) in (
      (refl, tt),
      (
        in_valid w g.L.TrieView.valid g.L.TrieView.told (child_net w place c.args.bit) c.in_ok-left.left split_l.child_in,
        in_valid w g.R.TrieView.valid g.R.TrieView.told (child_net w place c.args.bit) c.in_ok-right.right split_r.child_in,
      ),
    )

pub either_children-requires : goal.either_children-requires
either_children-requires g c κs =
    let w : ℕ = g.L.P.Number.KeyBits.width in
    let place : Net = record { bits = g.L.P.Number.KeyBits.number c.args.self.now.key; len = c.args.self.now.len } in
    let law_l = (g.met.L.TrieView c.lifetimes (search rules)).laws in
    let law_r = (g.met.R.TrieView c.lifetimes (search rules)).laws in
    let below : Net = child_net w place c.args.bit in
    let split_l = c.in_ok-left.ensures.split place refl
    (side_in_ok w g.L.TrieView.valid g.L.TrieView.told law_l place c.args.self.now.left c.requires.usable.1) in
    let split_r = c.in_ok-right.ensures.split place refl
    (side_in_ok w g.R.TrieView.valid g.R.TrieView.told law_r place c.args.self.now.right c.requires.usable.2) in
    let ok_l = side_in_ok w g.L.TrieView.valid g.L.TrieView.told law_l below c.in_ok-left.left split_l.child_in in
    let ok_r = side_in_ok w g.R.TrieView.valid g.R.TrieView.told law_r below c.in_ok-right.right split_r.child_in in (
      (refl, tt),
      (
        side_valid w g.L.TrieView.valid g.L.TrieView.told below c.in_ok-left.left ok_l,
        (
          side_valid w g.R.TrieView.valid g.R.TrieView.told below c.in_ok-right.right ok_r,
          (
            side_room w g.L.TrieView.valid g.L.TrieView.told law_l below _ c.in_ok-left.left (depth_below c.args.self.now.len) ok_l,
            side_room w g.R.TrieView.valid g.R.TrieView.told law_r below _ c.in_ok-right.right (depth_below c.args.self.now.len) ok_r,
          ),
        ),
      ),
    )

pub returns-clause-child : goal.returns-clause-child
returns-clause-child g c =
    let w : ℕ = g.L.P.Number.KeyBits.width in
    let place : Net = record { bits = g.L.P.Number.KeyBits.number c.args.self.now.key; len = c.args.self.now.len } in
    let base = union_laws w g.L.TrieView.valid g.L.TrieView.told (g.met.L.TrieView c.lifetimes (search rules)).laws g.R.TrieView.valid
    g.R.TrieView.told (g.met.R.TrieView c.lifetimes (search rules)).laws place c.args.self.now.left c.args.self.now.right c.requires.usable.0
    c.requires.usable.1 c.requires.usable.2 in
    let split_l = c.in_ok-left.ensures.split place refl
    (side_in_ok w g.L.TrieView.valid g.L.TrieView.told (g.met.L.TrieView c.lifetimes (search rules)).laws place c.args.self.now.left c.requires.usable.1) in
    let split_r = c.in_ok-right.ensures.split place refl
    (side_in_ok w g.R.TrieView.valid g.R.TrieView.told (g.met.R.TrieView c.lifetimes (search rules)).laws place c.args.self.now.right
    c.requires.usable.2) in
    let deep = base.deep c.args.bit c.requires.set in
    let at : Net = record { bits = g.L.P.Number.KeyBits.number c.extend_repr-key.result; len = c.args.self.now.len / 5 * 5 + 5 } in
    let e : child_net w place c.args.bit ≡ at = let f : ℕ → Net = λ b. record { bits = b; len = c.args.self.now.len / 5 * 5 + 5 } in
    ap f (sym c.extend_repr-key.ensures) in
    let sides = subst (λ p. IsNet w p × IsInnerSide g.L.TrieView.valid g.L.TrieView.told w p c.in_ok-left.left ×
    IsInnerSide g.R.TrieView.valid g.R.TrieView.told w p c.in_ok-right.right) e (
      child_is_net w place c.args.bit c.requires.usable.0.bits_fit (bit_below 32 _ c.args.bit base.children_fit c.requires.set) deep,
      split_l.child_in,
      split_r.child_in,
    ) in
    let d = sym (depth_below c.args.self.now.len) in (
      (
        sides.0,
        sides.1,
        sides.2,
        c.either_data.ensures ∙ ap (λ x. either_data_bits g.L.TrieView.told g.R.TrieView.told x c.in_ok-left.left c.in_ok-right.right) d,
        c.either_children.ensures ∙
            ap (λ x. either_child_bits g.L.TrieView.told g.R.TrieView.told w x c.in_ok-left.left c.in_ok-right.right) d,
      ),
      subst (λ p. IsChild w c.args.bit (union_told w g.L.TrieView.told g.R.TrieView.told place c.args.self.now.left c.args.self.now.right)
          (union_told w g.L.TrieView.told g.R.TrieView.told p c.in_ok-left.left c.in_ok-right.right)) e
          (union_child w c.args.bit g.L.TrieView.valid g.L.TrieView.told g.R.TrieView.valid g.R.TrieView.told place c.args.self.now.left
          c.in_ok-left.left c.side_child.new.side c.args.self.now.right c.in_ok-right.right c.side_child-2.new.side split_l split_r),
    )

pub returns-clause-usable : goal.returns-clause-usable
returns-clause-usable g c =
    let w : ℕ = g.L.P.Number.KeyBits.width in
    let place : Net = record { bits = g.L.P.Number.KeyBits.number c.args.self.now.key; len = c.args.self.now.len } in
    let split_l = c.in_ok-left.ensures.split place refl
    (side_in_ok w g.L.TrieView.valid g.L.TrieView.told (g.met.L.TrieView c.lifetimes (search rules)).laws place c.args.self.now.left c.requires.usable.1) in
    let split_r = c.in_ok-right.ensures.split place refl
    (side_in_ok w g.R.TrieView.valid g.R.TrieView.told (g.met.R.TrieView c.lifetimes (search rules)).laws place c.args.self.now.right
    c.requires.usable.2) in
    let base = union_laws w g.L.TrieView.valid g.L.TrieView.told (g.met.L.TrieView c.lifetimes (search rules)).laws g.R.TrieView.valid
    g.R.TrieView.told (g.met.R.TrieView c.lifetimes (search rules)).laws place c.args.self.now.left c.args.self.now.right c.requires.usable.0
    c.requires.usable.1 c.requires.usable.2 in
    let took = union_took_child w c.args.bit g.L.TrieView.valid g.L.TrieView.told g.R.TrieView.valid g.R.TrieView.told place c.args.self.now.left
    c.in_ok-left.left c.side_child.new.side c.args.self.now.right c.in_ok-right.right c.side_child-2.new.side split_l split_r in
    let kept = children_left w c.args.bit _ _ _ base took
    (subst (λ m. Cleared c.args.bit m c.without-self.result) c.requires.usable.4 c.without-self.ensures) in (
      c.requires.usable.0,
      split_l.rest_in c.requires.usable.1,
      split_r.rest_in c.requires.usable.2,
      c.requires.usable.3 ∙ sym took.data_bits,
      kept,
    )

pub returns-clause-rest : goal.returns-clause-rest
returns-clause-rest g c =
    let w : ℕ = g.L.P.Number.KeyBits.width in
    let place : Net = record { bits = g.L.P.Number.KeyBits.number c.args.self.now.key; len = c.args.self.now.len } in
    let split_l = c.in_ok-left.ensures.split place refl
    (side_in_ok w g.L.TrieView.valid g.L.TrieView.told (g.met.L.TrieView c.lifetimes (search rules)).laws place c.args.self.now.left c.requires.usable.1) in
    let split_r = c.in_ok-right.ensures.split place refl
    (side_in_ok w g.R.TrieView.valid g.R.TrieView.told (g.met.R.TrieView c.lifetimes (search rules)).laws place c.args.self.now.right
    c.requires.usable.2) in
    union_took_child w c.args.bit g.L.TrieView.valid g.L.TrieView.told g.R.TrieView.valid g.R.TrieView.told place c.args.self.now.left
    c.in_ok-left.left c.side_child.new.side c.args.self.now.right c.in_ok-right.right c.side_child-2.new.side split_l split_r
