use Rattle.std.proofs.Common.{rules}
use Rattle.std.proofs.Common.{◌∙◌, ℕ, arith, sym, subst, refl}
use Rattle.trie_model.specs.Nets.{Net}
use Rattle.trie_model.specs.Tries.{Cleared}
use Rattle.trie_model.specs.Views.{data_net}
use Rattle.trie_model.proofs.Places.{bit_below}
use Rattle.view_model.proofs.SideLaws.{in_valid}
use Rattle.view_model.proofs.UnionLaws.{union_laws, union_took, some_side, union_item}
use Rattle.trie_sets.proofs.KeptBits.{data_left}
use Rattle.trie_sets.proofs.union.UnionViewPTrieView.get_data.Goals as goal

pub side_take-requires : goal.side_take-requires
side_take-requires g c κs =
    let w : ℕ = g.L.P.Number.KeyBits.width in
    let place : Net = record { bits = g.L.P.Number.KeyBits.number c.args.self.now.key; len = c.args.self.now.len } in
    let base = union_laws w g.L.TrieView.valid g.L.TrieView.told (g.met.L.TrieView c.lifetimes (search rules)).laws g.R.TrieView.valid
    g.R.TrieView.told (g.met.R.TrieView c.lifetimes (search rules)).laws place c.args.self.now.left c.args.self.now.right c.requires.usable.0
    c.requires.usable.1 c.requires.usable.2 in (
      (refl, tt),
      (
        in_valid w g.L.TrieView.valid g.L.TrieView.told place c.args.self.now.left c.requires.usable.1,
        bit_below 31 _ c.args.bit base.data_fit c.requires.set,
      ),
    )

pub side_take-requires-2 : goal.side_take-requires-2
side_take-requires-2 g c κs =
    let w : ℕ = g.L.P.Number.KeyBits.width in
    let place : Net = record { bits = g.L.P.Number.KeyBits.number c.args.self.now.key; len = c.args.self.now.len } in
    let base = union_laws w g.L.TrieView.valid g.L.TrieView.told (g.met.L.TrieView c.lifetimes (search rules)).laws g.R.TrieView.valid
    g.R.TrieView.told (g.met.R.TrieView c.lifetimes (search rules)).laws place c.args.self.now.left c.args.self.now.right c.requires.usable.0
    c.requires.usable.1 c.requires.usable.2 in (
      (refl, tt),
      (
        in_valid w g.R.TrieView.valid g.R.TrieView.told place c.args.self.now.right c.requires.usable.2,
        bit_below 31 _ c.args.bit base.data_fit c.requires.set,
      ),
    )

pub without-self-requires : goal.without-self-requires
without-self-requires g c =
    let w : ℕ = g.L.P.Number.KeyBits.width in
    let place : Net = record { bits = g.L.P.Number.KeyBits.number c.args.self.now.key; len = c.args.self.now.len } in
    let base = union_laws w g.L.TrieView.valid g.L.TrieView.told (g.met.L.TrieView c.lifetimes (search rules)).laws g.R.TrieView.valid
    g.R.TrieView.told (g.met.R.TrieView c.lifetimes (search rules)).laws place c.args.self.now.left c.args.self.now.right c.requires.usable.0
    c.requires.usable.1 c.requires.usable.2 in
    let small = bit_below 31 _ c.args.bit base.data_fit c.requires.set in
    omega (arith, small)

pub join-requires : goal.join-requires
join-requires g c =
    let w : ℕ = g.L.P.Number.KeyBits.width in
    let place : Net = record { bits = g.L.P.Number.KeyBits.number c.args.self.now.key; len = c.args.self.now.len } in
    let took_l = c.in_ok-left.ensures.took place refl c.requires.usable.1 in
    let took_r = c.in_ok-right.ensures.took place refl c.requires.usable.2 in
    some_side w c.args.bit g.L.TrieView.valid g.L.TrieView.told (g.met.L.TrieView c.lifetimes (search rules)).laws g.L.TrieView.item
    g.R.TrieView.valid g.R.TrieView.told (g.met.R.TrieView c.lifetimes (search rules)).laws g.R.TrieView.item place c.args.self.now.left
    c.args.self.now.right c.requires.usable.0 c.requires.usable.1 c.requires.usable.2 c.requires.set c.in_ok-left.left c.in_ok-right.right
    took_l.has took_r.has

pub returns-clause-data : goal.returns-clause-data
returns-clause-data g c =
    let w : ℕ = g.L.P.Number.KeyBits.width in
    let place : Net = record { bits = g.L.P.Number.KeyBits.number c.args.self.now.key; len = c.args.self.now.len } in
    let took_l = c.in_ok-left.ensures.took place refl c.requires.usable.1 in
    let took_r = c.in_ok-right.ensures.took place refl c.requires.usable.2 in
    union_item g.L.TrieView.told g.L.TrieView.item g.R.TrieView.told g.R.TrieView.item (data_net w place c.args.bit) c.args.self.now.left
    c.args.self.now.right c.in_ok-left.left c.in_ok-right.right c.join.result took_l.has took_r.has c.join.ensures

pub returns-clause-usable : goal.returns-clause-usable
returns-clause-usable g c =
    let w : ℕ = g.L.P.Number.KeyBits.width in
    let place : Net = record { bits = g.L.P.Number.KeyBits.number c.args.self.now.key; len = c.args.self.now.len } in
    let took_l = c.in_ok-left.ensures.took place refl c.requires.usable.1 in
    let took_r = c.in_ok-right.ensures.took place refl c.requires.usable.2 in
    let base = union_laws w g.L.TrieView.valid g.L.TrieView.told (g.met.L.TrieView c.lifetimes (search rules)).laws g.R.TrieView.valid
    g.R.TrieView.told (g.met.R.TrieView c.lifetimes (search rules)).laws place c.args.self.now.left c.args.self.now.right c.requires.usable.0
    c.requires.usable.1 c.requires.usable.2 in
    let after = union_laws w g.L.TrieView.valid g.L.TrieView.told (g.met.L.TrieView c.lifetimes (search rules)).laws g.R.TrieView.valid
    g.R.TrieView.told (g.met.R.TrieView c.lifetimes (search rules)).laws place c.side_take.new.side c.side_take-2.new.side c.requires.usable.0
    took_l.inside took_r.inside in
    let took = union_took w c.args.bit g.L.TrieView.valid g.L.TrieView.told g.L.TrieView.item g.R.TrieView.valid g.R.TrieView.told g.R.TrieView.item
    place c.args.self.now.left c.side_take.new.side c.args.self.now.right c.side_take-2.new.side c.in_ok-left.left c.in_ok-right.right took_l took_r in
    let kept = data_left w c.args.bit _ _ _ base after took c.requires.set
    (subst (λ m. Cleared c.args.bit m c.without-self.result) c.requires.usable.3 c.without-self.ensures) in
    (c.requires.usable.0, took_l.inside, took_r.inside, kept, c.requires.usable.4 ∙ sym took.child_bits)

pub returns-clause-rest : goal.returns-clause-rest
returns-clause-rest g c =
    let w : ℕ = g.L.P.Number.KeyBits.width in
    let place : Net = record { bits = g.L.P.Number.KeyBits.number c.args.self.now.key; len = c.args.self.now.len } in
    let took_l = c.in_ok-left.ensures.took place refl c.requires.usable.1 in
    let took_r = c.in_ok-right.ensures.took place refl c.requires.usable.2 in
    union_took w c.args.bit g.L.TrieView.valid g.L.TrieView.told g.L.TrieView.item g.R.TrieView.valid g.R.TrieView.told g.R.TrieView.item place
    c.args.self.now.left c.side_take.new.side c.args.self.now.right c.side_take-2.new.side c.in_ok-left.left c.in_ok-right.right took_l took_r
