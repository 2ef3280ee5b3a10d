use Rattle.std.proofs.Common.{◌≡◌, refl, sym, subst}
use Rattle.trie_model.proofs.Places.{place_is}
use Rattle.trie_model.specs.Nets.{IsNet}
use Rattle.trie_map.proofs.Lending.{entry_at, entry_value, lent_list, lent_ok}
use Rattle.trie_map.proofs.map.PrefixMap.entry_mut.Goals as goal

pub lend_item-requires-clause-there : goal.lend_item-requires-clause-there
lend_item-requires-clause-there g c =
    let e : (record { bits = g.P.Number.KeyBits.number c.number-key.result; len = c.length.result }) ≡ g.P.PlainPrefix.net
    c.args.prefix.now = place_is (g.P.PlainPrefix.net c.args.prefix.now) (g.P.Number.KeyBits.number c.number-key.result) c.length.result
    c.number-key.ensures.bits c.length.ensures in
    entry_at g.P.Number.KeyBits.width c.self.inside.root c.args.self.now (record { bits = g.P.Number.KeyBits.number c.number-key.result; len = c.length.result }) (g.P.PlainPrefix.net c.args.prefix.now) e c.self.view_is c.requires.there

pub invariant_of-self-lent : goal.invariant_of-self-lent
invariant_of-self-lent g c =
    let e : (record { bits = g.P.Number.KeyBits.number c.number-key.result; len = c.length.result }) ≡ g.P.PlainPrefix.net
    c.args.prefix.now = place_is (g.P.PlainPrefix.net c.args.prefix.now) (g.P.Number.KeyBits.number c.number-key.result) c.length.result
    c.number-key.ensures.bits c.length.ensures in
    let ok : IsNet g.P.Number.KeyBits.width (record { bits = g.P.Number.KeyBits.number c.number-key.result; len = c.length.result }) = subst (IsNet g.P.Number.KeyBits.width) (sym e) c.number-key.ensures.prefix in
    let at = entry_at g.P.Number.KeyBits.width c.self.inside.root c.args.self.now
    (record { bits = g.P.Number.KeyBits.number c.number-key.result; len = c.length.result }) (g.P.PlainPrefix.net c.args.prefix.now) e
    c.self.view_is c.requires.there in
    λ x. lent_ok g.P.Number.KeyBits.width c.self.inside.root (record { bits = g.P.Number.KeyBits.number c.number-key.result; len = c.length.result }) c.self.inside.count x at.0 ok c.self.invariant at.1

pub returns : goal.returns
returns g c =
    let e : (record { bits = g.P.Number.KeyBits.number c.number-key.result; len = c.length.result }) ≡ g.P.PlainPrefix.net
    c.args.prefix.now = place_is (g.P.PlainPrefix.net c.args.prefix.now) (g.P.Number.KeyBits.number c.number-key.result) c.length.result
    c.number-key.ensures.bits c.length.ensures in
    let ok : IsNet g.P.Number.KeyBits.width (record { bits = g.P.Number.KeyBits.number c.number-key.result; len = c.length.result }) = subst (IsNet g.P.Number.KeyBits.width) (sym e) c.number-key.ensures.prefix in
    let at = entry_at g.P.Number.KeyBits.width c.self.inside.root c.args.self.now
    (record { bits = g.P.Number.KeyBits.number c.number-key.result; len = c.length.result }) (g.P.PlainPrefix.net c.args.prefix.now) e
    c.self.view_is c.requires.there in (
      (
        refl,
        λ x. lent_list g.P.Number.KeyBits.width c.self.inside.root c.args.self.now
            (record { bits = g.P.Number.KeyBits.number c.number-key.result; len = c.length.result }) (g.P.PlainPrefix.net c.args.prefix.now)
            c.self.inside.count x at.0 e c.self.view_is ok c.self.invariant at.1,
      ),
      record {
        lends = tt;
        value = entry_value g.P.Number.KeyBits.width c.self.inside.root c.args.self.now
            (record { bits = g.P.Number.KeyBits.number c.number-key.result; len = c.length.result }) (g.P.PlainPrefix.net c.args.prefix.now)
            c.lend_item.result.now e c.self.view_is ok c.lend_item.ensures.item;
      },
    )
