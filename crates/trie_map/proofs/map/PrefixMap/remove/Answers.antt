use Rattle.std.proofs.Common.{ap, sym, subst, ◌∙◌, ◌≡◌}
use Rattle.trie_map.specs.Shape.{node_shape}
use Rattle.trie_model.proofs.Places.{place_is}
use Rattle.trie_model.specs.Nets.{IsNet}
use Rattle.trie_model.specs.Maps.{MapOk, value_at, removed}
use Rattle.trie_model.proofs.TrieMaps.{take_counted, take_done}
use Rattle.trie_map.proofs.map.PrefixMap.remove.Goals as goal

pub count_without-self-inside-requires : goal.count_without-self-inside-requires
count_without-self-inside-requires g c = let e : (record { bits = g.P.Number.KeyBits.number c.number-key.result; len = c.length.result })
    ≡ g.P.PlainPrefix.net c.args.prefix.now = place_is (g.P.PlainPrefix.net c.args.prefix.now) (g.P.Number.KeyBits.number c.number-key.result)
    c.length.result c.number-key.ensures.bits c.length.ensures in
    let ok : IsNet g.P.Number.KeyBits.width (record { bits = g.P.Number.KeyBits.number c.number-key.result; len = c.length.result }) = subst
    (IsNet g.P.Number.KeyBits.width) (sym e) c.number-key.ensures.prefix in
    (take_counted c.remove_below-was.result node_shape g.P.Number.KeyBits.width
    (record { bits = g.P.Number.KeyBits.number c.number-key.result; len = c.length.result }) c.self.inside.root c.remove_below-was.new.node
    c.self.inside.count ok c.remove_below-was.ensures.take c.self.invariant c.remove_below-was.ensures.good c.remove_below-was.ensures.full).0

pub invariant_of-self : goal.invariant_of-self
invariant_of-self g c = let e : (record { bits = g.P.Number.KeyBits.number c.number-key.result; len = c.length.result }) ≡ g.P.PlainPrefix.net
    c.args.prefix.now = place_is (g.P.PlainPrefix.net c.args.prefix.now) (g.P.Number.KeyBits.number c.number-key.result) c.length.result
    c.number-key.ensures.bits c.length.ensures in
    let ok : IsNet g.P.Number.KeyBits.width (record { bits = g.P.Number.KeyBits.number c.number-key.result; len = c.length.result }) = subst
    (IsNet g.P.Number.KeyBits.width) (sym e) c.number-key.ensures.prefix in
    subst (MapOk node_shape g.P.Number.KeyBits.width c.remove_below-was.new.node) (sym c.count_without-self-inside.ensures)
    (take_counted c.remove_below-was.result node_shape g.P.Number.KeyBits.width
    (record { bits = g.P.Number.KeyBits.number c.number-key.result; len = c.length.result }) c.self.inside.root c.remove_below-was.new.node
    c.self.inside.count ok c.remove_below-was.ensures.take c.self.invariant c.remove_below-was.ensures.good c.remove_below-was.ensures.full).1

pub returns-clause-was : goal.returns-clause-was
returns-clause-was g c = let e : (record { bits = g.P.Number.KeyBits.number c.number-key.result; len = c.length.result }) ≡ g.P.PlainPrefix.net
    c.args.prefix.now = place_is (g.P.PlainPrefix.net c.args.prefix.now) (g.P.Number.KeyBits.number c.number-key.result) c.length.result
    c.number-key.ensures.bits c.length.ensures in
    let ok : IsNet g.P.Number.KeyBits.width (record { bits = g.P.Number.KeyBits.number c.number-key.result; len = c.length.result }) = subst
    (IsNet g.P.Number.KeyBits.width) (sym e) c.number-key.ensures.prefix in
    (take_done node_shape g.P.Number.KeyBits.width (record { bits = g.P.Number.KeyBits.number c.number-key.result; len = c.length.result })
    c.self.inside.root c.remove_below-was.new.node c.remove_below-was.result ok c.remove_below-was.ensures.take).was_is ∙ ap
    (λ ps. value_at ps (record { bits = g.P.Number.KeyBits.number c.number-key.result; len = c.length.result })) c.self.view_is ∙ ap
    (value_at c.args.self.now) e

pub returns-clause-gone : goal.returns-clause-gone
returns-clause-gone g c = let e : (record { bits = g.P.Number.KeyBits.number c.number-key.result; len = c.length.result }) ≡ g.P.PlainPrefix.net
    c.args.prefix.now = place_is (g.P.PlainPrefix.net c.args.prefix.now) (g.P.Number.KeyBits.number c.number-key.result) c.length.result
    c.number-key.ensures.bits c.length.ensures in
    let ok : IsNet g.P.Number.KeyBits.width (record { bits = g.P.Number.KeyBits.number c.number-key.result; len = c.length.result }) = subst
    (IsNet g.P.Number.KeyBits.width) (sym e) c.number-key.ensures.prefix in
    (take_done node_shape g.P.Number.KeyBits.width (record { bits = g.P.Number.KeyBits.number c.number-key.result; len = c.length.result })
    c.self.inside.root c.remove_below-was.new.node c.remove_below-was.result ok c.remove_below-was.ensures.take).list ∙ ap
    (λ ps. removed ps (record { bits = g.P.Number.KeyBits.number c.number-key.result; len = c.length.result })) c.self.view_is ∙ ap
    (removed c.args.self.now) e
