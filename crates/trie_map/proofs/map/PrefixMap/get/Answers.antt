use Rattle.std.proofs.Common.{ap, sym, subst, refl, ◌∙◌, ◌≡◌}
use Rattle.trie_map.specs.Shape.{node_shape}
use Rattle.trie_model.proofs.Places.{place_is}
use Rattle.trie_model.specs.Nets.{IsNet}
use Rattle.std.specs.Option.{option_copied}
use Rattle.trie_model.specs.Maps.{value_at}
use Rattle.trie_model.proofs.TrieMaps.{got}
use Rattle.trie_map.proofs.map.PrefixMap.get.Goals as goal

pub returns : goal.returns
returns g c = let e : (record { bits = g.P.Number.KeyBits.number c.number-key.result; len = c.length.result }) ≡ g.P.PlainPrefix.net
    c.args.prefix.now = place_is (g.P.PlainPrefix.net c.args.prefix.now) (g.P.Number.KeyBits.number c.number-key.result) c.length.result
    c.number-key.ensures.bits c.length.ensures in
    let ok : IsNet g.P.Number.KeyBits.width (record { bits = g.P.Number.KeyBits.number c.number-key.result; len = c.length.result }) = subst
    (IsNet g.P.Number.KeyBits.width) (sym e) c.number-key.ensures.prefix in
    got c.get_below.result (λ r. r.now) option_copied node_shape g.P.Number.KeyBits.width
    (record { bits = g.P.Number.KeyBits.number c.number-key.result; len = c.length.result }) c.self.inside.root refl (λ r. refl) ok
    c.get_below.ensures.item ∙ ap (λ ps. value_at ps (record { bits = g.P.Number.KeyBits.number c.number-key.result; len = c.length.result }))
    c.self.view_is ∙ ap (value_at c.args.self.now) e
