use Rattle.std.proofs.Common.{sym, subst, refl, ℕ, ◌≡◌, Some, None, Bor}
use Rattle.trie_map.specs.Shape.{node_shape}
use Rattle.trie_model.proofs.Places.{place_is}
use Rattle.trie_model.specs.Nets.{IsNet}
use Rattle.trie_model.specs.Maps.{LongestMatch}
use Rattle.trie_model.proofs.TrieMaps.{list_of, longest_found, longest_none}
use Rattle.trie_map.proofs.map.PrefixMap.get_lpm.Goals as goal

pub returns-in-Some-clause-longest : goal.returns-in-Some-clause-longest
returns-in-Some-clause-longest g c = let e : (record { bits = g.P.Number.KeyBits.number c.number-key.result; len = c.length.result })
    ≡ g.P.PlainPrefix.net c.args.prefix.now = place_is (g.P.PlainPrefix.net c.args.prefix.now) (g.P.Number.KeyBits.number c.number-key.result)
    c.length.result c.number-key.ensures.bits c.length.ensures in
    let ok : IsNet g.P.Number.KeyBits.width (record { bits = g.P.Number.KeyBits.number c.number-key.result; len = c.length.result }) = subst
    (IsNet g.P.Number.KeyBits.width) (sym e) c.number-key.ensures.prefix in
    subst (λ ps. LongestMatch {R = g.row.P.Denot × Bor g.row.T.Denot} g.P.Number.KeyBits.width (λ r. g.P.PlainPrefix.net r.0) (λ r. r.1.now) ps
    (g.P.PlainPrefix.net c.args.prefix.now) (Some (c.from_number.result, c.in-Some.value))) c.self.view_is
    (subst (λ n. LongestMatch {R = g.row.P.Denot × Bor g.row.T.Denot} g.P.Number.KeyBits.width (λ r. g.P.PlainPrefix.net r.0) (λ r. r.1.now)
    (list_of node_shape g.P.Number.KeyBits.width c.self.inside.root) n (Some (c.from_number.result, c.in-Some.value))) e
    (longest_found {R = ℕ × Bor g.row.T.Denot} {S = g.row.P.Denot × Bor g.row.T.Denot} (c.from_number.result, c.in-Some.value)
    (c.in-Some.len, c.in-Some.value) (λ r. r.0) (λ r. r.1.now) (λ r. g.P.PlainPrefix.net r.0) (λ r. r.1.now) node_shape g.P.Number.KeyBits.width
    c.self.inside.root (record { bits = g.P.Number.KeyBits.number c.number-key.result; len = c.length.result }) ok c.in-Some.ensures.longest
    c.from_number.ensures.net refl))

pub returns-in-None-clause-longest : goal.returns-in-None-clause-longest
returns-in-None-clause-longest g c = let e : (record { bits = g.P.Number.KeyBits.number c.number-key.result; len = c.length.result })
    ≡ g.P.PlainPrefix.net c.args.prefix.now = place_is (g.P.PlainPrefix.net c.args.prefix.now) (g.P.Number.KeyBits.number c.number-key.result)
    c.length.result c.number-key.ensures.bits c.length.ensures in
    let ok : IsNet g.P.Number.KeyBits.width (record { bits = g.P.Number.KeyBits.number c.number-key.result; len = c.length.result }) = subst
    (IsNet g.P.Number.KeyBits.width) (sym e) c.number-key.ensures.prefix in
    subst (λ ps. LongestMatch {R = g.row.P.Denot × Bor g.row.T.Denot} g.P.Number.KeyBits.width (λ r. g.P.PlainPrefix.net r.0) (λ r. r.1.now) ps
    (g.P.PlainPrefix.net c.args.prefix.now) None) c.self.view_is
    (subst (λ n. LongestMatch {R = g.row.P.Denot × Bor g.row.T.Denot} g.P.Number.KeyBits.width (λ r. g.P.PlainPrefix.net r.0) (λ r. r.1.now)
    (list_of node_shape g.P.Number.KeyBits.width c.self.inside.root) n None) e
    (longest_none {R = ℕ × Bor g.row.T.Denot} {S = g.row.P.Denot × Bor g.row.T.Denot} (λ r. r.0) (λ r. r.1.now) (λ r. g.P.PlainPrefix.net r.0)
    (λ r. r.1.now) node_shape g.P.Number.KeyBits.width c.self.inside.root
    (record { bits = g.P.Number.KeyBits.number c.number-key.result; len = c.length.result }) ok c.in-None.ensures.longest))
