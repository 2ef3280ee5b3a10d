use Rattle.std.proofs.Common.{ap, sym, subst, ◌∙◌, ◌≡◌}
use Rattle.trie_map.specs.Shape.{node_shape}
use Rattle.trie_model.proofs.Places.{place_is}
use Rattle.trie_model.specs.Nets.{IsNet}
use Rattle.std.specs.declared.alloc.AllocFailed.{AllocFailed}
use Rattle.trie_model.specs.Maps.{MapOk, value_at, inserted}
use Rattle.trie_model.proofs.TrieMaps.{put_counted, refused_ok, put_done, put_refused}
use Rattle.trie_map.proofs.map.PrefixMap.insert.Goals as goal

pub invariant_of-self : goal.invariant_of-self
invariant_of-self g c = let e : (record { bits = g.P.Number.KeyBits.number c.number-key.result; len = c.length.result }) ≡ g.P.PlainPrefix.net
    c.args.prefix = place_is (g.P.PlainPrefix.net c.args.prefix) (g.P.Number.KeyBits.number c.number-key.result) c.length.result
    c.number-key.ensures.bits c.length.ensures in
    let ok : IsNet g.P.Number.KeyBits.width (record { bits = g.P.Number.KeyBits.number c.number-key.result; len = c.length.result }) = subst
    (IsNet g.P.Number.KeyBits.width) (sym e) c.number-key.ensures.prefix in
    subst (MapOk node_shape g.P.Number.KeyBits.width c.insert_below.new.node) (sym c.count_with-self-inside.ensures)
    (put_counted {E = AllocFailed g.row.T.Denot} c.in-Ok.was (λ e. e.value) node_shape g.P.Number.KeyBits.width
    (record { bits = g.P.Number.KeyBits.number c.number-key.result; len = c.length.result }) c.args.value c.self.inside.root c.insert_below.new.node
    c.self.inside.count ok c.in-Ok.ensures.put c.self.invariant c.insert_below.ensures.good c.insert_below.ensures.full)

pub invariant_of-self-in-Err : goal.invariant_of-self-in-Err
invariant_of-self-in-Err g c = let e : (record { bits = g.P.Number.KeyBits.number c.number-key.result; len = c.length.result }) ≡ g.P.PlainPrefix.net
    c.args.prefix = place_is (g.P.PlainPrefix.net c.args.prefix) (g.P.Number.KeyBits.number c.number-key.result) c.length.result
    c.number-key.ensures.bits c.length.ensures in
    let ok : IsNet g.P.Number.KeyBits.width (record { bits = g.P.Number.KeyBits.number c.number-key.result; len = c.length.result }) = subst
    (IsNet g.P.Number.KeyBits.width) (sym e) c.number-key.ensures.prefix in
    refused_ok {E = AllocFailed g.row.T.Denot} (λ e. e.value) node_shape g.P.Number.KeyBits.width
    (record { bits = g.P.Number.KeyBits.number c.number-key.result; len = c.length.result }) c.args.value c.self.inside.root c.insert_below.new.node
    c.in-Err.refused c.self.inside.count ok c.in-Err.ensures.put c.self.invariant c.insert_below.ensures.good c.insert_below.ensures.full

pub returns-in-Ok-clause-was : goal.returns-in-Ok-clause-was
returns-in-Ok-clause-was g c = let e : (record { bits = g.P.Number.KeyBits.number c.number-key.result; len = c.length.result }) ≡ g.P.PlainPrefix.net
    c.args.prefix = place_is (g.P.PlainPrefix.net c.args.prefix) (g.P.Number.KeyBits.number c.number-key.result) c.length.result
    c.number-key.ensures.bits c.length.ensures in
    let ok : IsNet g.P.Number.KeyBits.width (record { bits = g.P.Number.KeyBits.number c.number-key.result; len = c.length.result }) = subst
    (IsNet g.P.Number.KeyBits.width) (sym e) c.number-key.ensures.prefix in
    (put_done {E = AllocFailed g.row.T.Denot} (λ e. e.value) node_shape g.P.Number.KeyBits.width
    (record { bits = g.P.Number.KeyBits.number c.number-key.result; len = c.length.result }) c.args.value c.self.inside.root c.insert_below.new.node
    c.in-Ok.was ok c.in-Ok.ensures.put).was_is ∙ ap
    (λ ps. value_at ps (record { bits = g.P.Number.KeyBits.number c.number-key.result; len = c.length.result })) c.self.view_is ∙ ap
    (value_at c.args.self.now) e

pub returns-in-Ok-clause-entry : goal.returns-in-Ok-clause-entry
returns-in-Ok-clause-entry g c = let e : (record { bits = g.P.Number.KeyBits.number c.number-key.result; len = c.length.result })
    ≡ g.P.PlainPrefix.net c.args.prefix = place_is (g.P.PlainPrefix.net c.args.prefix) (g.P.Number.KeyBits.number c.number-key.result) c.length.result
    c.number-key.ensures.bits c.length.ensures in
    let ok : IsNet g.P.Number.KeyBits.width (record { bits = g.P.Number.KeyBits.number c.number-key.result; len = c.length.result }) = subst
    (IsNet g.P.Number.KeyBits.width) (sym e) c.number-key.ensures.prefix in
    (put_done {E = AllocFailed g.row.T.Denot} (λ e. e.value) node_shape g.P.Number.KeyBits.width
    (record { bits = g.P.Number.KeyBits.number c.number-key.result; len = c.length.result }) c.args.value c.self.inside.root c.insert_below.new.node
    c.in-Ok.was ok c.in-Ok.ensures.put).list ∙ ap
    (λ ps. inserted g.P.Number.KeyBits.width ps (record { bits = g.P.Number.KeyBits.number c.number-key.result; len = c.length.result }) c.args.value)
    c.self.view_is ∙ ap (λ n. inserted g.P.Number.KeyBits.width c.args.self.now n c.args.value) e

pub returns-in-Err-clause-unchanged : goal.returns-in-Err-clause-unchanged
returns-in-Err-clause-unchanged g c = let e : (record { bits = g.P.Number.KeyBits.number c.number-key.result; len = c.length.result })
    ≡ g.P.PlainPrefix.net c.args.prefix = place_is (g.P.PlainPrefix.net c.args.prefix) (g.P.Number.KeyBits.number c.number-key.result) c.length.result
    c.number-key.ensures.bits c.length.ensures in
    let ok : IsNet g.P.Number.KeyBits.width (record { bits = g.P.Number.KeyBits.number c.number-key.result; len = c.length.result }) = subst
    (IsNet g.P.Number.KeyBits.width) (sym e) c.number-key.ensures.prefix in
    put_refused {E = AllocFailed g.row.T.Denot} (λ e. e.value) node_shape g.P.Number.KeyBits.width
    (record { bits = g.P.Number.KeyBits.number c.number-key.result; len = c.length.result }) c.args.value c.self.inside.root c.insert_below.new.node
    c.in-Err.refused ok c.in-Err.ensures.put ∙ c.self.view_is
