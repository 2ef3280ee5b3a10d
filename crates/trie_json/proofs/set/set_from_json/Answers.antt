use Rattle.std.proofs.Common.{◌∙◌, sym, ap, subst, map, take}
use Rattle.serde_json.specs.View.{view, items_view}
use Rattle.trie_json.specs.Writing.{list_data}
use Rattle.trie_json.specs.Reading.{ReadsMember, IsNoPrefix}
use Rattle.trie_json.proofs.DataLaws.{array_is}
use Rattle.trie_json.proofs.ReadLaws.{ReadSoFar, none_read, more_read, read_net, stops, element_at, take_element}
use Rattle.trie_json.proofs.set.set_from_json.Goals as goal

pub elements-init : goal.elements-init
elements-init g c = none_read (ReadsMember g.P.Number.KeyBits.width) g.P.Number.KeyBits.width c.new-set.result c.new-set.ensures

pub returns-in_default-read_prefix-clause-refused : goal.returns-in_default-read_prefix-clause-refused
returns-in_default-read_prefix-clause-refused g c =
    let items = c.deref-element-items.result.now in
    let w = g.P.Number.KeyBits.width in
    let list = array_is (view c.args.value.now) (items_view c.in-Some.list.now.items) c.in-Some.ensures
    ∙ ap (λ xs. list_data (map view xs)) (sym c.deref-element-items.ensures.value) in
    stops (ReadsMember w) (IsNoPrefix w) w (view c.args.value.now) (map view items) c.elements.set c.elements.at
    (view c.element-item.result) list c.elements.invariant
    (element_at view items c.elements.at c.element-item.result c.elements-test.true c.element-item.is) c.in_default-read_prefix.ensures.other

pub elements-preserved : goal.elements-preserved
elements-preserved g c =
    let items = c.deref-element-items.result.now in
    let w = g.P.Number.KeyBits.width in
    subst (λ ds. ReadSoFar (ReadsMember w) w ds c.insert.new.self)
    (sym (take_element view items c.elements.at c.element-item.result c.elements-test.true c.element-item.is))
    (more_read (ReadsMember w) w (take c.elements.at (map view items)) c.elements.set c.insert.new.self (view c.element-item.result)
    (g.P.PlainPrefix.net c.in-Some-read_prefix.prefix) tt c.elements.invariant c.in-Some-read_prefix.ensures.net
    (read_net w _ _ c.in-Some-read_prefix.ensures.net) c.in-Ok.ensures.added)
