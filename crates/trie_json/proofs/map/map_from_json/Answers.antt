use Rattle.std.proofs.Common.{◌∙◌, sym, ap, subst, map, take, rules}
use Rattle.serde_json.specs.View.{view, items_view}
use Rattle.trie_json.specs.Writing.{list_data}
use Rattle.trie_json.specs.Reading.{ReadsEntry}
use Rattle.trie_json.proofs.DataLaws.{array_is}
use Rattle.trie_json.proofs.ReadLaws.{ReadSoFar, none_read, more_read, read_net, refused_at, element_at, take_element}
use Rattle.trie_json.proofs.map.map_from_json.Goals as goal

pub elements-init : goal.elements-init
elements-init g c = none_read (ReadsEntry g.P.Number.KeyBits.width g.T.JsonItem.read) g.P.Number.KeyBits.width c.new-map.result c.new-map.ensures

pub returns-in_err-prefix-clause-refused : goal.returns-in_err-prefix-clause-refused
returns-in_err-prefix-clause-refused g c =
    let items = c.deref-element-items.result.now in
    let w = g.P.Number.KeyBits.width in
    let list = array_is (view c.args.value.now) (items_view c.in-Some.list.now.items) c.in-Some.ensures
    ∙ ap (λ xs. list_data (map view xs)) (sym c.deref-element-items.ensures.value) in
    let refused = refused_at w g.T.JsonItem.read (view c.args.value.now) (map view items) c.elements.map c.elements.at
    (view c.element-item.result) c.in_err-prefix.field-0.0
    list c.elements.invariant (element_at view items c.elements.at c.element-item.result c.elements-test.true c.element-item.is)
    c.in_err-prefix.ensures.refused in
    search rules

pub elements-preserved : goal.elements-preserved
elements-preserved g c =
    let items = c.deref-element-items.result.now in
    let w = g.P.Number.KeyBits.width in
    subst (λ ds. ReadSoFar (ReadsEntry w g.T.JsonItem.read) w ds c.put.new.map)
    (sym (take_element view items c.elements.at c.element-item.result c.elements-test.true c.element-item.is))
    (more_read (ReadsEntry w g.T.JsonItem.read) w (take c.elements.at (map view items)) c.elements.map c.put.new.map (view c.element-item.result)
    (g.P.PlainPrefix.net c.in_ok-prefix.prefix) c.in_ok-prefix.item c.elements.invariant c.in_ok-prefix.ensures.entry
    (read_net w _ _ c.in_ok-prefix.ensures.entry.net) c.in_ok-put.ensures)
