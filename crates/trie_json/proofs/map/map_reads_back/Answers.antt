use Rattle.std.proofs.Common.{subst}
use Rattle.trie_json.specs.Reading.{ReadsMap, RefusesMap}
use Rattle.trie_json.proofs.BackLaws.{map_back, map_unrefused, if_ok, if_err}
use Rattle.trie_json.proofs.map.map_reads_back.Goals as goal

pub returns-clause-equal : goal.returns-clause-equal
returns-clause-equal g c =
    let w = g.P.Number.KeyBits.width in
    if_ok c.map_from_json.result (λ read h.
    map_back w g.T.JsonItem.written g.T.JsonItem.read g.P.Number.KeyBits.width_law g.met.T.JsonItem.back c.args.map.now read
    c.in_order.ensures.list.ascends c.in_order.ensures.nets (subst (λ d. ReadsMap w g.T.JsonItem.read d read) c.in_ok-value.ensures h))
    c.map_from_json.ensures.read

pub returns-clause-refused : goal.returns-clause-refused
returns-clause-refused g c =
    let w = g.P.Number.KeyBits.width in
    if_err c.map_from_json.result (λ e h.
    map_unrefused w g.T.JsonItem.written g.T.JsonItem.read g.met.T.JsonItem.back c.args.map.now e c.in_order.ensures.nets
    (subst (λ d. RefusesMap w g.T.JsonItem.read d e) c.in_ok-value.ensures h))
    c.map_from_json.ensures.refused
