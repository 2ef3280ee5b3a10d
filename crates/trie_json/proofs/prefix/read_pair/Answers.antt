use Rattle.std.proofs.Common.{◌∙◌, sym, ap, length, map}
use Rattle.std.proofs.lemmas.List.{length-map}
use Rattle.serde_json.specs.View.{view, items_view}
use Rattle.trie_json.proofs.DataLaws.{array_is, long_pair}
use Rattle.trie_json.proofs.prefix.read_pair.Goals as goal

pub returns-then-pair-ne2-clause-other : goal.returns-then-pair-ne2-clause-other
returns-then-pair-ne2-clause-other c =
    let items = c.in-Some.list.now.items in
    let list = array_is (view c.args.value.now) (items_view items) c.in-Some.ensures in
    long_pair (view c.args.value.now) (map view items) list (λ e. c.if-pair-ne2.true
    (ap length c.as_slice-pair.ensures.value ∙ sym (length-map items view) ∙ e))
