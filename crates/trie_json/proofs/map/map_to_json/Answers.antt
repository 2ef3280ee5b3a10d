use Rattle.std.proofs.Common.{◌∷◌, [], ◌∙◌, ap, map}
use Rattle.std.proofs.lemmas.List.{map-append}
use Rattle.serde_json.specs.View.{view}
use Rattle.trie_json.specs.Writing.{entry_data, list_data}
use Rattle.trie_json.proofs.WriteLaws.{more_written, next_within, all_written}
use Rattle.trie_json.proofs.map.map_to_json.Goals as goal

pub write_entry-requires : goal.write_entry-requires
write_entry-requires g c =
    let w = g.P.Number.KeyBits.width in
    let so = c.entries.invariant.1 in
    let first = c.in-Some.ensures.list so.left so.list in
    let next = rw c.in_ok-prefix.was at first in
    let n = g.P.PlainPrefix.net c.in_ok-prefix.prefix in
    (c.in_order.ensures.nets n c.in_ok-prefix.item.now (next_within w (entry_data w g.T.JsonItem.written) _ _ c.args.map.now next.0 _ n
    c.in_ok-prefix.item.now so next.1)).len_fits

pub entries-preserved : goal.entries-preserved
entries-preserved g c =
    let w = g.P.Number.KeyBits.width in
    let so = c.entries.invariant.1 in
    let first = c.in-Some.ensures.list so.left so.list in
    let next = rw c.in_ok-prefix.was at first in
    let n = g.P.PlainPrefix.net c.in_ok-prefix.prefix in (
      c.in-Some.ensures.usable,
      more_written w (entry_data w g.T.JsonItem.written) _ _ c.args.map.now next.0 (map view c.entries.entries.items) (map view c.push.new.self.items)
          (view c.in_ok-entry.entry) n c.in_ok-prefix.item.now so next.1
          (ap (map view) c.in_ok-push.ensures.items ∙ map-append view c.entries.entries.items (c.in_ok-entry.entry ∷ [])) c.in_ok-entry.ensures,
    )

pub returns : goal.returns
returns g c =
    let w = g.P.Number.KeyBits.width in
    let so = c.entries.invariant.1 in
    let end = c.in_default.ensures.list so.left so.list in
    let all = all_written w (entry_data w g.T.JsonItem.written) _ c.args.map.now (map view c.entries.entries.items) so end in
    c.from.ensures ∙ ap list_data all
