use Rattle.std.proofs.Common.{◌∷◌, [], ◌∙◌, ap, map}
use Rattle.std.proofs.lemmas.List.{map-append}
use Rattle.serde_json.specs.View.{view}
use Rattle.trie_json.specs.Writing.{net_data, list_data}
use Rattle.trie_json.proofs.WriteLaws.{more_written, next_within, all_written}
use Rattle.trie_json.proofs.set.set_to_json.Goals as goal

pub write_prefix-requires : goal.write_prefix-requires
write_prefix-requires g c =
    let w = g.P.Number.KeyBits.width in
    let so = c.members.invariant.1 in
    let first = c.in-Some.ensures.list so.left so.list in
    let next = rw c.in_ok-prefix.was at first in
    let n = g.P.PlainPrefix.net c.in_ok-prefix.prefix in
    (c.has_nets.ensures n tt (next_within w (λ p. net_data w p.0) _ _ c.args.set.now next.0 _ n tt so next.1)).len_fits

pub members-preserved : goal.members-preserved
members-preserved g c =
    let w = g.P.Number.KeyBits.width in
    let so = c.members.invariant.1 in
    let first = c.in-Some.ensures.list so.left so.list in
    let next = rw c.in_ok-prefix.was at first in
    let n = g.P.PlainPrefix.net c.in_ok-prefix.prefix in (
      c.in-Some.ensures.usable,
      more_written w (λ p. net_data w p.0) _ _ c.args.set.now next.0 (map view c.members.members.items) (map view c.push.new.self.items)
          (view c.in_ok-member.member) n tt so next.1
          (ap (map view) c.in_ok-push.ensures.items ∙ map-append view c.members.members.items (c.in_ok-member.member ∷ [])) c.in_ok-member.ensures,
    )

pub returns : goal.returns
returns g c =
    let w = g.P.Number.KeyBits.width in
    let so = c.members.invariant.1 in
    let end = c.in_default.ensures.list so.left so.list in
    let all = all_written w (λ p. net_data w p.0) _ c.args.set.now (map view c.members.members.items) so end in
    c.from.ensures ∙ ap list_data all
