use Rattle.trie_map.specs.Shape.{node_shape}
use Rattle.trie_model.proofs.CloneLaws.{copied_more, more_copied, list_net}
use Rattle.trie_map.proofs.map.PrefixMap.clone_with.Goals as goal

pub insert-requires : goal.insert-requires
insert-requires g c =
    let first = c.in-Some.ensures.list c.pairs.invariant.1.left c.pairs.invariant.1.list in
    let next = rw c.in_ok-prefix.was at first in
    (list_net node_shape g.P.Number.KeyBits.width c.self.inside.root c.args.self.now c.pairs.map c.pairs.invariant.1.left next.0 _
    (g.P.PlainPrefix.net c.in_ok-prefix.prefix) c.in_ok-prefix.item.now c.self.view_is c.pairs.invariant.1.is next.1).len_fits

pub pairs-smaller-in-Ok : goal.pairs-smaller-in-Ok
pairs-smaller-in-Ok g c =
    let first = c.in-Some.ensures.list c.pairs.invariant.1.left c.pairs.invariant.1.list in
    let next = rw c.in_ok-prefix.was at first in
    more_copied g.P.Number.KeyBits.width _ c.args.self.now c.pairs.map c.insert.new.self c.pairs.invariant.1.left next.0
    (g.P.PlainPrefix.net c.in_ok-prefix.prefix) c.in_ok-prefix.item.now c.in_ok-value.value c.in_ok-walk.ensures.list.ascends
    c.pairs.invariant.1.is next.1 (c.requires.equal c.in_ok-prefix.item c.in_ok-value.value c.in_ok-value.ensures) c.in-Ok.ensures.entry

pub pairs-preserved-in-Ok : goal.pairs-preserved-in-Ok
pairs-preserved-in-Ok g c =
    let first = c.in-Some.ensures.list c.pairs.invariant.1.left c.pairs.invariant.1.list in
    let next = rw c.in_ok-prefix.was at first in (
      c.in-Some.ensures.usable,
      copied_more g.P.Number.KeyBits.width _ c.args.self.now c.pairs.map c.insert.new.self c.pairs.invariant.1.left next.0
          (g.P.PlainPrefix.net c.in_ok-prefix.prefix) c.in_ok-prefix.item.now c.in_ok-value.value c.in_ok-walk.ensures.list.ascends
          c.pairs.invariant.1.is next.1 (c.requires.equal c.in_ok-prefix.item c.in_ok-value.value c.in_ok-value.ensures) c.in-Ok.ensures.entry,
    )

pub pairs-smaller-in-Ok-2 : goal.pairs-smaller-in-Ok-2
pairs-smaller-in-Ok-2 g c =
    let first = c.in-Some.ensures.list c.pairs.invariant.1.left c.pairs.invariant.1.list in
    let next = rw c.in_ok-prefix.was at first in
    more_copied g.P.Number.KeyBits.width _ c.args.self.now c.pairs.map c.insert.new.self c.pairs.invariant.1.left next.0
    (g.P.PlainPrefix.net c.in_ok-prefix.prefix) c.in_ok-prefix.item.now c.in_ok-value.value c.in_ok-walk.ensures.list.ascends
    c.pairs.invariant.1.is next.1 (c.requires.equal c.in_ok-prefix.item c.in_ok-value.value c.in_ok-value.ensures) c.in-Ok.ensures.entry

pub pairs-preserved-in-Ok-2 : goal.pairs-preserved-in-Ok-2
pairs-preserved-in-Ok-2 g c =
    let first = c.in-Some.ensures.list c.pairs.invariant.1.left c.pairs.invariant.1.list in
    let next = rw c.in_ok-prefix.was at first in (
      c.in-Some.ensures.usable,
      copied_more g.P.Number.KeyBits.width _ c.args.self.now c.pairs.map c.insert.new.self c.pairs.invariant.1.left next.0
          (g.P.PlainPrefix.net c.in_ok-prefix.prefix) c.in_ok-prefix.item.now c.in_ok-value.value c.in_ok-walk.ensures.list.ascends
          c.pairs.invariant.1.is next.1 (c.requires.equal c.in_ok-prefix.item c.in_ok-value.value c.in_ok-value.ensures) c.in-Ok.ensures.entry,
    )
