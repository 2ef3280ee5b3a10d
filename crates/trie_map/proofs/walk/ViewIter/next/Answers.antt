use Rattle.std.proofs.Common.{arith}
use Rattle.std.specs.Prelude.{vec_capacity}
use Rattle.trie_model.specs.Walks.{rest}
use Rattle.trie_model.proofs.RoomLaws.{room_none, frugal_none}
use Rattle.trie_model.proofs.WorkLaws.{work_none}
use Rattle.trie_model.proofs.WalkSteps.{gives_from, walk_empty}
use Rattle.trie_model.proofs.ListLaws.{list_begins, list_ends}
use Rattle.trie_map.specs.Walking.{ToCome}
use Rattle.trie_map.proofs.walk.ViewIter.next.Goals as goal

pub moves-preserved : goal.moves-preserved
moves-preserved g c =
    let moved = rw c.in-Ok-On.field-0-is at c.in-Ok-On.ensures.moved in (
      record { levels = c.in-Ok-On.ensures.usable; room = c.in-Ok-On.ensures.room },
      (λ n x. ((λ h. (c.moves.invariant.1 n x).0 ((moved n x).0 h)), (λ h. (moved n x).1 ((c.moves.invariant.1 n x).1 h)))),
      λ all.
          c.in-Ok-On.ensures.stays (c.moves.invariant.2 all),
      let less = rw c.in-Ok-On.field-0-is at c.in-Ok-On.ensures.less in
          let le = c.moves.invariant.3 in omega (arith, less, le),
    )

pub returns-in-Ok-Found-clause-given : goal.returns-in-Ok-Found-clause-given
returns-in-Ok-Found-clause-given g c =
    let moved = rw c.in-Ok-Found.field-0-is at c.in-Ok-Found.ensures.moved in (
      gives_from g.V.P.Number.KeyBits.width (λ l. rest g.V.P.Number.KeyBits.width (g.V.TrieView.told l.view) l.spot) c.args.self.now.levels.items
          c.moves.self.levels.items c.advance.new.levels.items (g.V.P.PlainPrefix.net c.in-Ok-Found.prefix) (g.V.TrieView.item c.in-Ok-Found.item)
          c.moves.invariant.1 moved.0,
      moved.1,
    )

pub returns-in-Err-clause-usable : goal.returns-in-Err-clause-usable
returns-in-Err-clause-usable g c = record {
  levels = (walk_empty (λ l. g.V.TrieView.valid l.view)
      (λ l. rest g.V.P.Number.KeyBits.width (g.V.TrieView.told l.view) l.spot) (λ l. l.spot) g.V.P.Number.KeyBits.width c.clear.new.self.items
      c.clear.ensures.items).0;
  room = room_none g.V.P.Number.KeyBits.width (λ l. g.V.TrieView.told l.view) c.clear.new.self.items
      (vec_capacity c.clear.new.self) (let r = c.moves.invariant.0.room.room in let a = c.advance.ensures.capacity in
      let k = c.clear.ensures.capacity in omega (arith, r, a, k)) c.clear.ensures.items;
}

pub returns-in-Err-clause-given : goal.returns-in-Err-clause-given
returns-in-Err-clause-given g c = (walk_empty (λ l. g.V.TrieView.valid l.view) (λ l. rest g.V.P.Number.KeyBits.width (g.V.TrieView.told l.view) l.spot) (λ l. l.spot) g.V.P.Number.KeyBits.width c.clear.new.self.items c.clear.ensures.items).1

pub returns-in-Err-clause-frugal : goal.returns-in-Err-clause-frugal
returns-in-Err-clause-frugal g c = λ all. c.in-Err.ensures.frugal (c.moves.invariant.2 all)

pub returns-in-Err-clause-stays : goal.returns-in-Err-clause-stays
returns-in-Err-clause-stays g c = λ all. frugal_none (λ l. g.V.TrieView.told l.view) c.clear.new.self.items c.clear.ensures.items

pub returns-in-Ok-Found-clause-list : goal.returns-in-Ok-Found-clause-list
returns-in-Ok-Found-clause-list g c ps is =
    let moved = rw c.in-Ok-Found.field-0-is at c.in-Ok-Found.ensures.moved in
    list_begins g.V.P.Number.KeyBits.width (λ l. rest g.V.P.Number.KeyBits.width (g.V.TrieView.told l.view) l.spot) c.args.self.now.levels.items
    c.advance.new.levels.items (g.V.P.PlainPrefix.net c.in-Ok-Found.prefix) (g.V.TrieView.item c.in-Ok-Found.item) ps
    (gives_from g.V.P.Number.KeyBits.width (λ l. rest g.V.P.Number.KeyBits.width (g.V.TrieView.told l.view) l.spot) c.args.self.now.levels.items
    c.moves.self.levels.items c.advance.new.levels.items (g.V.P.PlainPrefix.net c.in-Ok-Found.prefix) (g.V.TrieView.item c.in-Ok-Found.item)
    c.moves.invariant.1 moved.0) is

pub returns-in-Ok-End-clause-list : goal.returns-in-Ok-End-clause-list
returns-in-Ok-End-clause-list g c ps is =
    let moved = rw c.in-Ok-End.field-0-is at c.in-Ok-End.ensures.moved in
    list_ends g.V.P.Number.KeyBits.width (ToCome g.V.TrieView.told g.V.P.Number.KeyBits.width c.args.self.now) ps (λ n x h. moved n x ((c.moves.invariant.1 n x).1 h)) is

pub returns-in-Err-clause-refused : goal.returns-in-Err-clause-refused
returns-in-Err-clause-refused g c = work_none g.V.P.Number.KeyBits.width (λ l. g.V.TrieView.told l.view) (λ l. l.spot) c.clear.new.self.items c.clear.ensures.items

pub returns-in-Err-clause-ends : goal.returns-in-Err-clause-ends
returns-in-Err-clause-ends g c =
    let none = work_none g.V.P.Number.KeyBits.width (λ l. g.V.TrieView.told l.view) (λ l. l.spot) c.clear.new.self.items c.clear.ensures.items in
    let busy = c.in-Err.ensures.busy in
    let le = c.moves.invariant.3 in
    omega (arith, none, busy, le)
