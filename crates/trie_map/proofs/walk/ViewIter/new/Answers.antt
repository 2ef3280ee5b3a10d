use Rattle.std.proofs.Common.{rules, arith, ap, ◌/◌, length}
use Rattle.trie_model.specs.Walks.{rest}
use Rattle.trie_model.proofs.RestLaws.{rest_view, rest_ahead, rest_start}
use Rattle.trie_model.proofs.RoomLaws.{room_one, frugal_one}
use Rattle.trie_model.proofs.WalkSteps.{one_pushed, walk_one}
use Rattle.trie_map.proofs.walk.ViewIter.new.Goals as goal

pub returns-clause-usable : goal.returns-clause-usable
returns-clause-usable g c = record {
  levels = (walk_one (λ l. g.V.TrieView.valid l.view)
      (λ l. rest g.V.P.Number.KeyBits.width (g.V.TrieView.told l.view) l.spot) (λ l. l.spot) g.V.P.Number.KeyBits.width _ _
      (one_pushed _ _ _ c.push_level.ensures.items c.in_ok-levels.ensures.items)
      (record {
        usable = c.requires;
        view = rest_view g.V.P.Number.KeyBits.width (g.V.TrieView.told c.args.view) 1 (omega arith)
            ((g.met.V.TrieView c.lifetimes (search rules)).laws _ c.requires);
        first = omega arith;
        last = omega arith;
        ahead = rest_ahead
            g.V.P.Number.KeyBits.width (g.V.TrieView.told c.args.view) 1;
      })).0;
  room = room_one g.V.P.Number.KeyBits.width (λ l. g.V.TrieView.told l.view) _ _
      _ (let a = c.push_level.ensures.capacity in let k = c.in_ok-levels.ensures.capacity in let b = ap (λ x. x / 5) c.bits.ensures in
      omega (arith, a, k, b)) (one_pushed _ _ _ c.push_level.ensures.items c.in_ok-levels.ensures.items);
}

pub returns-clause-whole : goal.returns-clause-whole
returns-clause-whole g c n x = let one = (walk_one (λ l. g.V.TrieView.valid l.view)
    (λ l. rest g.V.P.Number.KeyBits.width (g.V.TrieView.told l.view) l.spot) (λ l. l.spot) g.V.P.Number.KeyBits.width _ _
    (one_pushed _ _ _ c.push_level.ensures.items c.in_ok-levels.ensures.items)
    (record {
      usable = c.requires;
      view = rest_view g.V.P.Number.KeyBits.width (g.V.TrieView.told c.args.view) 1 (omega arith)
          ((g.met.V.TrieView c.lifetimes (search rules)).laws _ c.requires);
      first = omega arith;
      last = omega arith;
      ahead = rest_ahead
          g.V.P.Number.KeyBits.width (g.V.TrieView.told c.args.view) 1;
    })).1 n x in
    let all = rest_start g.V.P.Number.KeyBits.width (g.V.TrieView.told c.args.view) n x in ((λ h. all.0 (one.0 h)), (λ h. one.1 (all.1 h)))

pub returns-clause-frugal : goal.returns-clause-frugal
returns-clause-frugal g c = λ f. frugal_one (λ l. g.V.TrieView.told l.view) _ _ (one_pushed _ _ _ c.push_level.ensures.items c.in_ok-levels.ensures.items) f

pub push_level-requires : goal.push_level-requires
push_level-requires g c = let k = c.in_ok-levels.ensures.capacity in let z = ap length c.in_ok-levels.ensures.items in omega (arith, k, z)
