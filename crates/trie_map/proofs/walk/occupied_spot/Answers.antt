use Rattle.std.proofs.Common.{arith, subst, sym, refl}
use Rattle.trie_map.specs.Moves.{PassesTo}
use Rattle.trie_map.proofs.Skips.{passes_none, passes_on}
use Rattle.trie_map.proofs.walk.occupied_spot.Goals as goal

pub spots-init : goal.spots-init
spots-init c = record { first = c.requires.first; last = c.requires.last; passed = passes_none c.args.data_bits c.args.child_bits c.args.spot }

pub spots-preserved : goal.spots-preserved
spots-preserved c = record {
  first = c.next_spot-at.ensures.first;
  last = c.next_spot-at.ensures.last;
  passed = subst (PassesTo c.args.data_bits c.args.child_bits c.args.spot) (sym c.next_spot-at.ensures.next)
      (passes_on c.args.data_bits c.args.child_bits c.args.spot c.spots.at c.spots.invariant.first (let lt = c.spots-test.true in omega (arith, lt))
      c.spots.invariant.passed (c.if-is_occupied.ensures.clear refl));
}
