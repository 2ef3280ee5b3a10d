use Rattle.std.proofs.Common.{◌≡◌, ◌+◌, ◌-◌, ◌∙◌, ap, sym, arith, ℕ}
use Rattle.std.specs.Int.{bit_at}
use Rattle.trie_model.specs.Spots.{next_spot}
use Rattle.trie_map.proofs.Skips.{level_passes}
use Rattle.trie_map.proofs.walk.take_first.Goals as goal

pub returns-clause-step : goal.returns-clause-step
returns-clause-step g c =
    let spot : ℕ = c.occupied_spot-spot.result in
    let last = c.occupied_spot-spot.ensures.last in
    let other = c.if-spot-eq64.false in
    let high = c.if-spot-lt32.false in
    let is : spot ≡ 32 + (spot - 32) = omega (arith, high) in (
      spot - 32,
      record {
        small = omega (arith, last, other, high);
        passed = level_passes g.V.TrieView.told c.args.level.now c.data_bitmap.result c.child_bitmap.result spot (32 + (spot - 32))
            c.data_bitmap.ensures c.child_bitmap.ensures is c.occupied_spot-spot.ensures.passed;
        set = ap (λ b. bit_at b (spot - 32)) (sym c.child_bitmap.ensures) ∙ (c.occupied_spot-spot.ensures.set (omega (arith, last, other))).1
            (omega (arith, high));
        usable = c.in_ok-child.ensures.child.0;
        is = c.in_ok-child.ensures.child.1;
        took = c.in_ok-child.ensures.rest;
        next = c.next_spot-level.ensures.next ∙ ap next_spot is;
      },
    )
