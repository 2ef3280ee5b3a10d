use Rattle.std.proofs.Common.{ℕ, ◌^◌, ◌<◌, arith}
use Rattle.trie_model.specs.Spots.{children_below, rows_below}
use Rattle.view_model.proofs.CoverLaws.{cover_at_end, cover_at_first, cover_took, takes_lowest}
use Rattle.trie_sets.proofs.cover.cover_masks.Goals as goal

below_less : (a b : ℕ) → a < b → b < 2 ^ 31 → a < 2 ^ 31
below_less a b lt fits = omega arith

pub loop-rest-init : goal.loop-rest-init
loop-rest-init c = record {
  fits = c.requires;
  within = λ i h. h;
  covered_data = cover_at_first rows_below c.args.bits;
  covered_children = cover_at_first children_below c.args.bits;
}

pub loop-rest-preserved : goal.loop-rest-preserved
loop-rest-preserved c =
    let low = takes_lowest c.loop-rest.rest c.loop-rest.invariant.fits c.loop-rest-test.true in
    let there = c.loop-rest.invariant.within _ low.set in
    record {
      fits = below_less _ _ low.less c.loop-rest.invariant.fits;
      within = λ i h. c.loop-rest.invariant.within i (low.within i h);
      covered_data = cover_took rows_below c.args.bits c.loop-rest.rest _ c.loop-rest.covered_data _ _ low.small there low.set low.gone low.same
          c.data_cover_mask_for_bit-covered_data.ensures.rows c.loop-rest.invariant.covered_data;
      covered_children = cover_took children_below c.args.bits c.loop-rest.rest _ c.loop-rest.covered_children _ _ low.small there low.set
          low.gone low.same c.child_cover_mask_for_bit-covered_children.ensures.rows c.loop-rest.invariant.covered_children;
    }

pub loop-rest-smaller : goal.loop-rest-smaller
loop-rest-smaller c = (takes_lowest c.loop-rest.rest c.loop-rest.invariant.fits c.loop-rest-test.true).less

pub data_cover_mask_for_bit-covered_data-requires : goal.data_cover_mask_for_bit-covered_data-requires
data_cover_mask_for_bit-covered_data-requires c = (takes_lowest c.loop-rest.rest c.loop-rest.invariant.fits c.loop-rest-test.true).small

pub child_cover_mask_for_bit-covered_children-requires : goal.child_cover_mask_for_bit-covered_children-requires
child_cover_mask_for_bit-covered_children-requires c =
    (takes_lowest c.loop-rest.rest c.loop-rest.invariant.fits c.loop-rest-test.true).small

pub returns-clause-covered_data : goal.returns-clause-covered_data
returns-clause-covered_data c = cover_at_end rows_below c.args.bits c.loop-rest.rest c.loop-rest.covered_data c.loop-rest-test.false
    c.loop-rest.invariant.covered_data

pub returns-clause-covered_children : goal.returns-clause-covered_children
returns-clause-covered_children c = cover_at_end children_below c.args.bits c.loop-rest.rest c.loop-rest.covered_children c.loop-rest-test.false
    c.loop-rest.invariant.covered_children
