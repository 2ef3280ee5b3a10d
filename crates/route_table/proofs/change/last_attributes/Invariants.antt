use Rattle.std.proofs.Common.{take}
use Rattle.route_table.specs.Changes.{HasLastOf}
use Rattle.route_table.proofs.change.last_attributes.Given as goal

abbrev pub invariant-loop-attribute : goal.invariant-loop-attribute
invariant-loop-attribute l = HasLastOf (take l.attribute-index l.attributes) l.last
