use Rattle.std.proofs.Common.{refl}
use Rattle.rt_other.specs.declared.route_attribute.RouteAttribute.TheVariants.{Destination, Gateway, Oif, Priority, Table, Other}
use Rattle.route_table.proofs.Attributes.{one_more}
use Rattle.route_table.proofs.change.last_attributes.Goals as goal
use Rattle.route_table.proofs.change.last_attributes.Goals.{in-Destination, in-Gateway, in-Oif, in-Priority, in-Table, in-Other}

pub loop-attribute-preserved : goal.loop-attribute-preserved
loop-attribute-preserved c =
    let step = one_more c.args.attributes.now c.loop-attribute.attribute-index c.attribute-item.result in
    let lt = c.loop-attribute-test.true in
    let item = c.attribute-item.is in
    let had = c.loop-attribute.invariant in
    elim c.match-attribute.branch [
      | in-Destination w ↦ step (Destination w.in-Destination.address) c.loop-attribute.last c.match-attribute.last _ lt item w.in-Destination.is had w.last-is refl refl refl refl refl
      | in-Gateway w ↦ step (Gateway w.in-Gateway.address) c.loop-attribute.last c.match-attribute.last _ lt item w.in-Gateway.is had w.last-is refl refl refl refl refl
      | in-Oif w ↦ step (Oif w.in-Oif.index) c.loop-attribute.last c.match-attribute.last _ lt item w.in-Oif.is had w.last-is refl refl refl refl refl
      | in-Priority w ↦ step (Priority w.in-Priority.priority) c.loop-attribute.last c.match-attribute.last _ lt item w.in-Priority.is had w.last-is refl refl refl refl refl
      | in-Table w ↦ step (Table w.in-Table.table) c.loop-attribute.last c.match-attribute.last _ lt item w.in-Table.is had w.last-is refl refl refl refl refl
      | in-Other w ↦ step (Other w.in-Other.field-0) c.loop-attribute.last c.match-attribute.last _ lt item w.in-Other.is had w.last-is refl refl refl refl refl
    ]
