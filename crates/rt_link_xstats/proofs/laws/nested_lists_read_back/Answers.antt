use Rattle.rt_link_xstats.specs.NestedLaws.{nested-again}
use Rattle.rt_link_xstats.proofs.laws.nested_lists_read_back.Goals as goal

pub returns : goal.returns
returns g c =
    let attribute = g.met.X.Attribute c.lifetimes assumption in
    nested-again _ _ _ _ (attribute.reads_back tt)
