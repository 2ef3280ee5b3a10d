use Rattle.rt_link_xstats.specs.NestedLaws.{read-nested-again}
use Rattle.rt_link_xstats.proofs.laws.read_nested_lists_read_back.Goals as goal

pub returns : goal.returns
returns g c =
    let attribute = g.met.X.Attribute c.lifetimes assumption in
    read-nested-again _ _ _ _ (attribute.reads_back tt) (attribute.read_reads_back tt)
