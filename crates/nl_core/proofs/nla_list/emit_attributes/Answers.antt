use Rattle.nl_core.proofs.Lengths.{all_fit}
use Rattle.nl_core.proofs.nla_list.emit_attributes.Goals as goal

pub emit-requires-clause-fits : goal.emit-requires-clause-fits
emit-requires-clause-fits g c = all_fit g.X.Nla.kind_as_written g.X.Nla.value_text c.args.xs.now c.requires.fits
