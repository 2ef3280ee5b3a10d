use Rattle.nl_core.proofs.Lengths.{fits_where_short}
use Rattle.nl_core.proofs.laws.attributes_fit_where_short.Goals as goal

pub returns : goal.returns
returns g c = fits_where_short _ _
