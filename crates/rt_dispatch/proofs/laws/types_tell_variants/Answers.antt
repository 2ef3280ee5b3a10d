use Rattle.rt_dispatch.proofs.Types.{types-tell}
use Rattle.rt_dispatch.proofs.laws.types_tell_variants.Goals as goal

pub returns : goal.returns
returns c = types-tell
