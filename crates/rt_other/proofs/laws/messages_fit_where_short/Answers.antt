use Rattle.rt_other.proofs.MessageReadBack.{messages-fit}
use Rattle.rt_other.proofs.laws.messages_fit_where_short.Goals as goal

pub returns : goal.returns
returns g c = messages-fit _ _ _
