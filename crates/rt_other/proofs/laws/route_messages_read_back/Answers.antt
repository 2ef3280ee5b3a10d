use Rattle.rt_other.proofs.MessageReadBack.{messages-again}
use Rattle.rt_other.proofs.Forms.{route_form, route-laws}
use Rattle.rt_other.proofs.laws.route_messages_read_back.Goals as goal

pub returns : goal.returns
returns c = λ m fit back. messages-again route_form route-laws m fit back.0 back.1
