use Rattle.rt_other.proofs.MessageReadBack.{messages-again}
use Rattle.rt_wire.proofs.Forms.{prefix_form, prefix-laws}
use Rattle.rt_wire.proofs.laws.prefix_messages_read_back.Goals as goal

pub returns : goal.returns
returns c = λ m fit back. messages-again prefix_form prefix-laws m fit back.0 back.1
