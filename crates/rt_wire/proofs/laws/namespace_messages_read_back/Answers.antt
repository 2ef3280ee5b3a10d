use Rattle.rt_other.proofs.MessageReadBack.{messages-again}
use Rattle.rt_wire.proofs.Forms.{nsid_form, nsid-laws}
use Rattle.rt_wire.proofs.laws.namespace_messages_read_back.Goals as goal

pub returns : goal.returns
returns c = λ m fit back. messages-again nsid_form nsid-laws m fit back.0 back.1
