use Rattle.rt_other.proofs.MessageReadBack.{messages-again}
use Rattle.rt_other.proofs.Forms.{address_form, address-laws}
use Rattle.rt_other.proofs.laws.address_messages_read_back.Goals as goal

pub returns : goal.returns
returns c = λ m fit back. messages-again address_form address-laws m fit back.0 back.1
