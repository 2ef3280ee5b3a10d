use Rattle.rt_other.proofs.MessageReadBack.{messages-again}
use Rattle.rt_other.proofs.Forms.{link_form, link-laws}
use Rattle.rt_other.proofs.laws.link_messages_read_back.Goals as goal

pub returns : goal.returns
returns c = λ m fit back. messages-again link_form link-laws m fit back.0 back.1
