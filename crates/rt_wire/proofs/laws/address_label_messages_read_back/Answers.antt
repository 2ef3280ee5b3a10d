use Rattle.rt_other.proofs.MessageReadBack.{messages-again}
use Rattle.rt_wire.proofs.Forms.{addrlabel_form, addrlabel-laws}
use Rattle.rt_wire.proofs.laws.address_label_messages_read_back.Goals as goal

pub returns : goal.returns
returns c = λ m fit back. messages-again addrlabel_form addrlabel-laws m fit back.0 back.1
