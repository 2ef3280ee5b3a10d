use Rattle.rt_other.proofs.MessageReadBack.{messages-again}
use Rattle.rt_other.proofs.Forms.{tc_form, tc-laws}
use Rattle.rt_other.proofs.laws.tc_messages_read_back.Goals as goal

pub returns : goal.returns
returns c = λ m fit back. messages-again tc_form tc-laws m fit back.0 back.1
