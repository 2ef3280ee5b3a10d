use Rattle.rt_other.proofs.MessageReadBack.{messages-again}
use Rattle.rt_other.proofs.Forms.{tc_action_form, tc_action-laws}
use Rattle.rt_other.proofs.laws.tc_action_messages_read_back.Goals as goal

pub returns : goal.returns
returns c = λ m fit back. messages-again tc_action_form tc_action-laws m fit back.0 back.1
