use Rattle.rt_other.proofs.MessageReadBack.{messages-again}
use Rattle.rt_other.proofs.Forms.{rule_form, rule-laws}
use Rattle.rt_other.proofs.laws.rule_messages_read_back.Goals as goal

pub returns : goal.returns
returns c = λ m fit back. messages-again rule_form rule-laws m fit back.0 back.1
