use Rattle.rt_other.proofs.MessageReadBack.{messages-again}
use Rattle.rt_stats.proofs.Forms.{stats_form, stats-laws}
use Rattle.rt_stats.proofs.laws.statistics_messages_read_back.Goals as goal

pub returns : goal.returns
returns c = λ m fit back. messages-again stats_form stats-laws m fit back.0 back.1
