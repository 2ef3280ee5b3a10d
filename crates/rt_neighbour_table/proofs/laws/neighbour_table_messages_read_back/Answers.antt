use Rattle.rt_other.proofs.MessageReadBack.{messages-again}
use Rattle.rt_neighbour_table.proofs.Forms.{neighbour_table_form, neighbour_table-laws}
use Rattle.rt_neighbour_table.proofs.laws.neighbour_table_messages_read_back.Goals as goal

pub returns : goal.returns
returns c = λ m fit back. messages-again neighbour_table_form neighbour_table-laws m fit back.0 back.1
