use Rattle.rt_other.proofs.MessageReadBack.{messages-again}
use Rattle.rt_neighbour.proofs.Forms.{neighbour_form, neighbour-laws}
use Rattle.rt_neighbour.proofs.laws.neighbour_messages_read_back.Goals as goal

pub returns : goal.returns
returns c = λ m fit back. messages-again neighbour_form neighbour-laws m fit back.0 back.1
