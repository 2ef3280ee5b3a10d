use Rattle.rt_dispatch.proofs.ReadBack.{read-again}
use Rattle.rt_dispatch.proofs.laws.read_messages_read_back.Goals as goal

pub returns : goal.returns
returns c = read-again
