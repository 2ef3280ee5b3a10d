use Rattle.rt_other.proofs.Counters.{counters-again, read-counters-again}
use Rattle.rt_other.proofs.laws.counters_read_back.Goals as goal

pub returns : goal.returns
returns c = record { written = counters-again; read = read-counters-again }
