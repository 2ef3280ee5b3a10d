use Rattle.nl_core.proofs.AttributeReadBack.{read-lists-again}
use Rattle.nl_core.proofs.laws.read_lists_read_back.Goals as goal

pub returns : goal.returns
returns g c = λ param. read-lists-again _ _ _
