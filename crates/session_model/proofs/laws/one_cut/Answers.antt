use Rattle.session_model.proofs.Cuts.{is_cut, only_cut}
use Rattle.session_model.proofs.laws.one_cut.Goals as goal

pub returns-clause-is : goal.returns-clause-is
returns-clause-is c bytes = is_cut bytes

pub returns-clause-only : goal.returns-clause-only
returns-clause-only c bytes frames rest cut = only_cut bytes frames rest cut
