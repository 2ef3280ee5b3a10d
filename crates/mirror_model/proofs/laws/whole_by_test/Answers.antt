use Rattle.mirror_model.proofs.WholeDumps as dumps
use Rattle.mirror_model.proofs.laws.whole_by_test.Goals as goal

pub returns : goal.returns
returns g c = λ o stream table later. dumps.whole_by_test o stream table later
