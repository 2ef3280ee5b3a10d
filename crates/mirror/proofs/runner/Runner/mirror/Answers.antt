use Rattle.std.proofs.Common.{refl}
use Rattle.mirror.proofs.ShownLaws.{mirror_stands}
use Rattle.mirror.proofs.runner.Runner.mirror.Goals as goal

pub returns : goal.returns
returns c s rs h = mirror_stands s rs c.args.self.now c.args.self.now.observers.mirror refl h
