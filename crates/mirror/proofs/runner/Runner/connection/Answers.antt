use Rattle.std.proofs.Common.{refl}
use Rattle.mirror.proofs.TrackLaws.{connection_stands}
use Rattle.mirror.proofs.runner.Runner.connection.Goals as goal

pub returns : goal.returns
returns c s rs h = connection_stands s rs c.args.self.now c.args.self.now.connection refl h
