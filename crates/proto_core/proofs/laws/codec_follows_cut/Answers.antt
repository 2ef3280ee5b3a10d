use Rattle.proto_core.proofs.FirstFrames.{front-cut, readable-cut, without_front-cut}
use Rattle.proto_core.proofs.laws.codec_follows_cut.Goals as goal

pub returns-clause-front : goal.returns-clause-front
returns-clause-front g c bytes frames rest cut = front-cut g.T.NetlinkDeserializable.reads bytes frames rest cut

pub returns-clause-without_front : goal.returns-clause-without_front
returns-clause-without_front g c bytes frames rest cut = without_front-cut bytes frames rest cut

pub returns-clause-readable : goal.returns-clause-readable
returns-clause-readable g c bytes frames rest cut = readable-cut g.T.NetlinkDeserializable.reads bytes frames rest cut
