use Rattle.transcript_lines.proofs.OneAnswer.{pieces_agree}
use Rattle.transcript_lines.proofs.laws.pieces_agree.Goals as goal

pub returns : goal.returns
returns g c = pieces_agree g.T.NetlinkDeserializable.reads
