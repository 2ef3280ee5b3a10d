use Rattle.session_model.specs.Inner.{format_of}
use Rattle.session_model.specs.Transcript.{IsRecord}
use Rattle.transcript_lines.proofs.Decided.{line_decided}
use Rattle.transcript_lines.proofs.Outcomes.{has_outcome}
use Rattle.transcript_lines.proofs.laws.every_input_has_an_outcome.Goals as goal

pub returns : goal.returns
returns g c s input =
    let reads = g.T.NetlinkDeserializable.reads in
    let f = format_of reads g.T.NetlinkSerializable.kind g.T.NetlinkSerializable.text g.T.NetlinkSerializable.fitting in
    has_outcome f s (IsRecord reads) (line_decided reads) input
