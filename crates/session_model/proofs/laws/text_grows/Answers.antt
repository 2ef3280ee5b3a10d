use Rattle.std.proofs.Common.{[]}
use Rattle.session_model.proofs.Places.{text_after-more}
use Rattle.session_model.proofs.laws.text_grows.Goals as goal

pub returns : goal.returns
returns g c s rs r =
    text_after-more (record { reads = g.I.NetlinkDeserializable.reads; kind = g.I.NetlinkSerializable.kind; text = g.I.NetlinkSerializable.text; fits = g.I.NetlinkSerializable.fitting }) s [] rs r
