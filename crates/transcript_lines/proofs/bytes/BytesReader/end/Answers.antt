use Rattle.transcript_lines.proofs.HexDigits.{no_end}
use Rattle.transcript_lines.proofs.bytes.BytesReader.end.Goals as goal

pub returns-in_default : goal.returns-in_default
returns-in_default c fed r = no_end fed c.args.self.bytes.items c.args.self.last r c.in_default.not-Dash c.in_default.not-Whole
