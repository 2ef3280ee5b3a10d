use Rattle.transcript_lines.proofs.Injective.{record_of_line}
use Rattle.transcript_lines.proofs.laws.one_record.Goals as goal

pub returns : goal.returns
returns c = record_of_line
