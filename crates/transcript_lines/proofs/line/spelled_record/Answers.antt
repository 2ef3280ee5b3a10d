use Rattle.std.proofs.Common.{subst}
use Rattle.transcript_lines.specs.Line.{IsRecordOf}
use Rattle.transcript_lines.proofs.Lines.{line_some, line_none, if_ok}
use Rattle.transcript_lines.proofs.line.spelled_record.Goals as goal

pub returns-clause-some : goal.returns-clause-some
returns-clause-some c = if_ok _ _ _ c.record_of_words.ensures (λ o h. line_some c.args.line.now o (subst (λ words. IsRecordOf words o) c.new.ensures h))

pub returns-clause-none : goal.returns-clause-none
returns-clause-none c = if_ok _ _ _ c.record_of_words.ensures (λ o h. line_none c.args.line.now o (subst (λ words. IsRecordOf words o) c.new.ensures h))
