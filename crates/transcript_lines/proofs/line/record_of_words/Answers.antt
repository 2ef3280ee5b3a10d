use Rattle.transcript_lines.specs.Words.{words_left}
use Rattle.transcript_lines.proofs.RecordWords.{no_kind}
use Rattle.transcript_lines.proofs.line.record_of_words.Goals as goal

pub returns-in-None : goal.returns-in-None
returns-in-None c = no_kind (words_left c.args.words) c.in-Some.first.now (words_left c.next.new.self) c.in-Some.ensures.steps c.in-None.ensures
