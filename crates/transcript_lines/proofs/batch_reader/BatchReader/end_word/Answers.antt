use Rattle.transcript_lines.proofs.BatchWords.{word_ends_none, word_ends_some}
use Rattle.transcript_lines.proofs.batch_reader.BatchReader.end_word.Goals as goal

pub returns-in_default : goal.returns-in_default
returns-in_default c = word_ends_none c.args.self c.in_default.ensures

pub returns : goal.returns
returns c = word_ends_some c.args.self c.in-Some.frame c.push.new.self c.in_ok-push.ensures.ok c.in-Some.ensures
