use Rattle.transcript_lines.proofs.BatchWords.{word_goes_on}
use Rattle.transcript_lines.proofs.batch_reader.BatchReader.take_word.Goals as goal

pub returns : goal.returns
returns c = word_goes_on c.args.self c.args.piece.now c.in_ok-word.word c.requires c.in_ok-word.ensures
