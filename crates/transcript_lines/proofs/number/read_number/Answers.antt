use Rattle.std.proofs.Common.{[]}
use Rattle.transcript_lines.proofs.number.read_number.Goals as goal

pub returns : goal.returns
returns c = c.end.ensures c.args.word.now (c.feed.ensures [] c.new.ensures)
