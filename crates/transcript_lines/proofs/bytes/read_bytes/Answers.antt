use Rattle.std.proofs.Common.{[]}
use Rattle.transcript_lines.proofs.bytes.read_bytes.Goals as goal

pub returns : goal.returns
returns c = c.end.ensures c.args.word.now (c.in_ok-feed.ensures [] c.in_ok-reader.ensures)
