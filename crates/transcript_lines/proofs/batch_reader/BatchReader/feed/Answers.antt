use Rattle.transcript_lines.proofs.BatchWords.{piece_ends, piece_none, piece_some}
use Rattle.transcript_lines.proofs.batch_reader.BatchReader.feed.Goals as goal

pub returns-in_default-2 : goal.returns-in_default-2
returns-in_default-2 c =
    let i = c.loop-word.invariant in
    piece_none c.args.self c.loop-word.reader c.in_ok-take_word.field-0 i.0 c.in-Some.word.now c.in-Some.after.now c.loop-word.rest.now c.args.piece.now
    i.1 c.in-Some.ensures.1 i.2 c.in_ok-take_word.ensures (rw c.in_default-2.is at c.in_ok-next.ensures)

pub loop-word-preserved : goal.loop-word-preserved
loop-word-preserved c =
    let i = c.loop-word.invariant in
    piece_some c.args.self c.loop-word.reader c.in_ok-take_word.field-0 c.in-Some-2.next i.0 c.in-Some.word.now c.in-Some.after.now c.loop-word.rest.now
    c.args.piece.now i.1 c.in-Some.ensures.1 i.2 c.in_ok-take_word.ensures (rw c.in-Some-2.is at c.in_ok-next.ensures)

pub returns : goal.returns
returns c =
    let i = c.loop-word.invariant in
    piece_ends c.args.self c.loop-word.reader c.in_ok-take_word-2.field-0 i.0 c.loop-word.rest.now c.args.piece.now i.1 i.2 c.in_ok-take_word-2.ensures
