use Rattle.std.proofs.Common.{arith}
use Rattle.transcript_lines.specs.Number.{ReadsNumber}
use Rattle.transcript_lines.proofs.Pieces.{begins, goes_on, ends}
use Rattle.transcript_lines.proofs.number.NumberReader.feed.Goals as goal

pub loop-byte-init : goal.loop-byte-init
loop-byte-init c fed r = begins (λ w. ReadsNumber w c.args.self) fed c.args.piece.now r

pub loop-byte-preserved : goal.loop-byte-preserved
loop-byte-preserved c fed r =
    goes_on (λ w. ReadsNumber w c.next-reader.result) fed c.args.piece.now c.loop-byte.byte-index (omega arith)
    (c.next-reader.ensures _ (c.loop-byte.invariant fed r))

pub returns : goal.returns
returns c fed r = ends (λ w. ReadsNumber w c.loop-byte.reader) fed c.args.piece.now c.loop-byte.byte-index (omega arith) (c.loop-byte.invariant fed r)
