use Rattle.std.proofs.Common.{arith}
use Rattle.transcript_lines.specs.BytesReader.{ReadsBytes}
use Rattle.transcript_lines.proofs.Pieces.{begins, goes_on, ends}
use Rattle.transcript_lines.proofs.bytes.BytesReader.take_each.Goals as goal

pub loop-byte-init : goal.loop-byte-init
loop-byte-init c fed r = begins (λ w. ReadsBytes w c.args.self.now) fed c.args.piece.now r

pub loop-byte-preserved : goal.loop-byte-preserved
loop-byte-preserved c fed r =
    goes_on (λ w. ReadsBytes w c.take.new.self) fed c.args.piece.now c.loop-byte.byte-index (omega arith) (c.in_ok-take.ensures _ (c.loop-byte.invariant fed r))

pub returns : goal.returns
returns c fed r = ends (λ w. ReadsBytes w c.loop-byte.self) fed c.args.piece.now c.loop-byte.byte-index (omega arith) (c.loop-byte.invariant fed r)
