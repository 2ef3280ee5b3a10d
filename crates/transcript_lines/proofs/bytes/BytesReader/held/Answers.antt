use Rattle.std.proofs.Common.{arith}
use Rattle.transcript_lines.proofs.HexDigits.{fits_half}
use Rattle.transcript_lines.proofs.bytes.BytesReader.held.Goals as goal

pub returns-clause-half : goal.returns-clause-half
returns-clause-half c fed r =
    let bytes = c.args.self.now.bytes in
    omega (arith, c.len.ensures, bytes.ok.0, fits_half fed bytes.items c.args.self.now.last r)
