use Rattle.transcript_lines.proofs.HexDigits.{no_other}
use Rattle.transcript_lines.proofs.bytes.BytesReader.other.Goals as goal
use Rattle.transcript_lines.proofs.bytes.BytesReader.other.Goals.{in_default-via-in-Begin+else-byte-eq45, in_default-via-in_default}

pub returns-in_default : goal.returns-in_default
returns-in_default c fed r = no_other fed c.args.self.now.bytes.items c.args.self.now.last c.args.byte c.requires
    (elim c.in_default.branch [
      | in_default-via-in-Begin+else-byte-eq45 w ↦ λ _. w.if-byte-eq45.false
      | in_default-via-in_default w ↦ λ p. absurd (w.in_default.not-Begin p)
    ])
    r
