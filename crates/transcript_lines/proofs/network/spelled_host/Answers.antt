use Rattle.transcript_lines.proofs.NetworkWords.{no_family}
use Rattle.transcript_lines.proofs.network.spelled_host.Goals as goal

pub returns-in_err-family_of : goal.returns-in_err-family_of
returns-in_err-family_of c = rw c.from_residual.ensures (no_family c.args.family.now c.args.digits.now c.in_err-family_of.ensures)
