use Rattle.transcript_lines.proofs.OneOutcome.{one_cause, valid_or_caused, one_reading}
use Rattle.mirror.specs.Format.{IsEntry, format}
use Rattle.mirror.proofs.laws.one_outcome.Goals as goal

pub returns-clause-one_cause : goal.returns-clause-one_cause
returns-clause-one_cause c s = one_cause format s IsEntry (λ r entry. entry.0)

pub returns-clause-valid_or_caused : goal.returns-clause-valid_or_caused
returns-clause-valid_or_caused c s = valid_or_caused format s IsEntry (λ r entry. entry.0)

pub returns-clause-one_reading : goal.returns-clause-one_reading
returns-clause-one_reading c s = one_reading format s IsEntry (λ r entry. entry.0)
