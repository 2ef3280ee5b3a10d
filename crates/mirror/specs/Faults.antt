-- Which faults come from where.
use Rattle.session_model.specs.declared.outcome.RunFault.{RunFault}
use Rattle.session_model.specs.declared.outcome.RunFault.TheVariants as run

-- A fault of the input, or out of memory.
abbrev pub IsInputFault : RunFault → Type 0
IsInputFault (run.BadRecord at) = Unit {0}
IsInputFault (run.Closed at) = Unit {0}
IsInputFault (run.SequenceExhausted at) = Unit {0}
IsInputFault (run.Unfit at) = Unit {0}
IsInputFault run.Limit = Unit {0}
IsInputFault run.ReadFault = ⊥
IsInputFault run.WriteFault = ⊥
IsInputFault run.NoMemory = Unit {0}

-- A fault of the sink, or out of memory.
abbrev pub IsOutputFault : RunFault → Type 0
IsOutputFault (run.BadRecord at) = ⊥
IsOutputFault (run.Closed at) = ⊥
IsOutputFault (run.SequenceExhausted at) = ⊥
IsOutputFault (run.Unfit at) = ⊥
IsOutputFault run.Limit = ⊥
IsOutputFault run.ReadFault = ⊥
IsOutputFault run.WriteFault = Unit {0}
IsOutputFault run.NoMemory = Unit {0}

-- A fault of a step: the record isn't taken, or its text isn't written, or memory ran out.
abbrev pub IsStepFault : RunFault → Type 0
IsStepFault (run.BadRecord at) = ⊥
IsStepFault (run.Closed at) = Unit {0}
IsStepFault (run.SequenceExhausted at) = Unit {0}
IsStepFault (run.Unfit at) = Unit {0}
IsStepFault run.Limit = ⊥
IsStepFault run.ReadFault = ⊥
IsStepFault run.WriteFault = Unit {0}
IsStepFault run.NoMemory = Unit {0}
