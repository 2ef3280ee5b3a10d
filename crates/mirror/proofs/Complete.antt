-- A run over a source that tells its bytes answers what they ask for.
use Rattle.std.proofs.Common.{◌≡◌, inl, inr, ℕ, List, [], ◌++◌, Option, Some, None, Result, Ok, Err, IfErr, refl, sym, ◌∙◌, ap, subst}
use Rattle.std.specs.Prelude.{◌⊎◌, IfOk, OnOk}
use Rattle.std.specs.Io.KnownBytes.{IsAtEnd}
use Rattle.std.proofs.lemmas.List.{append-nil}
use Rattle.session_model.specs.declared.settings.Settings.{Settings}
use Rattle.session_model.specs.declared.outcome.Report.{Report}
use Rattle.session_model.specs.declared.outcome.RunFault.{RunFault}
use Rattle.session_model.specs.declared.outcome.RunFault.TheVariants as run
use Rattle.session_model.specs.declared.transcript.Record.{Record}
use Rattle.session_model.specs.Causes.{HasCause, IsValid}
use Rattle.session_model.specs.Transcript.{lines_of}
use Rattle.transcript_lines.proofs.OneOutcome.{one_cause, valid_or_caused}
use Rattle.transcript_io.specs.Io.{Traffic, with_front}
use Rattle.mirror.specs.Format.{IsEntry, format}
use Rattle.mirror.specs.Outcome.{EndsBy, EndsByCause, IsComplete, IsNoCause, WasEnded, WasRun}

-- What is left of bytes that are told is told.
pub left_told : (front input : List ℕ) (left : Option (List ℕ)) → Some input ≡ with_front front left
    → (after : List ℕ) × (left ≡ Some after) × (input ≡ front ++ after)
left_told front input None e = cc
left_told front input (Some after) e = let same : input ≡ front ++ after = cc in (after, refl, same)

-- A fault is a cause of an input, or one that no input asks for.
abbrev IsFound : Settings → List ℕ → Type 0 → Type 0 → RunFault → Type 0
IsFound s input R W e = ((rs : List Record) × HasCause format s IsEntry input rs e) ⊎ IsNoCause R W e

module _ (s : Settings) (io : Traffic) (input : List ℕ) (told : io.left_before ≡ Some input) where
  -- A run that is done has run the whole input.
  all_run : (report : Report) → WasRun s io report → IsAtEnd io.left_after
      → (rs : List Record) × IsValid format s IsEntry input rs
  all_run report h end =
      let a = left_told h.input input io.left_after (sym told ∙ h.read) in
      let none : a.0 ≡ [] = subst IsAtEnd a.1 end in
      let whole : input ≡ h.input = a.2 ∙ ap (λ z. h.input ++ z) none ∙ append-nil h.input in
      (h.records, subst (λ z. IsValid format s IsEntry z h.records) (sym whole) h.valid)

  -- A fault of the input is a cause of it.
  cause_of : (rs : List Record) (part lost : List ℕ) (e : RunFault) → io.left_before ≡ with_front (lines_of rs ++ part) io.left_after
      → EndsByCause s io.left_after rs part lost e → HasCause format s IsEntry input rs e
  cause_of rs part lost e read ends =
      let a = left_told (lines_of rs ++ part) input io.left_after (sym told ∙ read) in
      subst (λ z. HasCause format s IsEntry z rs e) (sym a.2) (ends.1 a.0 a.1)

  -- A run that ended by a fault ended by a cause of the input, or by none that an input asks for.
  cause_or_none : (R W : Type 0) (e : RunFault) → WasEnded s io e → (e ≡ run.ReadFault → R) → (e ≡ run.WriteFault → W)
      → IsFound s input R W e
  cause_or_none R W e h read write = by e h.ends read write
    where
      found : (e : RunFault) → EndsByCause s io.left_after h.stands.records h.stands.part h.stands.lost e
          → (rs : List Record) × HasCause format s IsEntry input rs e
      found e ends = (h.stands.records, cause_of h.stands.records h.stands.part h.stands.lost e h.stands.read ends)

      by : (e : RunFault) → EndsBy s io.left_after h.stands.records h.stands.part h.stands.lost e
          → (e ≡ run.ReadFault → R) → (e ≡ run.WriteFault → W) → IsFound s input R W e
      by (run.BadRecord at) ends r w = inl (found (run.BadRecord at) ends)
      by (run.Closed at) ends r w = inl (found (run.Closed at) ends)
      by (run.SequenceExhausted at) ends r w = inl (found (run.SequenceExhausted at) ends)
      by (run.Unfit at) ends r w = inl (found (run.Unfit at) ends)
      by run.Limit ends r w = inl (found run.Limit ends)
      by run.ReadFault ends r w = inr (r refl)
      by run.WriteFault ends r w = inr (w refl)
      by run.NoMemory ends r w = inr tt

-- A run that is done ran a valid input.
pub complete_ok : (s : Settings) (io : Traffic) (report : Report) (R W : Type 0) → WasRun s io report
    → IsAtEnd io.left_after → IsComplete s io.left_before (Ok report) R W
complete_ok s io report R W h end = record {
  valid = λ input rs told v. tt;
  caused = λ input rs cause told c.
      let a = all_run s io input told report h end in
      valid_or_caused format s IsEntry (λ r entry. entry.0) input a.0 rs cause a.1 c;
}

-- A run that ended by a fault ended by the cause of its input, or by none that an input asks for.
pub complete_err : (s : Settings) (io : Traffic) (e : RunFault) (R W : Type 0) → WasEnded s io e
    → (e ≡ run.ReadFault → R) → (e ≡ run.WriteFault → W) → IsComplete s io.left_before (Err e) R W
complete_err s io e R W h read write = record {
  valid = λ input rs told v. by_valid input rs v (cause_or_none s io input told R W e h read write);
  caused = λ input rs cause told c. by_cause input rs cause c (cause_or_none s io input told R W e h read write);
}
  where
    by_valid : (input : List ℕ) (rs : List Record) → IsValid format s IsEntry input rs → IsFound s input R W e → IsNoCause R W e
    by_valid input rs v (inl f) = absurd (valid_or_caused format s IsEntry (λ r entry. entry.0) input rs f.0 e v f.1)
    by_valid input rs v (inr n) = n

    by_cause : (input : List ℕ) (rs : List Record) (cause : RunFault) → HasCause format s IsEntry input rs cause → IsFound s input R W e
        → (e ≡ cause) ⊎ IsNoCause R W e
    by_cause input rs cause c (inl f) =
        let one = one_cause format s IsEntry (λ r entry. entry.0) input f.0 rs e cause f.1 c in inl one.1
    by_cause input rs cause c (inr n) = inr n

-- That a run is complete follows from what its answers say.
pub complete_from : (s : Settings) (io : Traffic) (r : Result Report RunFault) (R W : Type 0) → IfOk r (WasRun s io)
    → OnOk r (IsAtEnd io.left_after) → IfErr r (WasEnded s io) → (r ≡ Err run.ReadFault → R)
    → (r ≡ Err run.WriteFault → W) → IsComplete s io.left_before r R W
complete_from s io (Ok report) R W ok end ended read write = complete_ok s io report R W ok end
complete_from s io (Err e) R W ok end ended read write =
    complete_err s io e R W ended (λ is. read (ap Err is)) (λ is. write (ap Err is))
