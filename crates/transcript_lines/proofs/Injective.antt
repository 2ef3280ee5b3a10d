-- Records that have one line are one record.
use Rattle.std.proofs.Common.{◌≡◌, List, ℕ, [], ◌∷◌, ◌++◌, Result, sym, ◌∙◌, ap, subst}
use Rattle.std.specs.List.{join_with_byte}
use Rattle.nl_core.specs.declared.error.DecodeError.{DecodeError}
use Rattle.session_model.specs.Causes.{IsNoRecord}
use Rattle.session_model.specs.Transcript.{IsSpelled, IsRecord, HasWholeFrames, record_words, record_line}
use Rattle.session_model.specs.declared.transcript.Record.{Record}
use Rattle.transcript_lines.proofs.Candidates.{candidate, candidate_back}
use Rattle.transcript_lines.proofs.Lines.{record_joined, words_of_line}

-- Records of one list of words are one: the one that the words can be of.
by_words : (r s : Record) → IsSpelled r → IsSpelled s → record_words r ≡ record_words s → r ≡ s
by_words r s h k e = sym (candidate_back r h) ∙ ap candidate e ∙ candidate_back s k

-- Records of one line are one record.
pub record_of_line : (r s : Record) → IsSpelled r → IsSpelled s → record_line r ≡ record_line s → r ≡ s
record_of_line r s h k e = by_words r s h k (sym (record_joined r h) ∙ words_of_line (join_with_byte 32 (record_words r)) s k e)

-- A line that spells what is no record is no record's.
pub not_whole : {M : Type 0} (reads : ℕ → List ℕ → Result M DecodeError) (line : List ℕ) (entry : Record) → IsSpelled entry
    → line ++ 10 ∷ [] ≡ record_line entry → (HasWholeFrames reads entry → ⊥) → IsNoRecord (IsRecord reads) line
not_whole reads line entry spelled is not r built e =
    let same : r ≡ entry = record_of_line r entry built.0 spelled (sym e ∙ is) in
    not (subst (HasWholeFrames reads) same built.1)
