-- What the law of this crate says.
use Rattle.std.specs.Prelude.{◌≤◌, ℕ}
use Rattle.nl_core.specs.Frames.{Format}
use Rattle.session_model.specs.Causes.{IsValid}
use Rattle.session_model.specs.Transcript.{IsRecord}
use Rattle.session_model.specs.Usual.{usual}
use Rattle.transcript_generator.specs.Generated.{gen_text, generated, most_routes}

-- A generated text is a valid input under the usual settings, whatever the inner messages of a session are.
abbrev pub IsValidInput : {M : Type 0} → Format M → Type 0
IsValidInput f = (n : ℕ) → n ≤ most_routes → IsValid f usual (IsRecord f.reads) (gen_text n) (generated n)
