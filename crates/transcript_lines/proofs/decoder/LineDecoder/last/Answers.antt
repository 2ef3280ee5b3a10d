use Rattle.std.proofs.Common.{◌++◌, IfOk, List, ℕ, Ok, Err, Result}
use Rattle.session_model.specs.Transcript.{IsRecord}
use Rattle.transcript_lines.specs.LineDecoder.{IsLineOf, Stands}
use Rattle.transcript_lines.proofs.decoder.LineDecoder.last.Goals as goal

-- What is told of the bytes taken by then, by those taken before.
told_later : {X E : Type 0} (Is : List ℕ → X → Type 0) (Before After : List ℕ → Type 0) (piece : List ℕ) (result : Result X E)
    → IfOk result (λ x. (taken : List ℕ) → After taken → Is taken x) → ((taken : List ℕ) → Before taken → After (taken ++ piece))
    → IfOk result (λ x. (taken : List ℕ) → Before taken → Is (taken ++ piece) x)
told_later Is Before After piece (Ok x) tells feeds = λ taken h. tells (taken ++ piece) (feeds taken h)
told_later Is Before After piece (Err e) tells feeds = tells

pub returns-clause-told : goal.returns-clause-told
returns-clause-told g c =
    told_later (IsLineOf (IsRecord g.T.NetlinkDeserializable.reads)) (λ taken. Stands taken c.args.self.now) _ c.args.piece.now c.end.result
    c.end.ensures.told c.in_ok-take.ensures
