-- Errors that leave a function by `?`, and counts of faults.
use Rattle.std.proofs.Common.{◌≡◌, ◌≤◌, inl, inr, ℕ, Result, Ok, Err, IfErr, sym, ◌∙◌, subst, arith}
use Rattle.std.specs.Result.{IsErrAnd}
use Rattle.transcript_io.specs.Io.{HasRisen}

-- What holds of one error holds where the error is this one.
pub err_from : {X E : Type 0} (r : Result X E) (e0 : E) (P : E → Type 0) → IsErrAnd r (λ e. e ≡ e0) → P e0 → IfErr r P
err_from (Ok x) e0 P h p = tt
err_from (Err e) e0 P h p = subst P (sym h) p

-- An error that leaves a function is the one that it was.
pub err_same : {X E : Type 0} (r : Result X E) (e0 e1 : E) → IsErrAnd r (λ e. e ≡ e0) → r ≡ Err e1 → e0 ≡ e1
err_same (Ok x) e0 e1 h is = cc
err_same (Err e) e0 e1 h is = let same : e ≡ e1 = cc in sym h ∙ same

-- What holds of an error for one reason holds of it for another.
pub err_map : {X E : Type 0} (r : Result X E) (P Q : E → Type 0) → IfErr r P → ((e : E) → P e → Q e) → IfErr r Q
err_map (Ok x) P Q h f = tt
err_map (Err e) P Q h f = f e h

-- What holds of an error holds of the answer that is this error.
pub of_err : {X E : Type 0} (r : Result X E) (e0 : E) (P : Result X E → Type 0) → IsErrAnd r (λ e. e ≡ e0) → P (Err e0) → P r
of_err (Ok x) e0 P h p = absurd h
of_err (Err e) e0 P h p = subst (λ z. P (Err z)) (sym h) p

-- A count that rose has risen at every later moment too.
pub risen_still : (a b c : ℕ) → HasRisen a b → b ≤ c → HasRisen a c
risen_still a b c (inl low) h = inl (omega (arith, low, h))
risen_still a b c (inr top) h = inr (omega (arith, top, h))
