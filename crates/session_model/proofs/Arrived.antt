-- What nothing awaits takes nothing away.
use Rattle.std.proofs.Common.{◌≡◌, ◌&&◌, true, false, not, cond, List, [], ◌∷◌, Some, None, refl, ap}
use Rattle.session_model.specs.declared.awaited.Awaited.{Awaited}
use Rattle.session_model.specs.Events.{Arrival}
use Rattle.session_model.specs.Awaited.{answers, is_last, after_arrival, first_awaiting}

module _ {M : Type 0} where
  -- An arrival that nothing awaits ends nothing.
  pub none_ended : {S : Type 0} (a : Arrival M) (ws : List (Awaited S))
      → first_awaiting a.message.header.sequence_number a.source.port ws ≡ None → after_arrival a ws ≡ ws
  none_ended a [] e = refl
  none_ended a (w ∷ ws) e =
      let n = a.message.header.sequence_number in
      let p = a.source.port in
      let later = after_arrival a ws in
      elim (answers n p w) as (λ b. cond b (Some w) (first_awaiting n p ws) ≡ None
      → cond (not (b && is_last a.message w.acks)) (w ∷ later) later ≡ w ∷ ws) [
        | true ↦ λ f. cc
        | false ↦ λ f. ap (λ vs. w ∷ vs) (none_ended a ws f)
      ] e
