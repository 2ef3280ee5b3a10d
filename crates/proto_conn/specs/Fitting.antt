-- Messages that have a frame.
use Rattle.std.specs.Prelude.{◌≡◌, ◌+◌, ◌<◌, ◌^◌, ℕ, Bool, true, List, [], ◌∷◌, length}
use Rattle.std.specs.List.{AllByRecursion, list_all}
use Rattle.nl_core.specs.Frames.{message_fits}
use Rattle.proto_core.specs.declared.messages.Outgoing.{Outgoing}
use Rattle.proto_core.specs.declared.request.Request.{Request}

module _ {T : Type 0} (text : T → List ℕ) (fits : T → Bool) where
  -- Each message of each request fits.
  abbrev pub RequestsFit : List (Request T ℕ) → Type 0
  RequestsFit rs = AllByRecursion (λ (r : Request T ℕ). list_all (message_fits text fits) r.messages ≡ true) rs

  -- Each message of each batch fits.
  abbrev pub BatchesFit : List (Outgoing T) → Type 0
  BatchesFit os = AllByRecursion (λ (o : Outgoing T). list_all (message_fits text fits) o.messages ≡ true) os

  -- There is an oldest request, its numbers are left after those that are used, and each of its messages fits.
  abbrev pub IsTakable : List (Request T ℕ) → ℕ → Type 0
  IsTakable [] used = ⊥
  IsTakable (r ∷ rs) used = (used + length r.messages < 2 ^ 32) × (list_all (message_fits text fits) r.messages ≡ true)

  -- There is an oldest batch, and each of its messages fits.
  abbrev pub AreSendable : List (Outgoing T) → Type 0
  AreSendable [] = ⊥
  AreSendable (o ∷ os) = list_all (message_fits text fits) o.messages ≡ true
