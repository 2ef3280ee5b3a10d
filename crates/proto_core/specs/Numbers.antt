-- The numbers of messages, and of what is awaited.
use Rattle.std.specs.Prelude.{◌+◌, ◌<◌, ◌==◌, ℕ, zero, suc, Bool, not, List, [], ◌∷◌, map}
use Rattle.std.specs.List.{filter, list_any, AllByRecursion}
use Rattle.nl_core.specs.declared.message.NetlinkMessage.{NetlinkMessage}
use Rattle.session_model.specs.declared.awaited.Awaited.{Awaited}

-- So many numbers, each one more than the one before it, from the one that follows `last`.
abbrev pub numbers_after : ℕ → ℕ → List ℕ
numbers_after last zero = []
numbers_after last (suc n) = (last + 1) ∷ numbers_after (last + 1) n

-- The numbers of messages.
abbrev pub numbers_of : {T : Type 0} → List (NetlinkMessage T) → List ℕ
numbers_of ms = map (λ m. m.header.sequence_number) ms

module _ {M : Type 0} where
  -- Each number is below all that stand after it, so no number stands twice.
  abbrev pub IsAscending : List (Awaited M) → Type 0
  IsAscending [] = Unit {0}
  IsAscending (w ∷ ws) = AllByRecursion (λ (v : Awaited M). w.number < v.number) ws × IsAscending ws

  -- Each number is below a bound.
  abbrev pub AreBelow : ℕ → List (Awaited M) → Type 0
  AreBelow bound ws = AllByRecursion (λ (w : Awaited M). w.number < bound) ws

  -- Whether a number is awaited from some port.
  abbrev pub is_awaited : ℕ → List (Awaited M) → Bool
  is_awaited number ws = list_any (λ (w : Awaited M). w.number == number) ws

  -- What is awaited under other numbers.
  abbrev pub without : ℕ → List (Awaited M) → List (Awaited M)
  without number ws = filter (λ (w : Awaited M). not (w.number == number)) ws
