-- Why a request isn't taken.
use Rattle.std.specs.Prelude.{◌≡◌, ◌+◌, ◌<◌, ◌≤◌, ◌^◌, ℕ, Bool, true, false, List, length, take, get_or}
use Rattle.std.specs.List.{list_all}
use Rattle.nl_core.specs.Frames.{message_fits}
use Rattle.nl_core.specs.declared.message.NetlinkMessage.{NetlinkMessage}
use Rattle.proto_core.specs.declared.request.RequestRefusal.{RequestRefusal}
use Rattle.proto_core.specs.declared.request.RequestRefusal.TheVariants.{SequenceExhausted, Unfit, NoMemory}

module _ {T : Type 0} (text : T → List ℕ) (fits : T → Bool) where
  -- Messages, after so many numbers, are refused: their numbers would pass the greatest, or else a
  -- message doesn't fit, and it is the first of them; or memory ran out.
  abbrev pub IsCause : ℕ → List (NetlinkMessage T) → RequestRefusal → Type 0
  IsCause last ms (SequenceExhausted used asked) = (used ≡ last) × (asked ≡ length ms) × (2 ^ 32 ≤ last + length ms)
  IsCause last ms (Unfit index) =
      (last + length ms < 2 ^ 32)
      × (list_all (message_fits text fits) (take index ms) ≡ true)
      × (index < length ms)
      × ((d : NetlinkMessage T) → message_fits text fits (get_or ms index d) ≡ false)
  IsCause last ms NoMemory = (last + length ms < 2 ^ 32) × (list_all (message_fits text fits) ms ≡ true)
