-- How many numbers of each stream are awaited, and which streams close.
use Rattle.std.specs.Prelude.{◌≡◌, ◌-◌, ◌==◌, ◌&&◌, ◌||◌, ℕ, zero, suc, Bool, true, false, not, cond, List, ◌++◌, length, nat_lt, Option, Some, None}
use Rattle.std.specs.List.{filter}
use Rattle.session_model.specs.declared.awaited.Awaited.{Awaited}
use Rattle.session_model.specs.Events.{Event}
use Rattle.session_model.specs.Awaited.{awaited}
use Rattle.session_model.specs.Streams.{is_open, is_shut}
use Rattle.proto_core.specs.declared.messages.Place.{Place}
use Rattle.proto_core.specs.declared.messages.Place.TheVariants.{Reply, Unsolicited}

-- How many numbers of a stream stand in a list.
abbrev pub awaited_in : ℕ → List (Awaited ℕ) → ℕ
awaited_in stream ws = length (filter (λ (w : Awaited ℕ). w.stream == stream) ws)

-- How many numbers of a stream are awaited, while the link is open.
abbrev pub open_count : {M : Type 0} → ℕ → List (Event M) → ℕ → ℕ
open_count start es stream = cond (is_shut es) 0 (awaited_in stream (awaited start es))

-- A count, unless it is zero.
abbrev pub if_any : ℕ → Option ℕ
if_any zero = None
if_any (suc n) = Some (suc n)

-- A table has the count of each open stream, and no other stream.
abbrev pub Counts : {M : Type 0} → (ℕ → Option ℕ) → ℕ → List (Event M) → Type 0
Counts at start es = (stream : ℕ) → at stream ≡ if_any (open_count start es stream)

-- Of the streams that were open before events, these are the ones that aren't open after them.
pub record Closes {M : Type 0} (closed : ℕ → Bool) (start : ℕ) (before es : List (Event M)) : Type 0 where
  pub all : (stream : ℕ) → is_open start before stream ≡ (closed stream || is_open start (before ++ es) stream)
  pub apart : (stream : ℕ) → (closed stream && is_open start (before ++ es) stream) ≡ false

-- A count less one.
abbrev pub one_less : Option ℕ → Option ℕ
one_less None = None
one_less (Some n) = if_any (n - 1)

-- Whether a count is that of a last number.
abbrev pub is_last_one : Option ℕ → Bool
is_last_one None = false
is_last_one (Some n) = not (nat_lt 1 n)

-- One number of a stream is awaited no longer: its count falls, and it closes where it was the last.
pub record Settles (stream : ℕ) (at at' : ℕ → Option ℕ) (closed closed' : ℕ → Bool) : Type 0 where
  pub left : (k : ℕ) → at' k ≡ cond (k == stream) (one_less (at stream)) (at k)
  pub shut : (k : ℕ) → closed' k ≡ (cond (k == stream) (is_last_one (at stream)) false || closed k)

-- A table and the streams that closed are as they were.
pub record Stays (at at' : ℕ → Option ℕ) (closed closed' : ℕ → Bool) : Type 0 where
  pub left : (k : ℕ) → at' k ≡ at k
  pub shut : (k : ℕ) → closed' k ≡ closed k

-- A number of a stream is awaited no longer, if a reply is its last; else all stays.
abbrev pub SettlesIf : Bool → ℕ → (ℕ → Option ℕ) → (ℕ → Option ℕ) → (ℕ → Bool) → (ℕ → Bool) → Type 0
SettlesIf true stream at at' closed closed' = Settles stream at at' closed closed'
SettlesIf false stream at at' closed closed' = Stays at at' closed closed'

-- The same by where a message went: only the last reply of a number settles it.
abbrev pub SettlesAt : Place ℕ → (ℕ → Option ℕ) → (ℕ → Option ℕ) → (ℕ → Bool) → (ℕ → Bool) → Type 0
SettlesAt (Reply stream done) at at' closed closed' = SettlesIf done stream at at' closed closed'
SettlesAt Unsolicited at at' closed closed' = Stays at at' closed closed'
