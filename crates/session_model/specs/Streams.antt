-- Which streams are open, and which ones close.
use Rattle.std.specs.Prelude.{◌==◌, ◌&&◌, ℕ, zero, suc, Bool, true, false, not, List, [], ◌∷◌, ◌++◌, nat_lt}
use Rattle.std.specs.List.{filter, list_any}
use Rattle.session_model.specs.declared.awaited.Awaited.{Awaited}
use Rattle.session_model.specs.Events.{Event, Sent, Came, Unread, Leftover, Overran, Shut, Other}
use Rattle.session_model.specs.Awaited.{awaited, batch_count}

-- Whether an event closes the link.
abbrev pub shuts : {M : Type 0} → Event M → Bool
shuts Shut = true
shuts (Sent to frames) = false
shuts (Came m source) = false
shuts (Unread kind number source) = false
shuts (Leftover count source) = false
shuts Overran = false
shuts (Other aside) = false

-- Whether the link has closed.
abbrev pub is_shut : {M : Type 0} → List (Event M) → Bool
is_shut es = list_any shuts es

-- A stream is open while a number of it is awaited and the link isn't closed.
abbrev pub is_open : {M : Type 0} → ℕ → List (Event M) → ℕ → Bool
is_open start es stream = not (is_shut es) && list_any (λ (w : Awaited ℕ). w.stream == stream) (awaited start es)

-- The numbers from 1 to n.
abbrev pub up_to : ℕ → List ℕ
up_to zero = []
up_to (suc n) = up_to n ++ suc n ∷ []

-- The streams that are open, ascending.
abbrev pub open_streams : {M : Type 0} → ℕ → List (Event M) → List ℕ
open_streams start es = filter (λ stream. is_open start es stream) (up_to (batch_count 0 es))

-- A stream has closed where it was asked by then and isn't open.
abbrev pub has_closed : {M : Type 0} → ℕ → List (Event M) → ℕ → Bool
has_closed start es stream = nat_lt stream (batch_count 1 es) && not (is_open start es stream)

-- The streams that close by events: closed by then, and not so before.
abbrev pub closing : {M : Type 0} → ℕ → List (Event M) → List (Event M) → List ℕ
closing start before es =
    filter (λ stream. has_closed start (before ++ es) stream && not (has_closed start before stream))
    (up_to (batch_count 0 (before ++ es)))
