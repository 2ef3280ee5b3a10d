-- What waits is handled by itself, and what came is handed on.
use Rattle.std.specs.Prelude.{ℕ, List, [], flat_map, length, Result}
use Rattle.nl_core.specs.declared.error.DecodeError.{DecodeError}
use Rattle.session_model.specs.Events.{Arrival, arrivals}
use Rattle.proto_conn.specs.Conn.{Conn, forwarded}
use Rattle.proto_conn.specs.Reading.{takes}
use Rattle.proto_conn.specs.Seen.{brings}

module _ {M S : Type 0} (reads : ℕ → List ℕ → Result M DecodeError) where
  -- The messages of what waits.
  abbrev pub waiting_arrivals : Conn M S → List (Arrival M)
  waiting_arrivals c = arrivals (flat_map (brings reads) c.waiting)

  -- They are taken in, and all that came is handed on.
  abbrev pub settled : Conn M S → Conn M S
  settled c = forwarded (record c { waiting = []; session = takes (waiting_arrivals c) c.session })

  -- How many they are.
  abbrev pub settles : Conn M S → ℕ
  settles c = length (waiting_arrivals c)
