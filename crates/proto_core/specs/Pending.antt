-- A map by number, as the list of what is awaited.
use Rattle.std.specs.Prelude.{ℕ, List, map}
use Rattle.session_model.specs.declared.awaited.Awaited.{Awaited}
use Rattle.proto_core.specs.declared.pending.Pending.{Pending}

-- What one entry of the map says.
abbrev pub awaited_of : {M : Type 0} → ℕ × Pending M → Awaited M
awaited_of e = record { number = e.0; port = e.1.port; stream = e.1.tag; acks = e.1.acks }

-- The entries of the map, in the order of their numbers.
abbrev pub listed : {M : Type 0} → List (ℕ × Pending M) → List (Awaited M)
listed es = map awaited_of es
