-- What the steps of a codec's walk over bytes tell.
use Rattle.std.specs.Prelude.{ℕ, if◌then◌else◌, List, Option, Some, None, Result, Ok, Err}
use Rattle.nl_core.specs.declared.error.DecodeError.{DecodeError}
use Rattle.nl_core.specs.declared.header.NetlinkHeader.{NetlinkHeader}
use Rattle.nl_core.specs.Frames.{header_at}
use Rattle.session_model.specs.Cut.{begins}

-- The header of the frame at the front, if one begins there.
abbrev pub front_header : List ℕ → Option NetlinkHeader
front_header bytes = if begins bytes then Some (header_at bytes) else None

-- What was read, if it could be.
abbrev pub if_read : {X : Type 0} → Result X DecodeError → Option X
if_read (Ok m) = Some m
if_read (Err e) = None
