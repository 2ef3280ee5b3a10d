-- Which messages of a request are awaited.
use Rattle.std.specs.Prelude.{◌+◌, ℕ, Bool, false, if◌then◌else◌, List, [], ◌∷◌, ◌++◌, get_or}
use Rattle.nl_core.specs.declared.header.NetlinkHeader.{NetlinkHeader}
use Rattle.nl_core.specs.declared.message.NetlinkMessage.{NetlinkMessage}
use Rattle.session_model.specs.declared.awaited.Awaited.{Awaited}
use Rattle.session_model.specs.Flags.{asks_ack, wants_reply}
use Rattle.proto_core.specs.declared.request.ExpectResponse.{ExpectResponse}
use Rattle.proto_core.specs.declared.request.ExpectResponse.TheVariants.{FromFlags, Explicit}
use Rattle.proto_core.specs.declared.request.Request.{Request}

-- Whether a message of a request is awaited, by its place and its header.
abbrev pub is_expected : ExpectResponse → ℕ → NetlinkHeader → Bool
is_expected FromFlags i h = wants_reply h
is_expected (Explicit marks) i h = get_or marks i false

-- What is noted of a message under a number, if it is awaited.
abbrev pub noted_one : {M : Type 0} → Bool → ℕ → M → ℕ → NetlinkHeader → List (Awaited M)
noted_one expected number tag port h = if expected then record { number = number; port = port; stream = tag; acks = asks_ack h } ∷ [] else []

-- What is noted of the messages from a place on, under the numbers that follow one.
abbrev pub noted : {T M : Type 0} → ExpectResponse → ℕ → ℕ → M → ℕ → List (NetlinkMessage T) → List (Awaited M)
noted expect i last tag port [] = []
noted expect i last tag port (m ∷ ms) = noted_one (is_expected expect i m.header) (last + 1) tag port m.header ++ noted expect (i + 1) (last + 1) tag port ms

-- What is noted of a request whose numbers follow one.
abbrev pub noted_of : {T M : Type 0} → Request T M → ℕ → List (Awaited M)
noted_of r last = noted r.expect_response 0 last r.metadata r.destination.port r.messages
