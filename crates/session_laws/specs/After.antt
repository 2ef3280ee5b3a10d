-- The state of a session after events, and the text of what it hands out.
use Rattle.std.specs.Prelude.{ℕ, List, [], length, flat_map}
use Rattle.nl_core.specs.Frames.{Format}
use Rattle.session_model.specs.declared.awaited.Awaited.{Awaited}
use Rattle.session_model.specs.declared.settings.Settings.{Settings}
use Rattle.session_model.specs.Events.{Event, arrivals}
use Rattle.session_model.specs.Awaited.{awaited, last_number}
use Rattle.session_model.specs.SessionText.{unsolicited_text, reply_text}
use Rattle.proto_core.specs.Session.{Session}
use Rattle.proto_core.specs.declared.messages.Response.{Response}
use Rattle.proto_core.specs.declared.messages.Incoming.{Incoming}

-- A session whose queues are empty: the last number, what is awaited, and how many messages arrived.
abbrev pub idle : {M : Type 0} → ℕ → List (Awaited ℕ) → ℕ → Session M ℕ
idle last ws arrived = record { last = last; awaited = ws; arrived = arrived; responses = []; incoming = []; outgoing = [] }

-- The session that events leave, where all that came of them was taken out.
abbrev pub session_after : {M : Type 0} → ℕ → List (Event M) → Session M ℕ
session_after start es = idle (last_number start es) (awaited start es) (length (arrivals es))

-- A session without the messages that wait to be handed out.
abbrev pub drained : {M : Type 0} → Session M ℕ → Session M ℕ
drained s = record s { responses = []; incoming = [] }

-- A session without what waits to be sent.
abbrev pub without_outgoing : {M : Type 0} → Session M ℕ → Session M ℕ
without_outgoing s = record s { outgoing = [] }

-- The line of a message that nothing awaited.
abbrev pub incoming_line : {M : Type 0} → Format M → Incoming M → List ℕ
incoming_line f i = unsolicited_text f i.arrival (record { message = i.message; source = i.source })

-- The line of a reply, unless it is kept back.
abbrev pub response_line : {M : Type 0} → Format M → Settings → Response M ℕ → List ℕ
response_line f s r = reply_text f s r.arrival r.metadata r.message

-- The lines of messages that nothing awaited, and those of replies.
abbrev pub incoming_lines : {M : Type 0} → Format M → List (Incoming M) → List ℕ
incoming_lines f incoming = flat_map (incoming_line f) incoming

abbrev pub response_lines : {M : Type 0} → Format M → Settings → List (Response M ℕ) → List ℕ
response_lines f s responses = flat_map (response_line f s) responses
