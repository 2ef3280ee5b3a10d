-- The lines of what a session hands out.
use Rattle.std.specs.Prelude.{ℕ, List, map}
use Rattle.nl_core.specs.Frames.{Format, message_text}
use Rattle.session_model.specs.declared.settings.Settings.{Settings}
use Rattle.session_model.specs.SessionText.{unsolicited_text, reply_text, sent_text}
use Rattle.proto_core.specs.declared.messages.Response.{Response}
use Rattle.proto_core.specs.declared.messages.Incoming.{Incoming}
use Rattle.proto_core.specs.declared.messages.Outgoing.{Outgoing}

-- The line of a message that nothing awaited.
abbrev pub incoming_text : {M : Type 0} → Format M → Incoming M → List ℕ
incoming_text f i = unsolicited_text f i.arrival (record { message = i.message; source = i.source })

-- The line of a reply, unless it is kept back.
abbrev pub response_text : {M : Type 0} → Format M → Settings → Response M ℕ → List ℕ
response_text f s r = reply_text f s r.arrival r.metadata r.message

-- The line of a datagram, by the bytes of its inner messages; none where it has no message.
abbrev pub outgoing_text : {M : Type 0} → (M → List ℕ) → Outgoing M → List ℕ
outgoing_text text o = sent_text o.destination (map (message_text text) o.messages)
