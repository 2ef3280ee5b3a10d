-- What a handle's call makes of a connection.
use Rattle.std.specs.Prelude.{◌≡◌, ◌+◌, ◌<◌, ◌^◌, ℕ, Bool, true, false, List, map, length}
use Rattle.std.specs.List.{list_all}
use Rattle.nl_core.specs.Frames.{message_fits}
use Rattle.nl_core.specs.declared.message.NetlinkMessage.{NetlinkMessage}
use Rattle.session_model.specs.declared.address.SocketAddr.{SocketAddr}
use Rattle.proto_core.specs.declared.request.ExpectResponse.{ExpectResponse}
use Rattle.proto_core.specs.declared.request.ReplyExpectation.{ReplyExpectation}
use Rattle.proto_core.specs.declared.request.ReplyExpectation.TheVariants as reply
use Rattle.proto_conn.specs.Conn.{Conn, next_request, queued, refuses, used}

-- Whether a message awaits a reply.
abbrev pub is_expected : ReplyExpectation → Bool
is_expected reply.Expected = true
is_expected reply.NotExpected = false

abbrev pub messages_of : {T : Type 0} → List (NetlinkMessage T × ReplyExpectation) → List (NetlinkMessage T)
messages_of {T} ps = map (λ (p : NetlinkMessage T × ReplyExpectation). p.0) ps

abbrev pub marks_of : {T : Type 0} → List (NetlinkMessage T × ReplyExpectation) → List Bool
marks_of {T} ps = map (λ (p : NetlinkMessage T × ReplyExpectation). is_expected p.1) ps

-- A request was queued under the next stream: requests are taken, there are numbers for its messages, and each fits.
pub record IsQueued {T S : Type 0} (text : T → List ℕ) (fits : T → Bool) (before : Conn T S) (messages : List (NetlinkMessage T))
    (expect : ExpectResponse) (destination : SocketAddr) (now : Conn T S) : Type 0 where
  pub queue : now ≡ queued (next_request before messages expect destination) before
  pub takes : refuses before ≡ false
  pub in_range : used before + length messages < 2 ^ 32
  pub fit : list_all (message_fits text fits) messages ≡ true
