-- The next message that can be read.
use Rattle.std.specs.Prelude.{◌≡◌, ◌⊎◌, ℕ, List, [], ◌∷◌, ◌++◌, IfSome, Result, Some}
use Rattle.nl_core.specs.declared.error.DecodeError.{DecodeError}
use Rattle.nl_core.specs.declared.message.NetlinkMessage.{NetlinkMessage}
use Rattle.session_model.specs.declared.address.SocketAddr.{SocketAddr}
use Rattle.session_model.specs.Events.{Event, Came, Overran, overrun_arrival}
use Rattle.proto_core.specs.Codec.{readable}
use Rattle.proto_conn.specs.declared.framed.Dropped.{Dropped}
use Rattle.proto_conn.specs.declared.framed.Polled.{Polled}
use Rattle.proto_conn.specs.declared.framed.Polled.TheVariants as polled
use Rattle.proto_conn.specs.declared.framed.Step.{Step}
use Rattle.proto_conn.specs.declared.framed.Step.TheVariants as step
use Rattle.proto_conn.specs.Links.{Meaning, HasRisen}
use Rattle.proto_conn.specs.Seen.{Framing, DidRead, loss, shut_by}

abbrev pub losses_of : {M : Type 0} → List (Dropped × SocketAddr) → List (Event M)
losses_of [] = []
losses_of (l ∷ ls) = loss l.0 l.1 ∷ losses_of ls

module _ {M : Type 0} (reads : ℕ → List ℕ → Result M DecodeError) where
  -- A step at a reader whose first message is this: the message is read, or the reader still has it.
  abbrev pub ReadsOn : Step M → NetlinkMessage M → List ℕ → Type 0
  ReadsOn (step.Message m source) first bytes = Unit {0}
  ReadsOn (step.Lost d source) first bytes = readable reads bytes ≡ Some first
  ReadsOn step.Overrun first bytes = ⊥
  ReadsOn step.Fetched first bytes = ⊥
  ReadsOn step.Closed first bytes = ⊥
  ReadsOn step.Failed first bytes = ⊥
  ReadsOn step.NotYet first bytes = ⊥

  -- Where the reader has a message that can be read, the link isn't asked.
  pub record StaysInside {S : Type 0} (before : Framing S) (taken : Step M) (now : Framing S) : Type 0 where
    pub inside : IfSome (readable reads before.reader) (λ first. (now.link ≡ before.link) × ReadsOn taken first now.reader)

module _ {M : Type 0} (reads : ℕ → List ℕ → Result M DecodeError) {S : Type 0} (meaning : S → Meaning) where
  -- Losses, and then these events.
  pub record Skipped (before : Framing S) (es : List (Event M)) (now : Framing S) : Type 0 where
    pub losses : List (Dropped × SocketAddr)
    pub read : DidRead reads meaning before (losses_of losses ++ es) now

  -- The answer of a read: a message, an overrun as a message of its own, or why there is none.
  abbrev pub IsNext : Framing S → Polled (NetlinkMessage M × SocketAddr) → Framing S → Type 0
  IsNext before (polled.Ready p) now = Skipped before (Came p.0 p.1 ∷ []) now
      ⊎ ((p.0 ≡ (overrun_arrival {M = M}).message) × (p.1 ≡ (overrun_arrival {M = M}).source) × Skipped before (Overran ∷ []) now)
  IsNext before polled.Ended now =
      (Skipped before (shut_by (meaning before.link).closings) now × HasRisen (meaning before.link).closings (meaning now.link).closings)
      ⊎ (Skipped before [] now × HasRisen (meaning before.link).faults (meaning now.link).faults)
  IsNext before polled.NotYet now = Skipped before [] now × HasRisen (meaning before.link).stalls (meaning now.link).stalls
