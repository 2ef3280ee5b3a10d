-- What the events of a session are to a table that follows a peer's.
use Rattle.std.specs.Prelude.{◌==◌, ◌&&◌, ℕ, Bool, true, false, Option}
use Rattle.mirror_model.specs.Tables.{Change}

-- Whether a reply ends the number that it bears: not, by a Done of code 0, or otherwise.
pub data Ending : Type 0 where
  Continues : Ending
  Finished : Ending
  Failed : Ending

-- A reply of a dump: its stream, what it changes, whether it says that the dump was interrupted, and whether it ends it.
pub record Reply (K V : Type 0) : Type 0 where
  pub stream : ℕ
  pub change : Option (Change K V)
  pub interrupted : Bool
  pub ending : Ending

-- One event, as a table sees it.
pub data TableEvent (K V : Type 0) : Type 0 where
  -- a dump is asked, under a stream
  DumpAsked : ℕ → TableEvent K V
  DumpReply : Reply K V → TableEvent K V
  -- an unsolicited change comes from the peer
  Notified : Change K V → TableEvent K V
  -- something of the peer's may be missing
  Lost : TableEvent K V
  LinkClosed : TableEvent K V
  -- nothing that concerns the table
  Unrelated : TableEvent K V

-- An end by a Done of code 0.
abbrev pub is_finished : Ending → Bool
is_finished Continues = false
is_finished Finished = true
is_finished Failed = false

-- Any end.
abbrev pub is_end : Ending → Bool
is_end Continues = false
is_end Finished = true
is_end Failed = true

module _ {K V : Type 0} where
  -- Whether an event is a loss.
  abbrev pub is_loss : TableEvent K V → Bool
  is_loss (DumpAsked k) = false
  is_loss (DumpReply r) = false
  is_loss (Notified c) = false
  is_loss Lost = true
  is_loss LinkClosed = false
  is_loss Unrelated = false

  -- Whether an event is a close.
  abbrev pub is_close : TableEvent K V → Bool
  is_close (DumpAsked k) = false
  is_close (DumpReply r) = false
  is_close (Notified c) = false
  is_close Lost = false
  is_close LinkClosed = true
  is_close Unrelated = false

  -- Whether an event asks a dump under a stream.
  abbrev pub asks_dump : ℕ → TableEvent K V → Bool
  asks_dump k (DumpAsked j) = j == k
  asks_dump k (DumpReply r) = false
  asks_dump k (Notified c) = false
  asks_dump k Lost = false
  asks_dump k LinkClosed = false
  asks_dump k Unrelated = false

  -- Whether it is a reply of a stream that passes a test.
  abbrev pub replies_with : (Reply K V → Bool) → ℕ → TableEvent K V → Bool
  replies_with test k (DumpAsked j) = false
  replies_with test k (DumpReply r) = (r.stream == k) && test r
  replies_with test k (Notified c) = false
  replies_with test k Lost = false
  replies_with test k LinkClosed = false
  replies_with test k Unrelated = false

  -- Whether it is a reply of a stream at all.
  abbrev pub replies_to : ℕ → TableEvent K V → Bool
  replies_to k e = replies_with (λ r. true) k e

  -- Whether it says that the dump of a stream was interrupted.
  abbrev pub interrupts : ℕ → TableEvent K V → Bool
  interrupts k e = replies_with (λ r. r.interrupted) k e

  -- Whether it ends the dump of a stream by a Done of code 0.
  abbrev pub finishes : ℕ → TableEvent K V → Bool
  finishes k e = replies_with (λ r. is_finished r.ending) k e

  -- Whether it ends the dump of a stream.
  abbrev pub ends_dump : ℕ → TableEvent K V → Bool
  ends_dump k e = replies_with (λ r. is_end r.ending) k e
