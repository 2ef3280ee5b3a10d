-- How far a record has come: what the events that it has brought so far have done.
use Rattle.std.specs.Prelude.{◌≡◌, ℕ, Bool, false, List, [], ◌++◌, Option, flat_map}
use Rattle.nl_core.specs.Frames.{Format}
use Rattle.session_model.specs.declared.settings.Settings.{Settings}
use Rattle.session_model.specs.Events.{Event, Arrival, arrival_of}
use Rattle.session_model.specs.Awaited.{batch_count, batches_sent, frames_sent, last_number, newly_awaited}
use Rattle.session_model.specs.Streams.{is_shut, shuts}
use Rattle.session_model.specs.SessionText.{placed, reply_line, sent_line, unsolicited_line}
use Rattle.proto_core.specs.Session.{Session}
use Rattle.session_laws.specs.After.{session_after}
use Rattle.session_laws.specs.Counts.{Counts, Closes}

-- An event brings these arrivals, and neither sends anything nor closes the link.
pub record Brings {M : Type 0} (e : Event M) (arrived : List (Arrival M)) : Type 0 where
  pub arrivals : arrival_of e ≡ arrived
  pub awaits : (last batches : ℕ) → newly_awaited last batches e ≡ []
  pub frames : frames_sent e ≡ 0
  pub batches : batches_sent e ≡ 0
  pub stays_open : shuts e ≡ false
  pub silent : (last : ℕ) → sent_line last e ≡ []

-- After events, and then some of a record: the session; the table of open streams; the streams that the record has closed;
-- the lines of its arrivals that nothing awaited, and those of its replies.
pub record Stage {M : Type 0} (f : Format M) (s : Settings) (before es : List (Event M)) (session : Session M ℕ)
    (at : ℕ → Option ℕ) (closed : ℕ → Bool) (text replies : List ℕ) : Type 0 where
  pub stands : session ≡ session_after s.start (before ++ es)
  pub counts : Counts at s.start (before ++ es)
  pub closes : Closes closed s.start before es
  pub unshut : is_shut (before ++ es) ≡ false
  pub streams : batch_count 0 (before ++ es) ≡ batch_count 0 before
  pub silent : flat_map (sent_line (last_number s.start before)) es ≡ []
  pub unsolicited : text ≡ flat_map (unsolicited_line f) (placed s.start before es)
  pub replied : replies ≡ flat_map (reply_line f s) (placed s.start before es)
