-- What is asked of the peer of a transcript, and how its own table answers.
use Rattle.std.specs.Prelude.{◌≡◌, ℕ, List, []}
use Rattle.std.specs.FinMap.{empty}
use Rattle.session_model.specs.declared.settings.Settings.{Settings}
use Rattle.session_model.specs.declared.outcome.Report.{Report}
use Rattle.session_model.specs.declared.transcript.Record.{Record}
use Rattle.mirror_model.specs.FiniteTables.{finite}
use Rattle.mirror_model.specs.Honest.{IsHonest}
use Rattle.mirror_model.specs.Lookups.{peer_answer}
use Rattle.mirror_model.specs.OutputText.{text_from}
use Rattle.mirror_model.specs.RouteChanges.{route_reader}
use Rattle.mirror_model.specs.Routes.{RouteTable, key_cmp}
use Rattle.mirror_model.specs.Sessions.{table_events}
use Rattle.transcript_io.specs.Io.{Traffic, with_back}
use Rattle.mirror.specs.Format.{format}
use Rattle.mirror.specs.Outcome.{WasRun}
use Rattle.mirror.specs.Runner.{events, readers}

-- A history of the peer's routing table, which has the table before each event of the records, by the event's place from
-- 0, and after the last, is honest for these records.
abbrev pub IsHonestFor : Settings → List Record → (ℕ → RouteTable) → Type 0
IsHonestFor s rs history = IsHonest (finite key_cmp) history (table_events (route_reader s.peer s.table) s.start (events s rs))

-- The text of records in which each look-up is answered from the peer's own table at its place, wherever the mirror is in
-- step, and as stale else.
abbrev pub peer_text : Settings → (ℕ → RouteTable) → List Record → List ℕ
peer_text s history rs = text_from format s (peer_answer (readers s) s.start history (λ n. empty)) [] rs

-- A run came to the end of its input, and for each honest history of the peer the sink gained the text in which the peer's
-- own table answers.
pub record HasConverged (s : Settings) (io : Traffic) (report : Report) : Type 0 where
  pub run : WasRun s io report
  pub as_peer : (history : ℕ → RouteTable) → IsHonestFor s run.records history
      → io.written_after ≡ with_back io.written_before (peer_text s history run.records)
