-- The events of records ask each dump alone.
use Rattle.std.proofs.Common.{◌≡◌, ◌||◌, ◌++◌, ℕ, false, List, [], ◌∷◌, map, Some, None, Result, Ok, Err, refl, ◌∙◌, ap}
use Rattle.std.specs.List.{AllByRecursion}
use Rattle.nl_core.specs.Frames.{Format, frame_at}
use Rattle.nl_core.specs.declared.error.DecodeError.{DecodeError}
use Rattle.nl_core.specs.declared.message.NetlinkMessage.{NetlinkMessage}
use Rattle.session_model.specs.declared.address.SocketAddr.{SocketAddr}
use Rattle.session_model.specs.declared.transcript.BatchFrame.{BatchFrame}
use Rattle.session_model.specs.declared.settings.Settings.{Settings}
use Rattle.session_model.specs.declared.transcript.Mark.{Mark}
use Rattle.session_model.specs.declared.transcript.Mark.TheVariants.{ByFlags}
use Rattle.session_model.specs.declared.transcript.Record.{Record}
use Rattle.session_model.specs.declared.transcript.Record.TheVariants.{Recv, Overrun, Close, Batch, Resync, Block, Unblock, Lookup}
use Rattle.session_model.specs.Cut.{frames_of, rest_of}
use Rattle.session_model.specs.Events.{Sent, OfRoutes, Asked, brought, leftover, asked_message, asked, record_events, events_of, peer_address, resync_bytes}
use Rattle.mirror_model.specs.Sessions.{Reader, follows_kind, requests_dump, AsksAlone}
use Rattle.mirror_model.proofs.Tests.{any_append}
use Rattle.mirror_model.proofs.Lists.{all_append}

module _ {M K V : Type 0} (r : Reader M K V) (f : Format M) (s : Settings) where
  no_dump : (mark : Mark) (read : Result (NetlinkMessage M) DecodeError) → requests_dump r (asked_message f None mark read) ≡ false
  no_dump mark (Ok m) = refl
  no_dump mark (Err e) = refl

  -- No frame of a batch asks for a dump that a mirror follows.
  pub batch_asks_none : (frames : List BatchFrame) → requests_dump r (asked f frames) ≡ false
  batch_asks_none [] = refl
  batch_asks_none (frame ∷ frames) =
      any_append (λ (a : Asked). follows_kind r a.dumps) (asked_message f None frame.mark (frame_at f.reads frame.bytes)) (asked f frames)
      ∙ ap (λ b. b || requests_dump r (asked f frames)) (no_dump frame.mark (frame_at f.reads frame.bytes))
      ∙ batch_asks_none frames

  -- What asks for no dump asks none beside others.
  pub none_alone : (to : SocketAddr) (frames : List Asked) → requests_dump r frames ≡ false → AsksAlone r (Sent to frames)
  none_alone to [] h = tt
  none_alone to (a ∷ []) h = tt
  none_alone to (a ∷ b ∷ frames) h = h

  brought_alone : (source : SocketAddr) (frames : List (List ℕ))
      → AllByRecursion (AsksAlone r) (map (λ frame. brought f source frame (frame_at f.reads frame)) frames)
  brought_alone source [] = tt
  brought_alone source (frame ∷ frames) = (one (frame_at f.reads frame), brought_alone source frames)
    where
      one : (read : Result (NetlinkMessage M) DecodeError) → AsksAlone r (brought f source frame read)
      one (Ok m) = tt
      one (Err e) = tt

  rest_alone : (source : SocketAddr) (bytes : List ℕ) → AllByRecursion (AsksAlone r) (leftover f source bytes)
  rest_alone source [] = tt
  rest_alone source (b ∷ bytes) = (tt, tt)

  resync_alone : (to : SocketAddr) (read : Result (NetlinkMessage M) DecodeError)
      → AsksAlone r (Sent to (asked_message f (Some OfRoutes) ByFlags read ++ []))
  resync_alone to (Ok m) = tt
  resync_alone to (Err e) = tt

  -- Those of one record do.
  pub record_alone : (entry : Record) → AllByRecursion (AsksAlone r) (record_events f s entry)
  record_alone (Recv source bytes) =
      all_append _ _ (leftover f source (rest_of bytes)) (brought_alone source (frames_of bytes)) (rest_alone source (rest_of bytes))
  record_alone Overrun = (tt, tt)
  record_alone Close = (tt, tt)
  record_alone (Batch to frames) = (none_alone to (asked f frames) (batch_asks_none frames), tt)
  record_alone Resync = (resync_alone (peer_address f s) (frame_at f.reads resync_bytes), tt)
  record_alone (Block n) = (tt, tt)
  record_alone (Unblock n) = (tt, tt)
  record_alone (Lookup a) = (tt, tt)

  -- The events of records ask each dump alone.
  pub records_alone : (records : List Record) → AllByRecursion (AsksAlone r) (events_of f s records)
  records_alone [] = tt
  records_alone (x ∷ records) = all_append _ (record_events f s x) (events_of f s records) (record_alone x) (records_alone records)
