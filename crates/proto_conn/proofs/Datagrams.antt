-- The events of a datagram, frame by frame.
use Rattle.std.proofs.Common.{◌≡◌, ℕ, true, false, List, [], ◌∷◌, ◌++◌, map, Result, Ok, Err, refl, sym, ◌∙◌, ap}
use Rattle.std.proofs.lemmas.List.{take-append-drop}
use Rattle.nl_core.specs.Frames.{Format, frame_at, header_at, length_at}
use Rattle.nl_core.specs.declared.error.DecodeError.{DecodeError}
use Rattle.nl_core.specs.declared.header.NetlinkHeader.{NetlinkHeader}
use Rattle.nl_core.specs.declared.message.NetlinkMessage.{NetlinkMessage}
use Rattle.session_model.specs.declared.address.SocketAddr.{SocketAddr}
use Rattle.session_model.specs.Cut.{begins, after_front, front_of, frames_of, rest_of}
use Rattle.session_model.specs.Events.{Event, Came, Unread, brought, leftover, datagram_events}
use Rattle.session_model.proofs.Cuts.{front_frame, one_frame, no_frame}
use Rattle.session_model.proofs.Fronts.{header_at-append, frame_at-append}

module _ {M : Type 0} (f : Format M) (source : SocketAddr) where
  -- what the front of bytes brings, by the header at their front
  abbrev brings_by : NetlinkHeader → Result (NetlinkMessage M) DecodeError → Event M
  brings_by h (Ok m) = Came m source
  brings_by h (Err e) = Unread h.message_type h.sequence_number source

  by_header : (frame : List ℕ) (r : Result (NetlinkMessage M) DecodeError) → brought f source frame r ≡ brings_by (header_at frame) r
  by_header frame (Ok m) = refl
  by_header frame (Err e) = refl

  -- A frame at the front is an event, and the others follow.
  pub next_event : (bytes : List ℕ) → begins bytes ≡ true
      → datagram_events f source bytes ≡ brought f source bytes (frame_at f.reads bytes) ∷ datagram_events f source (after_front bytes)
  next_event bytes is =
      let front = front_of bytes in
      let frame = front_frame bytes is in
      let parts : front ++ after_front bytes ≡ bytes = take-append-drop (length_at bytes) bytes in
      let reads : frame_at f.reads front ≡ frame_at f.reads bytes = sym (frame_at-append f.reads front (after_front bytes) frame)
      ∙ ap (frame_at f.reads) parts in
      let headers : header_at front ≡ header_at bytes = sym (header_at-append front (after_front bytes) frame.header) ∙ ap header_at parts in
      ap (λ frames. map (λ b. brought f source b (frame_at f.reads b)) frames ++ leftover f source (rest_of bytes)) (one_frame
      (λ b frames. front_of b ∷ frames) (λ b. []) bytes is)
      ∙ ap (λ rest. (brought f source front (frame_at f.reads front) ∷ map (λ b. brought f source b (frame_at f.reads b)) (frames_of
      (after_front bytes))) ++ leftover f source rest) (one_frame (λ b rest. rest) (λ b. b) bytes is)
      ∙ ap (λ e. e ∷ datagram_events f source (after_front bytes))
      (by_header front (frame_at f.reads front) ∙ ap (λ h. brings_by h (frame_at f.reads front)) headers ∙ ap (brings_by (header_at bytes)) reads
      ∙ sym (by_header bytes (frame_at f.reads bytes)))

  -- Where no frame is left, the rest is an event, if it isn't empty.
  pub last_event : (bytes : List ℕ) → begins bytes ≡ false → datagram_events f source bytes ≡ leftover f source bytes
  last_event bytes is =
      ap (λ frames. map (λ b. brought f source b (frame_at f.reads b)) frames ++ leftover f source (rest_of bytes)) (no_frame
      (λ b frames. front_of b ∷ frames) (λ b. []) bytes is)
      ∙ ap (leftover f source) (no_frame (λ b rest. rest) (λ b. b) bytes is)
