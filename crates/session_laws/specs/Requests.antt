-- The request of a batch: the messages of its frames, and which of them await a reply.
use Rattle.std.specs.Prelude.{◌≡◌, ◌==◌, ◌&&◌, ℕ, Bool, not, cond, List, [], ◌∷◌, length, flat_map, Option, Some, Result, Ok, Err}
use Rattle.std.specs.List.{filter}
use Rattle.nl_core.specs.Frames.{Format, frame_at}
use Rattle.nl_core.specs.declared.error.DecodeError.{DecodeError}
use Rattle.nl_core.specs.declared.message.NetlinkMessage.{NetlinkMessage}
use Rattle.session_model.specs.declared.transcript.BatchFrame.{BatchFrame}
use Rattle.session_model.specs.declared.transcript.Mark.{Mark}
use Rattle.session_model.specs.Events.{is_awaited_by}

module _ {M : Type 0} (f : Format M) where
  -- The message of a frame, if it can be read.
  abbrev pub message_in : Result (NetlinkMessage M) DecodeError → List (NetlinkMessage M)
  message_in (Ok m) = m ∷ []
  message_in (Err e) = []

  -- Whether a frame that can be read awaits a reply.
  abbrev pub mark_in : Mark → Result (NetlinkMessage M) DecodeError → List Bool
  mark_in mark (Ok m) = is_awaited_by mark m.header ∷ []
  mark_in mark (Err e) = []

  -- The messages of a batch's frames.
  abbrev pub messages_in : List BatchFrame → List (NetlinkMessage M)
  messages_in frames = flat_map (λ (frame : BatchFrame). message_in (frame_at f.reads frame.bytes)) frames

  -- Which of them await a reply.
  abbrev pub marks_in : List BatchFrame → List Bool
  marks_in frames = flat_map (λ (frame : BatchFrame). mark_in frame.mark (frame_at f.reads frame.bytes)) frames

-- How many marks say that a reply is awaited.
abbrev pub marked : List Bool → ℕ
marked marks = length (filter (λ b. b) marks)

-- A table has a stream more, unless nothing of it is awaited.
abbrev pub Opens : ℕ → ℕ → (ℕ → Option ℕ) → (ℕ → Option ℕ) → Type 0
Opens stream count at at' = (k : ℕ) → at' k ≡ cond ((k == stream) && not (count == 0)) (Some count) (at k)
