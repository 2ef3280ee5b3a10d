-- A codec's walk over the frames at the front of bytes, one frame at a time.
use Rattle.std.proofs.Common.{◌≡◌, ◌+◌, ◌≤◌, ◌<◌, ℕ, true, false, cond, List, [], length, drop, Option, Some, None, Result, Ok, Err, refl, sym, ◌∙◌, ap, arith}
use Rattle.std.proofs.lemmas.Grind.{common_steps}
use Rattle.std.proofs.lemmas.List.{length-drop, drop-drop}
use Rattle.nl_core.specs.declared.error.DecodeError.{DecodeError}
use Rattle.nl_core.specs.declared.header.NetlinkHeader.{NetlinkHeader}
use Rattle.nl_core.specs.declared.message.NetlinkMessage.{NetlinkMessage}
use Rattle.nl_core.specs.Frames.{header_at, frame_at}
use Rattle.session_model.specs.Cut.{begins, after_front}
use Rattle.session_model.proofs.Cuts.{begun, one_frame, no_frame}
use Rattle.proto_core.specs.Codec.{readable, left, or_later, left_of}
use Rattle.proto_core.specs.Walk.{front_header, if_read}

-- A header in front is that of a frame that begins there.
pub in_front : (bytes : List ℕ) (h : NetlinkHeader) → front_header bytes ≡ Some h → (begins bytes ≡ true) × (h ≡ header_at bytes)
in_front bytes h is = elim (begins bytes) as (λ b. cond b (Some (header_at bytes)) None ≡ Some h → (b ≡ true) × (h ≡ header_at bytes)) [
  | true ↦ λ e. (refl, cc)
  | false ↦ λ e. cc
] is

-- Where there is no header in front, no frame begins.
pub none_in_front : (bytes : List ℕ) → front_header bytes ≡ None → begins bytes ≡ false
none_in_front bytes is = elim (begins bytes) as (λ b. cond b (Some (header_at bytes)) None ≡ None → b ≡ false) [
  | true ↦ λ e. cc
  | false ↦ λ e. refl
] is

module _ {M : Type 0} where
  none_kept : (r : Result (NetlinkMessage M) DecodeError) (later : Option (NetlinkMessage M)) → if_read r ≡ None → or_later r later ≡ later
  none_kept (Ok m) later e = cc
  none_kept (Err x) later e = refl

  none_left : (r : Result (NetlinkMessage M) DecodeError) (here later : List ℕ) → if_read r ≡ None → left_of r here later ≡ later
  none_left (Ok m) here later e = cc
  none_left (Err x) here later e = refl

  some_kept : (r : Result (NetlinkMessage M) DecodeError) (m : NetlinkMessage M) (later : Option (NetlinkMessage M)) → if_read r ≡ Some m → or_later r later ≡ Some m
  some_kept (Ok m) n later e = cc
  some_kept (Err x) n later e = cc

  some_left : (r : Result (NetlinkMessage M) DecodeError) (m : NetlinkMessage M) (here later : List ℕ) → if_read r ≡ Some m → left_of r here later ≡ here
  some_left (Ok m) n here later e = refl
  some_left (Err x) n here later e = cc

module _ {M : Type 0} (reads : ℕ → List ℕ → Result M DecodeError) where
  -- The first message of bytes that begin a frame is that of the frame, or else a later one.
  pub readable-frame : (bytes : List ℕ) → begins bytes ≡ true → readable reads bytes ≡ or_later (frame_at reads bytes) (readable reads (after_front bytes))
  readable-frame bytes is = one_frame (λ b later. or_later (frame_at reads b) later) (λ b. None) bytes is

  -- What is left of bytes that begin a frame comes after the frame, or is left later.
  pub left-frame : (bytes : List ℕ) → begins bytes ≡ true → left reads bytes ≡ left_of (frame_at reads bytes) (after_front bytes) (left reads (after_front bytes))
  left-frame bytes is = one_frame (λ b later. left_of (frame_at reads b) (after_front b) later) (λ b. []) bytes is

  -- Bytes that begin no frame have no message, and nothing is left of them.
  pub none_readable : (bytes : List ℕ) → begins bytes ≡ false → (readable reads bytes ≡ None) × (left reads bytes ≡ [])
  none_readable bytes none =
      (no_frame (λ b later. or_later (frame_at reads b) later) (λ b. None) bytes none, no_frame (λ b later. left_of (frame_at reads b) (after_front b) later) (λ b. []) bytes none)

  -- A frame that can't be read has no message.
  pub readable_skips : (bytes : List ℕ) (h : NetlinkHeader) → front_header bytes ≡ Some h → if_read (frame_at reads bytes) ≡ None → readable reads (drop h.length bytes) ≡ readable reads bytes
  readable_skips bytes h is unread =
      let i = in_front bytes h is in
      ap (λ (k : NetlinkHeader). readable reads (drop k.length bytes)) i.1
      ∙ sym (readable-frame bytes i.0 ∙ none_kept (frame_at reads bytes) _ unread)

  -- What is left is the same without a frame that can't be read.
  pub left_skips : (bytes : List ℕ) (h : NetlinkHeader) → front_header bytes ≡ Some h → if_read (frame_at reads bytes) ≡ None → left reads (drop h.length bytes) ≡ left reads bytes
  left_skips bytes h is unread =
      let i = in_front bytes h is in
      ap (λ (k : NetlinkHeader). left reads (drop k.length bytes)) i.1
      ∙ sym (left-frame bytes i.0 ∙ none_left (frame_at reads bytes) _ _ unread)

  -- The message of a frame that can be read is the first.
  pub readable_finds : (bytes : List ℕ) (h : NetlinkHeader) (m : NetlinkMessage M) → front_header bytes ≡ Some h → if_read (frame_at reads bytes) ≡ Some m → readable reads bytes ≡ Some m
  readable_finds bytes h m is found =
      let i = in_front bytes h is in
      readable-frame bytes i.0 ∙ some_kept (frame_at reads bytes) m _ found

  -- What comes after a frame that can be read is left.
  pub left_finds : (bytes : List ℕ) (h : NetlinkHeader) (m : NetlinkMessage M) → front_header bytes ≡ Some h → if_read (frame_at reads bytes) ≡ Some m → left reads bytes ≡ drop h.length bytes
  left_finds bytes h m is found =
      let i = in_front bytes h is in
      left-frame bytes i.0 ∙ some_left (frame_at reads bytes) m _ _ found
      ∙ ap (λ (k : NetlinkHeader). drop k.length bytes) (sym i.1)

  -- Where no header is in front there is no message, and nothing is left.
  pub readable_ends : (bytes : List ℕ) → front_header bytes ≡ None → (readable reads bytes ≡ None) × (left reads bytes ≡ [])
  readable_ends bytes is = none_readable bytes (none_in_front bytes is)

-- A frame in front lies within the bytes.
pub within_front : (bytes : List ℕ) (h : NetlinkHeader) → front_header bytes ≡ Some h → (16 ≤ h.length) × (h.length ≤ length bytes)
within_front bytes h is = let i = in_front bytes h is in let b = begun bytes i.0 in rw i.1 b

-- Where a walk stands after the frame at an index.
pub at_next : (bytes : List ℕ) (at : ℕ) (h : NetlinkHeader) → at ≤ length bytes → front_header (drop at bytes) ≡ Some h
    → (at + h.length ≤ length bytes) × (at < at + h.length) × (drop h.length (drop at bytes) ≡ drop (at + h.length) bytes)
at_next bytes at h le is =
    let w = within_front (drop at bytes) h is in
    let d = length-drop at bytes in
    (omega (arith, w.0, w.1, d, le), omega (arith, w.0), grind (arith, common_steps, drop-drop))
