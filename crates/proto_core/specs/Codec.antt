-- What a codec takes out of bytes, by their cut into frames.
use Rattle.std.specs.Prelude.{◌≡◌, ℕ, if◌then◌else◌, List, [], ◌∷◌, ◌++◌, length, Option, Some, None, Result, Ok, Err, IsErr}
use Rattle.std.specs.List.{AllByRecursion}
use Rattle.nl_core.specs.declared.error.DecodeError.{DecodeError}
use Rattle.nl_core.specs.declared.message.NetlinkMessage.{NetlinkMessage}
use Rattle.nl_core.specs.Frames.{header_at, frame_at}
use Rattle.session_model.specs.Cut.{IsCut, begins, after_front, fold_frames}
use Rattle.proto_core.specs.declared.codec.Decoded.{Decoded}
use Rattle.proto_core.specs.declared.codec.Decoded.TheVariants as decoded

-- A fact holds of the bytes, the frames and the rest of each cut.
abbrev pub ForEachCut : (List ℕ → List (List ℕ) → List ℕ → Type 0) → Type 0
ForEachCut P = (bytes : List ℕ) (frames : List (List ℕ)) (rest : List ℕ) → IsCut bytes frames rest → P bytes frames rest

-- A frame is reported as its message, or as unreadable with the type and the number in its header.
abbrev pub told : {M : Type 0} → List ℕ → Result (NetlinkMessage M) DecodeError → Decoded M
told bytes (Ok m) = decoded.Message m
told bytes (Err e) = decoded.Unreadable (header_at bytes).message_type (header_at bytes).sequence_number

-- A rest is reported by its length.
abbrev pub rest_told : {M : Type 0} → List ℕ → Decoded M
rest_told [] = decoded.Empty
rest_told (b ∷ bytes) = decoded.Rest (length (b ∷ bytes))

-- What is left once the frame at the front, or the rest, is taken out.
abbrev pub without_front : List ℕ → List ℕ
without_front bytes = if begins bytes then after_front bytes else []

-- The message of a frame that can be read, else what comes later.
abbrev pub or_later : {M : Type 0} → Result (NetlinkMessage M) DecodeError → Option (NetlinkMessage M) → Option (NetlinkMessage M)
or_later (Ok m) later = Some m
or_later (Err e) later = later

-- What comes after a frame that can be read, else what is left later.
abbrev pub left_of : {M : Type 0} → Result (NetlinkMessage M) DecodeError → List ℕ → List ℕ → List ℕ
left_of (Ok m) here later = here
left_of (Err e) here later = later

module _ {M : Type 0} (reads : ℕ → List ℕ → Result M DecodeError) where
  -- What stands at the front of bytes: a frame, a rest, or nothing.
  abbrev pub front : List ℕ → Decoded M
  front bytes = if begins bytes then told bytes (frame_at reads bytes) else rest_told bytes

  -- The first message that can be read, and what comes after its frame.
  abbrev pub readable : List ℕ → Option (NetlinkMessage M)
  readable bytes = fold_frames (λ b later. or_later (frame_at reads b) later) (λ b. None) bytes

  abbrev pub left : List ℕ → List ℕ
  left bytes = fold_frames (λ b later. left_of (frame_at reads b) (after_front b) later) (λ b. []) bytes

  -- The first frame of a cut as it is reported; its rest, where it has no frame.
  abbrev pub first_told : List (List ℕ) → List ℕ → Decoded M
  first_told [] rest = rest_told rest
  first_told (frame ∷ frames) rest = told frame (frame_at reads frame)

  -- A frame has no message.
  abbrev pub IsUnreadable : List ℕ → Type 0
  IsUnreadable frame = IsErr (frame_at reads frame)

  -- A message is that of the first frame of a cut that can be read; the bytes have the frames after it, and the same rest.
  pub record IsFirstReadable (frames : List (List ℕ)) (rest : List ℕ) (m : NetlinkMessage M) (bytes : List ℕ) : Type 0 where
    pub skipped : List (List ℕ)
    pub frame : List ℕ
    pub later : List (List ℕ)
    pub in_order : frames ≡ skipped ++ frame ∷ later
    pub unreadable : AllByRecursion IsUnreadable skipped
    pub read : frame_at reads frame ≡ Ok m
    pub remaining : IsCut bytes later rest

  -- There is no message where no frame of a cut can be read, and then nothing is left.
  abbrev pub FindsReadable : List (List ℕ) → List ℕ → Option (NetlinkMessage M) → List ℕ → Type 0
  FindsReadable frames rest (Some m) bytes = IsFirstReadable frames rest m bytes
  FindsReadable frames rest None bytes = AllByRecursion IsUnreadable frames × (bytes ≡ [])

-- Bytes are those of a cut without its first frame, or nothing where it has none.
abbrev pub LacksFirst : List (List ℕ) → List ℕ → List ℕ → Type 0
LacksFirst [] rest bytes = bytes ≡ []
LacksFirst (frame ∷ frames) rest bytes = IsCut bytes frames rest
