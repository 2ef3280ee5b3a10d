-- What is asked of a message whose frame reads back.
use Rattle.std.specs.Prelude.{◌≡◌, ◌<◌, ◌^◌, ◌⊎◌, ◌++◌, ℕ, Bool, true, List, length, take, nat_lt, if◌then◌else◌, Result, Ok, Err, FitsSigned}
use Rattle.std.specs.Int.{w32}
use Rattle.nl_core.specs.declared.error.DecodeError.{DecodeError}
use Rattle.nl_core.specs.declared.error.DecodeError.TheVariants.{TooSmall, BadLength}
use Rattle.nl_core.specs.declared.header.NetlinkHeader.{NetlinkHeader}
use Rattle.nl_core.specs.declared.message.NetlinkMessage.{NetlinkMessage}
use Rattle.nl_core.specs.declared.message.NetlinkPayload.{NetlinkPayload}
use Rattle.nl_core.specs.declared.message.NetlinkPayload.TheVariants.{Done, Error, Noop, Overrun, InnerMessage}
use Rattle.nl_core.specs.Frames.{code_number, frame_at, message_fits, canonical_frame, finalized}

-- The flags, the number and the port of a header fit their fields.
pub record IsInRange (h : NetlinkHeader) : Type 0 where
  pub flags : h.flags < 2 ^ 16
  pub sequence_number : h.sequence_number < 2 ^ 32
  pub port_number : h.port_number < 2 ^ 32

-- An inner message reads back from its type and its bytes, and its type is that of no control message.
pub record InnerReadsBack {M : Type 0} (reads : ℕ → List ℕ → Result M DecodeError) (kind : M → ℕ) (text : M → List ℕ) (m : M) : Type 0 where
  pub type_in_range : kind m < 2 ^ 16
  pub no_control : (kind m < 1) ⊎ (4 < kind m)
  pub again : reads (kind m) (text m) ≡ Ok m

-- A payload reads back: a code fits its four bytes, and an inner message reads back.
abbrev pub PayloadReadsBack : {M : Type 0} → (ℕ → List ℕ → Result M DecodeError) → (M → ℕ) → (M → List ℕ) → NetlinkPayload M → Type 0
PayloadReadsBack reads kind text Noop = Unit {0}
PayloadReadsBack reads kind text (Error e) = FitsSigned w32 (code_number e.code)
PayloadReadsBack reads kind text (Done d) = FitsSigned w32 d.code
PayloadReadsBack reads kind text (Overrun bytes) = Unit {0}
PayloadReadsBack reads kind text (InnerMessage m) = InnerReadsBack reads kind text m

-- The frame of each message that fits and whose parts read back is read as the message with its header filled in, whatever bytes follow.
abbrev pub FramesReadBack : {M : Type 0} → (ℕ → List ℕ → Result M DecodeError) → (M → ℕ) → (M → List ℕ) → (M → Bool) → Type 0
FramesReadBack {M} reads kind text fits =
    (m : NetlinkMessage M) (more : List ℕ) → message_fits text fits m ≡ true → IsInRange m.header → PayloadReadsBack reads kind text m.payload
    → frame_at reads (canonical_frame kind text m ++ more) ≡ Ok (finalized kind text m)

-- Why the first bytes of a frame are no frame: the header or something after it is missing.
abbrev pub refusal : {X : Type 0} → ℕ → Result X DecodeError
refusal n = if nat_lt n 16 then Err (TooSmall n 16) else Err BadLength

-- The first bytes of the frame of each message that fits are refused, unless they are all of it.
abbrev pub PrefixesRefused : {M : Type 0} → (ℕ → List ℕ → Result M DecodeError) → (M → ℕ) → (M → List ℕ) → (M → Bool) → Type 0
PrefixesRefused {M} reads kind text fits =
    (m : NetlinkMessage M) (n : ℕ) → message_fits text fits m ≡ true → n < length (canonical_frame kind text m)
    → frame_at reads (take n (canonical_frame kind text m)) ≡ refusal n
