-- Frames that are written are read again, and their first bytes are refused.
use Rattle.std.proofs.Common.{◌≡◌, ◌+◌, ◌-◌, ◌^◌, ◌<◌, ◌≤◌, ◌==◌, ◌⊎◌, inl, inr, ℕ, ℤ, Bool, true, false, List, ◌++◌, length, take, drop, Result, Ok, Err, refl, ap, ◌∙◌, append_assoc, arith, length-append, nat_lt, lit<, lit≤}
use Rattle.std.specs.Prelude.{◌||◌, FitsSigned}
use Rattle.std.specs.Int.{w32}
use Rattle.std.proofs.lemmas.Bool.{lt-ltb, le-ltb, ltb-true, ltb-false, eqb-true}
use Rattle.std.proofs.lemmas.List.{take_at, drop_at, length-take-le}
use Rattle.std.proofs.Math.Seq.{take-append-add}
use Rattle.std.proofs.lemmas.Nat.{from_le_bytes-to_le_bytes_2, from_le_bytes-to_le_bytes_4}
use Rattle.nl_core.specs.declared.error.DecodeError.{DecodeError}
use Rattle.nl_core.specs.declared.error.DecodeError.TheVariants.{BadLength}
use Rattle.nl_core.specs.declared.header.NetlinkHeader.{NetlinkHeader}
use Rattle.nl_core.specs.declared.message.NetlinkPayload.{NetlinkPayload}
use Rattle.nl_core.specs.declared.message.NetlinkPayload.TheVariants.{Done, Error, Noop, Overrun, InnerMessage}
use Rattle.nl_core.specs.Numbers.{le16, le32, le_i32, u16_at, u32_at, i32_at}
use Rattle.nl_core.specs.Frames.{header_text, header_at, code_number, coded, payload_at, payload_kind, payload_text, payload_fits, framed, frame_at, finalized}
use Rattle.nl_core.specs.FrameReadBack.{IsInRange, PayloadReadsBack, FramesReadBack, PrefixesRefused, refusal}
use Rattle.nl_core.proofs.Signed.{from_le_bytes-signed}
use Rattle.nl_core.proofs.Codes.{error_code-number}
use Rattle.nl_core.proofs.Wire.{length-header_text, length-le_i32}

-- ---- headers

-- The length field reads back, whatever follows the header.
pub length-again : (h : NetlinkHeader) (more : List ℕ) → h.length < 2 ^ 32 → u32_at (header_text h ++ more) 0 ≡ h.length
unfolding le16 le32 u32_at
length-again h more bound = from_le_bytes-to_le_bytes_4 h.length bound

type-again : (h : NetlinkHeader) (more : List ℕ) → h.message_type < 2 ^ 16 → u16_at (header_text h ++ more) 4 ≡ h.message_type
unfolding le16 le32 u16_at
type-again h more bound = from_le_bytes-to_le_bytes_2 h.message_type bound

flags-again : (h : NetlinkHeader) (more : List ℕ) → h.flags < 2 ^ 16 → u16_at (header_text h ++ more) 6 ≡ h.flags
unfolding le16 le32 u16_at
flags-again h more bound = from_le_bytes-to_le_bytes_2 h.flags bound

number-again : (h : NetlinkHeader) (more : List ℕ) → h.sequence_number < 2 ^ 32 → u32_at (header_text h ++ more) 8 ≡ h.sequence_number
unfolding le16 le32 u32_at
number-again h more bound = from_le_bytes-to_le_bytes_4 h.sequence_number bound

port-again : (h : NetlinkHeader) (more : List ℕ) → h.port_number < 2 ^ 32 → u32_at (header_text h ++ more) 12 ≡ h.port_number
unfolding le16 le32 u32_at
port-again h more bound = from_le_bytes-to_le_bytes_4 h.port_number bound

-- A header whose fields are in range reads back, whatever follows it.
pub header-again : (h : NetlinkHeader) (more : List ℕ) → h.length < 2 ^ 32 → h.message_type < 2 ^ 16 → IsInRange h
    → header_at (header_text h ++ more) ≡ h
header-again h more long kind held =
    rw (
      length-again h more long,
      type-again h more kind,
      flags-again h more held.flags,
      number-again h more held.sequence_number,
      port-again h more held.port_number,
    ) refl

-- ---- payloads

-- A signed number reads back, whatever follows it.
pub i32-again : (z : ℤ) (more : List ℕ) → FitsSigned w32 z → i32_at (le_i32 z ++ more) 0 ≡ z
unfolding le_i32 i32_at u32_at
i32-again z more fits = from_le_bytes-signed z fits

rest-again : (z : ℤ) (more : List ℕ) → drop 4 (le_i32 z ++ more) ≡ more
rest-again z more = drop_at (le_i32 z) more 4 (length-le_i32 z)

coded-again : {P : Type 0} (make : ℤ → List ℕ → P) (z : ℤ) (more : List ℕ) → FitsSigned w32 z
    → coded make (le_i32 z ++ more) ≡ Ok (make z more)
coded-again make z more fits =
    let room : nat_lt (length (le_i32 z ++ more)) 4 ≡ false = le-ltb _ _ (omega (arith, length-append (le_i32 z) more, length-le_i32 z)) in
    rw (room, i32-again z more fits, rest-again z more) refl

is_false : (b : Bool) → (b ≡ true → ⊥) → b ≡ false
is_false true not_true = absurd (not_true refl)
is_false false not_true = refl

-- A type that is that of no control message is none of the four.
no_control : (k n : ℕ) → (k < 1) ⊎ (4 < k) → 1 ≤ n → n ≤ 4 → (k == n) ≡ false
no_control k n (inl below) low high = is_false (k == n) (λ e. omega (arith, eqb-true k n e))
no_control k n (inr above) low high = is_false (k == n) (λ e. omega (arith, eqb-true k n e))

payload-again : {M : Type 0} (reads : ℕ → List ℕ → Result M DecodeError) (kind : M → ℕ) (text : M → List ℕ) (p : NetlinkPayload M)
    → PayloadReadsBack reads kind text p → payload_at reads (payload_kind kind p) (payload_text text p) ≡ Ok p
payload-again reads kind text Noop back = refl
payload-again reads kind text (Error e) back =
    rw (coded-again _ (code_number e.code) e.header back, error_code-number e.code) refl
payload-again reads kind text (Done d) back = rw (coded-again _ d.code d.extended_ack back) refl
payload-again reads kind text (Overrun bytes) back = refl
payload-again reads kind text (InnerMessage m) back =
    let is_not = no_control (kind m) in
    rw (
      is_not 1 back.no_control (lit≤ tt) (lit≤ tt),
      is_not 2 back.no_control (lit≤ tt) (lit≤ tt),
      is_not 3 back.no_control (lit≤ tt) (lit≤ tt),
      is_not 4 back.no_control (lit≤ tt) (lit≤ tt),
      back.again,
    ) refl

type-in-range : {M : Type 0} (reads : ℕ → List ℕ → Result M DecodeError) (kind : M → ℕ) (text : M → List ℕ) (p : NetlinkPayload M)
    → PayloadReadsBack reads kind text p → payload_kind kind p < 2 ^ 16
type-in-range reads kind text Noop back = lit< tt
type-in-range reads kind text (Error e) back = lit< tt
type-in-range reads kind text (Done d) back = lit< tt
type-in-range reads kind text (Overrun bytes) back = lit< tt
type-in-range reads kind text (InnerMessage m) back = back.type_in_range

-- ---- frames

-- A payload that fits is short enough for its frame.
pub payload-short : {M : Type 0} (text : M → List ℕ) (fits : M → Bool)
    → ((m : M) → fits m ≡ true → length (text m) + 16 < 2 ^ 32) → (p : NetlinkPayload M)
    → payload_fits text fits p ≡ true → length (payload_text text p) + 16 < 2 ^ 32
payload-short text fits inner Noop fit = lit< tt
payload-short text fits inner (Error e) fit = ltb-true _ _ fit
payload-short text fits inner (Done d) fit = ltb-true _ _ fit
payload-short text fits inner (Overrun bytes) fit = ltb-true _ _ fit
payload-short text fits inner (InnerMessage m) fit = inner m fit

framed-again : {M : Type 0} (reads : ℕ → List ℕ → Result M DecodeError) (h : NetlinkHeader) (bytes text : List ℕ) (p : NetlinkPayload M)
    → 16 ≤ h.length → h.length ≤ length bytes → take (h.length - 16) (drop 16 bytes) ≡ text
    → payload_at reads h.message_type text ≡ Ok p
    → framed reads h bytes ≡ Ok (record { header = h; payload = p })
framed-again reads h bytes text p low high inside read =
    rw (le-ltb h.length 16 low, le-ltb (length bytes) h.length high, inside, read) refl

frame-framed : {M : Type 0} (reads : ℕ → List ℕ → Result M DecodeError) (bytes : List ℕ) → 16 ≤ length bytes
    → frame_at reads bytes ≡ framed reads (header_at bytes) bytes
frame-framed reads bytes room = rw (le-ltb (length bytes) 16 room) refl

frame-again : {M : Type 0} (reads : ℕ → List ℕ → Result M DecodeError) (h : NetlinkHeader) (text more : List ℕ) (p : NetlinkPayload M)
    → h.length ≡ 16 + length text → h.length < 2 ^ 32 → h.message_type < 2 ^ 16 → IsInRange h
    → payload_at reads h.message_type text ≡ Ok p
    → frame_at reads (header_text h ++ (text ++ more)) ≡ Ok (record { header = h; payload = p })
frame-again {M} reads h text more p len long kind held read =
    let bytes = header_text h ++ (text ++ more) in
    let count = length-append (header_text h) (text ++ more) in
    let rest = length-append text more in
    let sixteen = length-header_text h in
    let tail : drop 16 bytes ≡ text ++ more = drop_at (header_text h) (text ++ more) 16 sixteen in
    let inside : take (h.length - 16) (drop 16 bytes) ≡ text =
    rw tail (take_at text more (h.length - 16) (omega (arith, len))) in
    frame-framed reads bytes (omega (arith, count, sixteen))
    ∙ ap (λ (front : NetlinkHeader). framed reads front bytes) (header-again h (text ++ more) long kind held)
    ∙ framed-again reads h bytes text p (omega (arith, len)) (omega (arith, len, count, rest, sixteen)) inside read

-- The frame of a message that fits and whose parts read back reads as the message, whatever follows.
pub frames_read_back : {M : Type 0} (reads : ℕ → List ℕ → Result M DecodeError) (kind : M → ℕ) (text : M → List ℕ) (fits : M → Bool)
    → ((m : M) → fits m ≡ true → length (text m) + 16 < 2 ^ 32) → FramesReadBack reads kind text fits
frames_read_back reads kind text fits inner m more fit held back =
    let h = (finalized kind text m).header in
    let body = payload_text text m.payload in
    let short : h.length < 2 ^ 32 = omega (arith, payload-short text fits inner m.payload fit) in
    let range : IsInRange h =
    record { flags = held.flags; sequence_number = held.sequence_number; port_number = held.port_number } in
    rw (append_assoc (header_text h) body more)
    (frame-again reads h body more m.payload refl short (type-in-range reads kind text m.payload back) range
    (payload-again reads kind text m.payload back))

-- ---- prefixes

or_true : (b : Bool) → (b || true) ≡ true
or_true true = refl
or_true false = refl

framed-refused : {M : Type 0} (reads : ℕ → List ℕ → Result M DecodeError) (h : NetlinkHeader) (bytes : List ℕ)
    → length bytes < h.length → framed reads h bytes ≡ Err BadLength
framed-refused reads h bytes short = rw (lt-ltb (length bytes) h.length short, or_true (nat_lt h.length 16)) refl

prefix-short : {M : Type 0} (reads : ℕ → List ℕ → Result M DecodeError) (bytes : List ℕ) (n : ℕ)
    → length bytes ≡ n → n < 16 → frame_at reads bytes ≡ refusal n
prefix-short reads bytes n len short = rw (len, lt-ltb n 16 short) refl

prefix-cut : {M : Type 0} (reads : ℕ → List ℕ → Result M DecodeError) (bytes : List ℕ) (n : ℕ)
    → length bytes ≡ n → 16 ≤ n → n < u32_at bytes 0 → frame_at reads bytes ≡ refusal n
prefix-cut reads bytes n len room short =
    frame-framed reads bytes (omega (arith, len, room))
    ∙ framed-refused reads (header_at bytes) bytes (omega (arith, len, short))
    ∙ rw (le-ltb n 16 room) refl

below_or-test : (n k : ℕ) (b : Bool) → nat_lt n k ≡ b → (n < k) ⊎ (k ≤ n)
below_or-test n k true test = inl (ltb-true n k test)
below_or-test n k false test = inr (ltb-false n k test)

below_or : (n k : ℕ) → (n < k) ⊎ (k ≤ n)
below_or n k = below_or-test n k (nat_lt n k) refl

-- The first bytes of the frame of a message that fits are refused, unless they are all of it.
pub prefixes_refused : {M : Type 0} (reads : ℕ → List ℕ → Result M DecodeError) (kind : M → ℕ) (text : M → List ℕ) (fits : M → Bool)
    → ((m : M) → fits m ≡ true → length (text m) + 16 < 2 ^ 32) → PrefixesRefused reads kind text fits
prefixes_refused reads kind text fits inner m n fit proper =
    let h = (finalized kind text m).header in
    let body = payload_text text m.payload in
    let len = length-take-le n (header_text h ++ body) (omega (arith, proper)) in
    let count = length-append (header_text h) body in
    let sixteen = length-header_text h in
    let short = payload-short text fits inner m.payload fit in
    elim (below_or n 16) [
      | inl below ↦ prefix-short reads _ n len below
      | inr room ↦
          let front : take n (header_text h ++ body) ≡ header_text h ++ take (n - 16) body =
          ap (λ (k : ℕ). take k (header_text h ++ body)) (omega (arith, sixteen, room))
          ∙ take-append-add (header_text h) body (n - 16) in
          let field : u32_at (take n (header_text h ++ body)) 0 ≡ 16 + length body =
          rw front (length-again h (take (n - 16) body) (omega (arith, short))) in
          prefix-cut reads _ n len room (omega (arith, field, proper, count, sixteen))
    ]
