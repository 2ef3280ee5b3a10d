-- A frame in front of other bytes reads as it does alone.
use Rattle.std.proofs.Common.{◌≡◌, ◌+◌, ◌-◌, ◌≤◌, ◌<◌, ℕ, List, ◌++◌, length, get_or, take, drop, Result, Ok, refl, sym, ◌∙◌, ap, arith}
use Rattle.std.proofs.lemmas.Bool.{le-ltb}
use Rattle.std.proofs.lemmas.List.{length-append, length-drop, drop-append-le, take-append-le}
use Rattle.std.proofs.Math.ListN.{get_or-append}
use Rattle.nl_core.specs.declared.error.DecodeError.{DecodeError}
use Rattle.nl_core.specs.declared.header.NetlinkHeader.{NetlinkHeader}
use Rattle.nl_core.specs.declared.message.NetlinkMessage.{NetlinkMessage}
use Rattle.nl_core.specs.Numbers.{u16_at, u32_at}
use Rattle.nl_core.specs.Reading.{◌>>=◌}
use Rattle.nl_core.specs.Frames.{IsFrame, header_at, payload_at, frame_at}

u16_at-append : (xs ys : List ℕ) (i : ℕ) → i + 2 ≤ length xs → u16_at (xs ++ ys) i ≡ u16_at xs i
unfolding u16_at
u16_at-append xs ys i h = rw (get_or-append xs ys 0 i (omega (arith, h)), get_or-append xs ys 0 (i + 1) (omega (arith, h))) refl

u32_at-append : (xs ys : List ℕ) (i : ℕ) → i + 4 ≤ length xs → u32_at (xs ++ ys) i ≡ u32_at xs i
unfolding u32_at
u32_at-append xs ys i h =
    let same : (j : ℕ) → j < 4 → get_or (xs ++ ys) (i + j) 0 ≡ get_or xs (i + j) 0 = λ j l. get_or-append xs ys 0 (i + j) (omega (arith, h, l)) in
    rw (get_or-append xs ys 0 i (omega (arith, h)), same 1 (omega arith), same 2 (omega arith), same 3 (omega arith)) refl

-- The header of bytes is that of their first sixteen.
pub header_at-append : (xs ys : List ℕ) → 16 ≤ length xs → header_at (xs ++ ys) ≡ header_at xs
header_at-append xs ys h =
    let word : (i : ℕ) → i + 4 ≤ 16 → u32_at (xs ++ ys) i ≡ u32_at xs i = λ i l. u32_at-append xs ys i (omega (arith, h, l)) in
    let half : (i : ℕ) → i + 2 ≤ 16 → u16_at (xs ++ ys) i ≡ u16_at xs i = λ i l. u16_at-append xs ys i (omega (arith, h, l)) in
    rw (word 0 (omega arith), half 4 (omega arith), half 6 (omega arith), word 8 (omega arith), word 12 (omega arith)) refl

module _ {M : Type 0} (reads : ℕ → List ℕ → Result M DecodeError) where
  -- The message of a header and the bytes of its payload.
  abbrev joined_to : NetlinkHeader → List ℕ → Result (NetlinkMessage M) DecodeError
  joined_to h payload = payload_at reads h.message_type payload >>= λ p. Ok (record { header = h; payload = p })

  frame_at-whole : (bytes : List ℕ) → 16 ≤ length bytes → 16 ≤ u32_at bytes 0 → u32_at bytes 0 ≤ length bytes
      → frame_at reads bytes ≡ joined_to (header_at bytes) (take (u32_at bytes 0 - 16) (drop 16 bytes))
  frame_at-whole bytes room low high = rw (le-ltb (length bytes) 16 room, le-ltb (u32_at bytes 0) 16 low, le-ltb (length bytes) (u32_at bytes 0) high) refl

  -- What follows a frame changes nothing of what it reads as.
  pub frame_at-append : (frame more : List ℕ) → IsFrame frame → frame_at reads (frame ++ more) ≡ frame_at reads frame
  frame_at-append frame more is =
      let room = is.header in
      let whole = is.whole in
      let count = length-append frame more in
      let same = u32_at-append frame more 0 (omega (arith, room)) in
      let tail : drop 16 (frame ++ more) ≡ drop 16 frame ++ more = drop-append-le 16 frame more room in
      let inside : take (u32_at frame 0 - 16) (drop 16 (frame ++ more)) ≡ take (u32_at frame 0 - 16) (drop 16 frame) =
      ap (take (u32_at frame 0 - 16)) tail ∙ take-append-le (u32_at frame 0 - 16) (drop 16 frame) more (omega (arith, length-drop 16 frame, whole)) in
      frame_at-whole (frame ++ more) (omega (arith, room, count)) (omega (arith, room, whole, same)) (omega (arith, whole, same, count))
      ∙ ap (λ h. joined_to h (take (u32_at (frame ++ more) 0 - 16) (drop 16 (frame ++ more)))) (header_at-append frame more room)
      ∙ ap (λ n. joined_to (header_at frame) (take (n - 16) (drop 16 (frame ++ more)))) same
      ∙ ap (joined_to (header_at frame)) inside
      ∙ sym (frame_at-whole frame room (omega (arith, room, whole)) (omega (arith, whole)))
