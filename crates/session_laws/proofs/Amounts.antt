-- How many messages and drops a datagram brings at most, and that it doesn't close the link.
use Rattle.std.proofs.Common.{◌≡◌, ◌+◌, ◌<◌, ◌≤◌, ◌||◌, ℕ, zero, suc, Bool, true, false, List, [], ◌∷◌, ◌++◌, length, map, Result, Ok, Err, refl, sym, ◌∙◌, ap, arith, add-zero}
use Rattle.std.specs.List.{list_any}
use Rattle.std.proofs.lemmas.List.{length-append}
use Rattle.nl_core.specs.Frames.{Format, frame_at}
use Rattle.nl_core.specs.declared.error.DecodeError.{DecodeError}
use Rattle.nl_core.specs.declared.message.NetlinkMessage.{NetlinkMessage}
use Rattle.session_model.specs.declared.address.SocketAddr.{SocketAddr}
use Rattle.session_model.specs.Cut.{begins, after_front, frames_of, rest_of}
use Rattle.session_model.specs.Events.{Event, Came, Unread, Leftover, arrival_of, arrivals, brought, datagram_events, leftover}
use Rattle.session_model.specs.Reported.{drops, dropped_count}
use Rattle.session_model.specs.Streams.{is_shut, shuts}
use Rattle.session_model.proofs.Cuts.{shorter}
use Rattle.session_model.proofs.Datagrams.{last_event, next_event}

-- How many messages and drops events bring.
abbrev pub amount : {M : Type 0} → List (Event M) → ℕ
amount es = length (arrivals es) + dropped_count es

module _ {M : Type 0} (f : Format M) (source : SocketAddr) where
  leftover_open : (rest : List ℕ) → is_shut (leftover f source rest) ≡ false
  leftover_open [] = refl
  leftover_open (b ∷ bytes) = refl

  brought_open : (frame : List ℕ) (r : Result (NetlinkMessage M) DecodeError) → shuts (brought f source frame r) ≡ false
  brought_open frame (Ok m) = refl
  brought_open frame (Err e) = refl

  -- No event of a datagram closes the link.
  pub datagram_open : (bytes : List ℕ) → is_shut (datagram_events f source bytes) ≡ false
  datagram_open bytes = by (frames_of bytes)
    where
      by : (frames : List (List ℕ)) → is_shut (map (λ frame. brought f source frame (frame_at f.reads frame)) frames ++ leftover f source (rest_of bytes)) ≡ false
      by [] = leftover_open (rest_of bytes)
      by (x ∷ frames) = ap (λ b. b || is_shut (map (λ frame. brought f source frame (frame_at f.reads frame)) frames ++ leftover f source (rest_of bytes))) (brought_open x (frame_at f.reads x)) ∙ by frames

  amount_more : (e : Event M) (es : List (Event M)) → amount (e ∷ es) ≡ (length (arrival_of e) + drops e) + amount es
  amount_more e es = let n = length-append (arrival_of e) (arrivals es) in
      plain (length (arrivals (e ∷ es))) (length (arrival_of e)) (length (arrivals es)) (drops e) (dropped_count es) n
    where
      plain : (all a later d ds : ℕ) → all ≡ a + later → all + (d + ds) ≡ (a + d) + (later + ds)
      plain all a later d ds h = omega arith

  brought_one : (frame : List ℕ) (r : Result (NetlinkMessage M) DecodeError)
      → length (arrival_of (brought f source frame r)) + drops (brought f source frame r) ≡ 1
  brought_one frame (Ok m) = refl
  brought_one frame (Err e) = refl

  leftover_few : (rest : List ℕ) → amount (leftover f source rest) ≤ length rest
  leftover_few [] = omega arith
  leftover_few (b ∷ bytes) = omega arith

  few : (n : ℕ) (bytes : List ℕ) → length bytes < n → amount (datagram_events f source bytes) ≤ length bytes
  few zero bytes h = absurd (omega (arith, h))
  few (suc n) bytes h = by (few n) (begins bytes) refl
    where
      by : ((left : List ℕ) → length left < n → amount (datagram_events f source left) ≤ length left)
          → (b : Bool) → begins bytes ≡ b → amount (datagram_events f source bytes) ≤ length bytes
      by ih true is =
          let less = shorter bytes is in
          let rest : amount (datagram_events f source (after_front bytes)) ≤ length (after_front bytes) = ih (after_front bytes) (omega (arith, less, h)) in
          let e = brought f source bytes (frame_at f.reads bytes) in
          let whole : amount (datagram_events f source bytes) ≡ (length (arrival_of e) + drops e) + amount (datagram_events f source (after_front bytes)) =
          ap amount (next_event f source bytes is) ∙ amount_more e (datagram_events f source (after_front bytes)) in
          plain (amount (datagram_events f source bytes)) (length (arrival_of e) + drops e) (amount (datagram_events f source (after_front bytes))) (length (after_front bytes)) (length bytes)
          whole (brought_one bytes (frame_at f.reads bytes)) rest less
        where
          plain : (all one rest after len : ℕ) → all ≡ one + rest → one ≡ 1 → rest ≤ after → after + 16 ≤ len → all ≤ len
          plain all one rest after len a b c d = omega arith
      by ih false is =
          let whole : amount (datagram_events f source bytes) ≡ amount (leftover f source bytes) = ap amount (last_event f source bytes is) in
          let l = leftover_few bytes in
          omega (arith, whole, l)

  -- A datagram brings at most as many messages and drops as it has bytes.
  pub datagram_few : (bytes : List ℕ) → amount (datagram_events f source bytes) ≤ length bytes
  datagram_few bytes = few (suc (length bytes)) bytes (omega arith)
