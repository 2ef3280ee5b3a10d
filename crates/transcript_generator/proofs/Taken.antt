-- Datagrams, blocked networks and look-ups are taken after events without a close.
use Rattle.std.proofs.Common.{◌≡◌, ◌+◌, ◌≤◌, ◌||◌, ℕ, false, List, [], ◌∷◌, ◌++◌, length, map, nat_lt, Some, None, Result, Ok, Err, refl, sym, ◌∙◌, ap, subst, arith}
use Rattle.std.specs.List.{AllByRecursion}
use Rattle.std.proofs.lemmas.Bool.Decides.{nat_tests}
use Rattle.std.proofs.lemmas.List.Folds.{list_any-append}
use Rattle.nl_core.specs.Frames.{Format, frame_at}
use Rattle.nl_core.specs.declared.error.DecodeError.{DecodeError}
use Rattle.nl_core.specs.declared.message.NetlinkMessage.{NetlinkMessage}
use Rattle.session_model.specs.declared.address.SocketAddr.{SocketAddr}
use Rattle.session_model.specs.declared.transcript.Record.{Record}
use Rattle.session_model.specs.declared.transcript.Record.TheVariants.{Recv, Overrun, Close, Batch, Resync, Block, Unblock, Lookup}
use Rattle.session_model.specs.Awaited.{frames_sent, last_number}
use Rattle.session_model.specs.Causes.{AreTaken, refusal}
use Rattle.session_model.specs.Cut.{frames_of, rest_of}
use Rattle.session_model.specs.declared.transcript.Mark.TheVariants.{ByFlags}
use Rattle.session_model.specs.Events.{Event, OfRoutes, asked_message, brought, leftover, record_events, resync_bytes}
use Rattle.session_model.specs.Streams.{is_shut, shuts}
use Rattle.session_model.specs.Transcript.{IsRecord, IsSpelled}
use Rattle.session_model.specs.Usual.{usual}
use Rattle.session_model.proofs.Places.{last_number-append}

-- A datagram, a network that is blocked or an address that is looked up, as a line can spell it.
abbrev pub IsCalm : Record → Type 0
IsCalm (Recv source bytes) = IsSpelled (Recv source bytes)
IsCalm Overrun = ⊥
IsCalm Close = ⊥
IsCalm (Batch to frames) = ⊥
IsCalm Resync = ⊥
IsCalm (Block n) = IsSpelled (Block n)
IsCalm (Unblock n) = ⊥
IsCalm (Lookup a) = IsSpelled (Lookup a)

module _ {M : Type 0} where
  -- Events that send nothing and don't close.
  pub record AreQuiet (es : List (Event M)) : Type 0 where
    pub still : is_shut es ≡ false
    pub numbers : (n : ℕ) → last_number n es ≡ n

  quiet-none : AreQuiet []
  quiet-none = record { still = refl; numbers = λ n. refl }

  quiet-more : (e : Event M) (es : List (Event M)) → shuts e ≡ false → frames_sent e ≡ 0 → AreQuiet es → AreQuiet (e ∷ es)
  quiet-more e es shut sent quiet = record {
    still = ap (λ b. b || is_shut es) shut ∙ quiet.still;
    numbers = λ n.
        let same : n + frames_sent e ≡ n = omega (arith, sent) in
        ap (λ k. last_number k es) same ∙ quiet.numbers n;
  }

  quiet-append : (es later : List (Event M)) → AreQuiet es → AreQuiet later → AreQuiet (es ++ later)
  quiet-append es later a b = record {
    still = list_any-append shuts es later ∙ ap (λ x. x || is_shut later) a.still ∙ b.still;
    numbers = λ n. last_number-append n es later ∙ b.numbers (last_number n es) ∙ a.numbers n;
  }

  -- After events that took one number at most, the link is open.
  pub record IsFree (before : List (Event M)) : Type 0 where
    pub still : is_shut before ≡ false
    pub numbers : last_number 0 before ≤ 1

  free-more : (before es : List (Event M)) → IsFree before → AreQuiet es → IsFree (before ++ es)
  free-more before es free quiet = record {
    still = list_any-append shuts before es ∙ ap (λ x. x || is_shut es) free.still ∙ quiet.still;
    numbers =
        let same = last_number-append 0 before es ∙ quiet.numbers (last_number 0 before) in
        subst (λ n. n ≤ 1) (sym same) free.numbers;
  }

module _ {M : Type 0} (f : Format M) where
  came-quiet : (source : SocketAddr) (frames : List (List ℕ)) → AreQuiet (map (λ frame. brought f source frame (frame_at f.reads frame)) frames)
  came-quiet source [] = quiet-none
  came-quiet source (frame ∷ frames) =
      quiet-more _ _ (stays (frame_at f.reads frame)) (none (frame_at f.reads frame)) (came-quiet source frames)
    where
      stays : (read : Result (NetlinkMessage M) DecodeError) → shuts (brought f source frame read) ≡ false
      stays (Ok m) = refl
      stays (Err e) = refl

      none : (read : Result (NetlinkMessage M) DecodeError) → frames_sent (brought f source frame read) ≡ 0
      none (Ok m) = refl
      none (Err e) = refl

  rest-quiet : (source : SocketAddr) (bytes : List ℕ) → AreQuiet (leftover f source bytes)
  rest-quiet source [] = quiet-none
  rest-quiet source (b ∷ bytes) = quiet-more _ [] refl refl quiet-none

  calm-quiet : (r : Record) → IsCalm r → AreQuiet (record_events f usual r)
  calm-quiet (Recv source bytes) h = quiet-append _ _ (came-quiet source (frames_of bytes)) (rest-quiet source (rest_of bytes))
  calm-quiet Overrun h = absurd h
  calm-quiet Close h = absurd h
  calm-quiet (Batch to frames) h = absurd h
  calm-quiet Resync h = absurd h
  calm-quiet (Unblock n) h = absurd h
  calm-quiet (Block n) h = quiet-more _ [] refl refl quiet-none
  calm-quiet (Lookup a) h = quiet-more _ [] refl refl quiet-none

  calm-record : (r : Record) → IsCalm r → IsRecord f.reads r
  calm-record (Recv source bytes) h = (h, tt)
  calm-record Overrun h = absurd h
  calm-record Close h = absurd h
  calm-record (Batch to frames) h = absurd h
  calm-record Resync h = absurd h
  calm-record (Unblock n) h = absurd h
  calm-record (Block n) h = (h, tt)
  calm-record (Lookup a) h = (h, tt)

  calm-free : (before : List (Event M)) (r : Record) → IsFree before → IsCalm r → refusal f usual before r ≡ None
  calm-free before r free h = by r h
    where
      few : nat_lt 4294967295 (last_number 0 before + 0) ≡ false
      few = few_of (last_number 0 before) free.numbers
        where
          few_of : (n : ℕ) → n ≤ 1 → nat_lt 4294967295 (n + 0) ≡ false
          few_of n h = grind (arith, nat_tests)

      by : (r : Record) → IsCalm r → refusal f usual before r ≡ None
      by (Recv source bytes) h = rw (free.still, few) refl
      by Overrun h = absurd h
      by Close h = absurd h
      by (Batch to frames) h = absurd h
      by Resync h = absurd h
      by (Unblock n) h = absurd h
      by (Block n) h = rw few refl
      by (Lookup a) h = rw few refl

  -- They are taken.
  pub calm-taken : (before : List (Event M)) (rs : List Record) → IsFree before → AllByRecursion IsCalm rs
      → AreTaken f usual (IsRecord f.reads) before rs
  calm-taken before [] free all = tt
  calm-taken before (r ∷ rs) free all =
      let after = calm-taken (before ++ record_events f usual r) rs (free-more before _ free (calm-quiet r all.0)) all.1 in
      (calm-record r all.0, calm-free before r free all.0, after)

  -- After the request for a dump the link is open.
  pub asked-free : IsFree (record_events f usual Resync)
  asked-free = record { still = refl; numbers = one (frame_at f.reads resync_bytes) }
    where
      one : (read : Result (NetlinkMessage M) DecodeError) → 0 + length (asked_message f (Some OfRoutes) ByFlags read ++ []) ≤ 1
      one (Ok m) = omega arith
      one (Err e) = omega arith
