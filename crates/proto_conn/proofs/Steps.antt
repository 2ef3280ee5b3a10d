-- Single steps of reading.
use Rattle.std.proofs.Common.{◌≡◌, ◌+◌, ◌*◌, ◌≤◌, ◌<◌, ◌==◌, ◌⊎◌, ℕ, zero, suc, Bool, true, false, cond, List, [], ◌∷◌, ◌++◌, length, flat_map, Option, Result, Ok, Err, refl, sym, subst, inl, inr, IfSome, nat_lt, ◌∙◌, ap, arith}
use Rattle.std.proofs.lemmas.Bool.Decides.{nat_tests}
use Rattle.nl_core.specs.Frames.{frame_at}
use Rattle.nl_core.specs.declared.error.DecodeError.{DecodeError}
use Rattle.nl_core.specs.declared.message.NetlinkMessage.{NetlinkMessage}
use Rattle.session_model.specs.declared.address.SocketAddr.{SocketAddr}
use Rattle.session_model.specs.Cut.{begins, after_front}
use Rattle.session_model.specs.Events.{Event, Leftover, Overran, Shut, brought, leftover}
use Rattle.session_model.specs.Streams.{is_shut}
use Rattle.session_model.proofs.Cuts.{shorter}
use Rattle.proto_core.specs.declared.codec.Decoded.{Decoded}
use Rattle.proto_core.specs.declared.codec.Decoded.TheVariants as decoded
use Rattle.proto_core.specs.Codec.{front, told, rest_told, without_front}
use Rattle.proto_conn.specs.declared.link.Arrival.{Arrival as LinkArrival}
use Rattle.proto_conn.specs.declared.link.Arrival.TheVariants as arrival
use Rattle.proto_conn.specs.declared.link.Received.{Received}
use Rattle.proto_conn.specs.declared.link.Received.TheVariants as received
use Rattle.proto_conn.specs.declared.framed.Dropped.TheVariants as dropped
use Rattle.proto_conn.specs.declared.framed.Step.TheVariants as step
use Rattle.proto_conn.specs.Links.{Meaning, taken_by, closing, DidReceive}
use Rattle.proto_conn.specs.Seen.{Framing, DidRead, IsStep, IsProgress, arrived_in, brings, events_in, front_seen, read_only, shut_by}
use Rattle.proto_conn.proofs.Datagrams.{next_event, last_event}
use Rattle.proto_conn.proofs.Seeing.{append-nil, front_nil, later_same}

-- something stands in front
abbrev pub filled : {M : Type 0} → Decoded M → Bool
filled (decoded.Message m) = true
filled (decoded.Unreadable kind number) = true
filled (decoded.Rest n) = true
filled decoded.Empty = false

one_more : (n : ℕ) → n + 1 ≡ suc n
one_more n = omega arith

module _ {M : Type 0} (reads : ℕ → List ℕ → Result M DecodeError) where
  told_same : (source : SocketAddr) (bytes : List ℕ) (r : Result (NetlinkMessage M) DecodeError) (later : List (Event M))
      → brought (read_only reads) source bytes r ∷ later ≡ front_seen source (told bytes r) ++ later
  told_same source bytes (Ok m) later = refl
  told_same source bytes (Err e) later = refl

  rest_same : (source : SocketAddr) (bytes : List ℕ)
      → leftover (read_only reads) source bytes ≡ front_seen source (rest_told bytes) ++ events_in reads source []
  unfolding events_in
  rest_same source [] = refl
  rest_same source (b ∷ bytes) = ap (λ n. Leftover n source ∷ []) (one_more (length bytes))

  by_begins : (source : SocketAddr) (bytes : List ℕ) (b : Bool) → begins bytes ≡ b
      → events_in reads source bytes ≡ front_seen source (cond b (told bytes (frame_at reads bytes)) (rest_told bytes)) ++ events_in reads source
      (cond b (after_front bytes) [])
  unfolding events_in
  by_begins source bytes true is = next_event (read_only reads) source bytes is ∙ told_same source bytes (frame_at reads bytes) _
  by_begins source bytes false is = last_event (read_only reads) source bytes is ∙ rest_same source bytes

  -- what is seen in bytes is what stands in front, and what is seen behind it
  pub seen_front : (source : SocketAddr) (bytes : List ℕ)
      → events_in reads source bytes ≡ front_seen source (front reads bytes) ++ events_in reads source (without_front bytes)
  seen_front source bytes = by_begins source bytes (begins bytes) refl

  count_told : (source : SocketAddr) (bytes : List ℕ) (r : Result (NetlinkMessage M) DecodeError) → arrived_in (front_seen source (told bytes r)) ≤ 1
  count_told source bytes (Ok m) = omega arith
  count_told source bytes (Err e) = omega arith

  count_rest : (source : SocketAddr) (bytes : List ℕ) → arrived_in {M = M} (front_seen source (rest_told bytes)) ≡ 0
  count_rest source [] = refl
  count_rest source (b ∷ bytes) = refl

  count_begins : (source : SocketAddr) (bytes : List ℕ) (b : Bool) → begins bytes ≡ b
      → 16 * arrived_in (front_seen source (cond b (told bytes (frame_at reads bytes)) (rest_told bytes))) + length (cond b
      (after_front bytes) []) ≤ length bytes
  count_begins source bytes true is = let c = count_told source bytes (frame_at reads bytes) in let s = shorter bytes is in omega (arith, c, s)
  count_begins source bytes false is = let c = count_rest source bytes in omega (arith, c)

  pub count_front : (source : SocketAddr) (bytes : List ℕ)
      → 16 * arrived_in (front_seen source (front reads bytes)) + length (without_front bytes) ≤ length bytes
  count_front source bytes = count_begins source bytes (begins bytes) refl

  nonempty : (bytes : List ℕ) → filled (front reads bytes) ≡ true → nat_lt 0 (length bytes) ≡ true
  nonempty [] h = h
  nonempty (b ∷ bytes) h = grind (arith, nat_tests)

  less_begins : (bytes : List ℕ) (b : Bool) → begins bytes ≡ b → 0 < length bytes → length (cond b (after_front bytes) []) < length bytes
  less_begins bytes true is h = let s = shorter bytes is in omega (arith, s)
  less_begins bytes false is h = omega (arith, h)

  -- once something in front is read there are fewer bytes
  pub less : (bytes : List ℕ) → filled (front reads bytes) ≡ true → length (without_front bytes) < length bytes
  less bytes h = less_begins bytes (begins bytes) refl (let n = nonempty bytes h in grind (arith, nat_tests))

  told_filled : (bytes : List ℕ) (r : Result (NetlinkMessage M) DecodeError) → told bytes r ≡ decoded.Empty → true ≡ false
  told_filled bytes (Ok m) e = cc
  told_filled bytes (Err x) e = cc

  rest_empty : (bytes : List ℕ) → rest_told {M = M} bytes ≡ decoded.Empty → bytes ≡ []
  rest_empty [] e = refl
  rest_empty (b ∷ bytes) e = cc

  nothing_begins : (bytes : List ℕ) (b : Bool) → cond b (told bytes (frame_at reads bytes)) (rest_told bytes) ≡ decoded.Empty → bytes ≡ []
  nothing_begins bytes true e = let f = told_filled bytes (frame_at reads bytes) e in cc
  nothing_begins bytes false e = rest_empty bytes e

  -- where nothing stands in front there are no bytes
  pub nothing_in_front : (bytes : List ℕ) → front reads bytes ≡ decoded.Empty → bytes ≡ []
  nothing_in_front bytes is = nothing_begins bytes (begins bytes) is

  module _ {S : Type 0} (meaning : S → Meaning) where
    -- what stands in front is read
    read_front : (f : Framing S) (r : List ℕ) → r ≡ without_front f.reader
        → DidRead reads meaning f (front_seen f.source (front reads f.reader)) (record f { reader = r })
    read_front f r e = record {
      saw = record {
        taken = [];
        told = front_nil (meaning f.link).waits;
        seen = ap (λ (b : List ℕ). front_seen f.source (front reads f.reader) ++ events_in reads f.source b) e
            ∙ sym (seen_front f.source f.reader) ∙ sym (append-nil (events_in reads f.source f.reader));
        later = later_same (meaning f.link);
        posted = refl;
        first = λ p. inl p;
      };
      writer = refl;
      destination = refl;
    }

    progress : (f : Framing S) (r : List ℕ) (d : Decoded M) → r ≡ without_front f.reader → front reads f.reader ≡ d → filled d ≡ true
        → IsProgress meaning f (front_seen f.source d) (record f { reader = r })
    progress f r d e is h =
        let l = less f.reader (ap filled is ∙ h) in
        let k : length r ≡ length (without_front f.reader) = ap length e in
        let c = subst (λ (d : Decoded M). 16 * arrived_in (front_seen f.source d) + length (without_front f.reader) ≤ length f.reader) is
        (count_front f.source f.reader) in
        record { less = omega (arith, l, k); within = omega (arith, c, k); closings = refl }

    pub step_message : (f : Framing S) (m : NetlinkMessage M) (r : List ℕ) → front reads f.reader ≡ decoded.Message m → r ≡ without_front f.reader
        → IsStep reads meaning f (step.Message m f.source) (record f { reader = r })
    step_message f m r is e = record {
      read = subst (λ d. DidRead reads meaning f (front_seen f.source d) (record f { reader = r })) is (read_front f r e);
      because = progress f r (decoded.Message m) e is refl;
    }

    pub step_unreadable : (f : Framing S) (kind number : ℕ) (r : List ℕ) → front reads f.reader ≡ decoded.Unreadable kind number → r ≡ without_front f.reader
        → IsStep reads meaning f (step.Lost (dropped.Unreadable kind number) f.source) (record f { reader = r })
    step_unreadable f kind number r is e = record {
      read = subst (λ d. DidRead reads meaning f (front_seen f.source d) (record f { reader = r })) is (read_front f r e);
      because = progress f r (decoded.Unreadable kind number) e is refl;
    }

    pub step_rest : (f : Framing S) (n : ℕ) (r : List ℕ) → front reads f.reader ≡ decoded.Rest n → r ≡ without_front f.reader
        → IsStep reads meaning f (step.Lost (dropped.Rest n) f.source) (record f { reader = r })
    step_rest f n r is e = record {
      read = subst (λ d. DidRead reads meaning f (front_seen f.source d) (record f { reader = r })) is (read_front f r e);
      because = progress f r (decoded.Rest n) e is refl;
    }

    received_from : (f : Framing S) (l : S) (answer : Received) (bytes : List ℕ) (source : SocketAddr) (es : List (Event M)) → f.reader ≡ []
        → DidReceive (meaning f.link) answer bytes (meaning l)
        → es ++ events_in reads source bytes ≡ flat_map (brings reads) (taken_by (meaning f.link).closings answer bytes)
        → (0 < (meaning l).closings → (0 < (meaning f.link).closings) ⊎ (is_shut es ≡ true))
        → DidRead reads meaning f es (record f { link = l; reader = bytes; source = source })
    unfolding events_in
    received_from f l answer bytes source es none did seen first = record {
      saw = record {
        taken = taken_by (meaning f.link).closings answer bytes;
        told = did.waits;
        seen = seen ∙ ap (λ (b : List ℕ). events_in reads f.source b ++ flat_map (brings reads) (taken_by (meaning f.link).closings answer bytes)) (sym none);
        later = did.later;
        posted = did.posted;
        first = first;
      };
      writer = refl;
      destination = refl;
    }

    still : (f : Framing S) (l : S) (es : List (Event M)) → (meaning l).closings ≡ (meaning f.link).closings → 0 < (meaning l).closings
        → (0 < (meaning f.link).closings) ⊎ (is_shut es ≡ true)
    still f l es e p = inl (subst (λ n. 0 < n) e p)

    first_shut : (n : ℕ) → (0 < n) ⊎ (is_shut {M = M} (shut_by n) ≡ true)
    first_shut zero = inr refl
    first_shut (suc n) = inl (omega arith)

    pub step_fetched : (f : Framing S) (l : S) (bytes : List ℕ) (source : SocketAddr) → f.reader ≡ []
        → DidReceive (meaning f.link) (received.Datagram source) bytes (meaning l)
        → IsStep reads meaning f step.Fetched (record f { link = l; reader = bytes; source = source })
    step_fetched f l bytes source none did = record {
      read =
          received_from f l (received.Datagram source) bytes source [] none did (sym (append-nil (events_in reads source bytes)))
          (still f l [] did.closings);
      because = let a = did.cause.0 in let b = did.cause.1 in record { less = omega (arith, a, b); within = omega (arith, a, b); closings = did.closings };
    }

    pub step_overran : (f : Framing S) (l : S) (bytes : List ℕ) → f.reader ≡ [] → DidReceive (meaning f.link) received.Overrun bytes (meaning l)
        → IsStep reads meaning f step.Overrun (record f { link = l; reader = bytes })
    unfolding events_in
    step_overran f l bytes none did = record {
      read = received_from f l received.Overrun bytes f.source (Overran ∷ []) none did (ap (λ
          (b : List ℕ). Overran ∷ events_in reads f.source b) did.cause.0) (still f l (Overran ∷ []) did.closings);
      because = let n : length bytes ≡ 0 = ap length did.cause.0 in let b = did.cause.1 in
          (record { less = omega (arith, n, b); within = omega (arith, n, b); closings = did.closings }, did.cause.0);
    }

    shut_brought : (n : ℕ) → shut_by n ≡ flat_map (brings reads) (closing n)
    shut_brought n = elim (n == 0) as (λ b. ◌≡◌ {A = List (Event M)} (cond b (Shut ∷ []) []) (flat_map (brings reads) (cond b
        (arrival.Closed ∷ []) []))) [ true ↦ refl | false ↦ refl ]

    pub step_closed : (f : Framing S) (l : S) (bytes : List ℕ) → f.reader ≡ [] → DidReceive (meaning f.link) received.Closed bytes (meaning l)
        → IsStep reads meaning f step.Closed (record f { link = l; reader = bytes })
    unfolding events_in
    step_closed f l bytes none did = record {
      read = received_from f l received.Closed bytes f.source (shut_by (meaning f.link).closings) none did
          (ap (λ (b : List ℕ). shut_by (meaning f.link).closings ++ events_in reads f.source b) did.cause
          ∙ append-nil (shut_by (meaning f.link).closings) ∙ shut_brought (meaning f.link).closings) (λ p. first_shut (meaning f.link).closings);
      because = (did.closings, did.cause);
    }

    pub step_failed : (f : Framing S) (l : S) (bytes : List ℕ) → f.reader ≡ [] → DidReceive (meaning f.link) received.Failed bytes (meaning l)
        → IsStep reads meaning f step.Failed (record f { link = l; reader = bytes })
    unfolding events_in
    step_failed f l bytes none did = record {
      read = received_from f l received.Failed bytes f.source [] none did (ap (λ (b : List ℕ). events_in reads f.source b) did.cause.0)
          (still f l [] did.closings);
      because = (did.cause.1, did.cause.2, did.cause.0);
    }

    pub step_not_yet : (f : Framing S) (l : S) (bytes : List ℕ) → f.reader ≡ [] → DidReceive (meaning f.link) received.NotReady bytes (meaning l)
        → IsStep reads meaning f step.NotYet (record f { link = l; reader = bytes })
    unfolding events_in
    step_not_yet f l bytes none did = record {
      read = received_from f l received.NotReady bytes f.source [] none did (ap (λ (b : List ℕ). events_in reads f.source b) did.cause.0)
          (still f l [] did.closings);
      because = (
        did.cause.1,
        did.cause.0,
        λ h. let w = did.cause.2 h in
            subst (λ (v : Option (List LinkArrival)). IfSome v (λ waits. waits ≡ [])) (did.waits ∙ sym (front_nil (meaning l).waits)) w,
      );
    }
