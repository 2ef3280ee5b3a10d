-- A batch: what it sends, what it awaits, and the text of it.
use Rattle.std.proofs.Common.{◌≡◌, ◌+◌, ◌<◌, ◌≤◌, ◌==◌, ◌&&◌, ℕ, zero, suc, Bool, true, false, not, cond, List, [], ◌∷◌, ◌++◌, length, get_or, is_some, Option, Result, Ok, Err, map, refl, sym, ◌∙◌, ap, append_assoc, arith}
use Rattle.std.specs.List.{filter, list_all}
use Rattle.std.proofs.lemmas.List.{length-append}
use Rattle.nl_core.specs.Frames.{Format, frame_at, finalized, message_fits, message_text}
use Rattle.nl_core.specs.declared.error.DecodeError.{DecodeError}
use Rattle.nl_core.specs.declared.message.NetlinkMessage.{NetlinkMessage}
use Rattle.session_model.specs.declared.awaited.Awaited.{Awaited}
use Rattle.session_model.specs.declared.transcript.BatchFrame.{BatchFrame}
use Rattle.session_model.specs.Events.{DumpKind, asked_for, asked_message, is_awaited_by}
use Rattle.session_model.specs.Flags.{asks_ack}
use Rattle.session_model.specs.Awaited.{awaited_frames, numbered, with_number}
use Rattle.session_model.specs.Causes.{read_fits}
use Rattle.session_model.specs.SessionText.{numbered_frames}
use Rattle.proto_core.specs.Noted.{noted}
use Rattle.proto_core.specs.Session.{Session}
use Rattle.proto_core.specs.declared.request.ExpectResponse.TheVariants.{Explicit}
use Rattle.session_laws.specs.Counts.{awaited_in, if_any}
use Rattle.session_laws.specs.Requests.{message_in, mark_in, messages_in, marks_in, marked}
use Rattle.session_laws.proofs.Waiting.{awaited_in-cons, turned}

-- Whether a count is that of an open stream.
abbrev pub counted : ℕ → Bool
counted n = is_some (if_any n)

-- Whether a stream closes: it was asked by now and isn't open, and this was not so before.
abbrev pub closes_anew : Bool → Bool → Bool → Bool → Bool
closes_anew asked_now open_now asked_before open_before = (asked_now && not open_now) && not (asked_before && not open_before)

get_or-seam : (xs ys : List Bool) (b : Bool) → get_or (xs ++ b ∷ ys) (length xs) false ≡ b
get_or-seam [] ys b = refl
get_or-seam (x ∷ xs) ys b = get_or-seam xs ys b

module _ {M : Type 0} (f : Format M) where
  -- ---- the frames, one by one

  -- Every message fits where every frame that is read does.
  pub fits_same : (frames : List BatchFrame)
      → list_all (λ (frame : BatchFrame). read_fits f (frame_at f.reads frame.bytes)) frames
      ≡ list_all (message_fits f.text f.fits) (messages_in f frames)
  fits_same [] = refl
  fits_same (x ∷ xs) = by (fits_same xs) (frame_at f.reads x.bytes)
    where
      by : list_all (λ (frame : BatchFrame). read_fits f (frame_at f.reads frame.bytes)) xs
          ≡ list_all (message_fits f.text f.fits) (messages_in f xs) → (r : Result (NetlinkMessage M) DecodeError)
          → (read_fits f r && list_all (λ (frame : BatchFrame). read_fits f (frame_at f.reads frame.bytes)) xs)
          ≡ list_all (message_fits f.text f.fits) (message_in f r ++ messages_in f xs)
      by ih (Ok m) = ap (λ b. message_fits f.text f.fits m && b) ih
      by ih (Err e) = ih

module _ {M : Type 0} (f : Format M) (d : Option DumpKind) where
  -- A batch has as many messages as it asks.
  pub count_same : (frames : List BatchFrame) → length (messages_in f frames) ≡ length (asked_for f d frames)
  count_same [] = refl
  count_same (x ∷ xs) = by (count_same xs) (frame_at f.reads x.bytes)
    where
      by : length (messages_in f xs) ≡ length (asked_for f d xs) → (r : Result (NetlinkMessage M) DecodeError)
          → length (message_in f r ++ messages_in f xs) ≡ length (asked_message f d x.mark r ++ asked_for f d xs)
      by ih (Ok m) = ap suc ih
      by ih (Err e) = ih

  -- What is noted of the messages is what the batch's frames await.
  pub noted_same : (before : List Bool) (frames : List BatchFrame) (last tag port : ℕ)
      → noted (Explicit (before ++ marks_in f frames)) (length before) last tag port (messages_in f frames)
      ≡ awaited_frames last tag port (asked_for f d frames)
  noted_same before [] last tag port = refl
  noted_same before (x ∷ xs) last tag port = by (λ bs n. noted_same bs xs n tag port) (frame_at f.reads x.bytes)
    where
      by : ((bs : List Bool) (n : ℕ)
          → noted (Explicit (bs ++ marks_in f xs)) (length bs) n tag port (messages_in f xs) ≡ awaited_frames n tag port (asked_for f d xs))
          → (r : Result (NetlinkMessage M) DecodeError)
          → noted (Explicit (before ++ (mark_in f x.mark r ++ marks_in f xs))) (length before) last tag port (message_in f r ++ messages_in f xs)
          ≡ awaited_frames last tag port (asked_message f d x.mark r ++ asked_for f d xs)
      by ih (Err e) = ih before last
      by ih (Ok m) =
          let b = is_awaited_by x.mark m.header in
          let one : Bool → List (Awaited ℕ) = λ c. cond c (record { number = last + 1; port = port; stream = tag; acks = asks_ack m.header } ∷ []) [] in
          let whole : (before ++ b ∷ []) ++ marks_in f xs ≡ before ++ b ∷ marks_in f xs = append_assoc before (b ∷ []) (marks_in f xs) in
          let more : length (before ++ b ∷ []) ≡ length before + 1 = length-append before (b ∷ []) in
          ap (λ c. one c ++ noted (Explicit (before ++ b ∷ marks_in f xs)) (length before + 1) (last + 1) tag port (messages_in f xs))
          (get_or-seam before (marks_in f xs) b)
          ∙ ap (λ marks. one b ++ noted (Explicit marks) (length before + 1) (last + 1) tag port (messages_in f xs)) (sym whole)
          ∙ ap (λ i. one b ++ noted (Explicit ((before ++ b ∷ []) ++ marks_in f xs)) i (last + 1) tag port (messages_in f xs)) (sym more)
          ∙ ap (λ ws. one b ++ ws) (ih (before ++ b ∷ []) (last + 1))

  -- The frames of a request's messages are those that its datagram is to have.
  pub datagram_same : (frames : List BatchFrame) (last : ℕ)
      → map (message_text f.text) (numbered f.kind f.text last (messages_in f frames)) ≡ numbered_frames last (asked_for f d frames)
  datagram_same [] last = refl
  datagram_same (x ∷ xs) last = by (λ n. datagram_same xs n) (frame_at f.reads x.bytes)
    where
      by : ((n : ℕ) → map (message_text f.text) (numbered f.kind f.text n (messages_in f xs)) ≡ numbered_frames n (asked_for f d xs))
          → (r : Result (NetlinkMessage M) DecodeError)
          → map (message_text f.text) (numbered f.kind f.text last (message_in f r ++ messages_in f xs))
          ≡ numbered_frames last (asked_message f d x.mark r ++ asked_for f d xs)
      by ih (Ok m) = ap (λ t. message_text f.text (with_number (last + 1) (finalized f.kind f.text m)) ∷ t) (ih (last + 1))
      by ih (Err e) = ih last

  -- how many numbers of each stream are awaited anew
  pub newly_counted : (k stream port : ℕ) (frames : List BatchFrame) (last : ℕ)
      → awaited_in k (awaited_frames last stream port (asked_for f d frames)) ≡ cond (k == stream) (marked (marks_in f frames)) 0
  newly_counted k stream port [] last = none (k == stream)
    where
      none : (b : Bool) → zero ≡ cond b zero zero
      none true = refl
      none false = refl
  newly_counted k stream port (x ∷ xs) last = by (λ n. newly_counted k stream port xs n) (frame_at f.reads x.bytes)
    where
      plus1 : (n : ℕ) → 1 + n ≡ suc n
      plus1 n = omega arith

      one_more : (b : Bool) (n : ℕ) → cond b 1 0 + cond b n 0 ≡ cond b (suc n) 0
      one_more true n = plus1 n
      one_more false n = refl

      by : ((n : ℕ) → awaited_in k (awaited_frames n stream port (asked_for f d xs)) ≡ cond (k == stream) (marked (marks_in f xs)) 0)
          → (r : Result (NetlinkMessage M) DecodeError)
          → awaited_in k (awaited_frames last stream port (asked_message f d x.mark r ++ asked_for f d xs))
          ≡ cond (k == stream) (marked (mark_in f x.mark r ++ marks_in f xs)) 0
      by ih (Err e) = ih last
      by ih (Ok m) = marks (is_awaited_by x.mark m.header)
        where
          rest : List (Awaited ℕ)
          rest = awaited_frames (last + 1) stream port (asked_for f d xs)

          new : Awaited ℕ
          new = record { number = last + 1; port = port; stream = stream; acks = asks_ack m.header }

          marks : (b : Bool) → awaited_in k (cond b (new ∷ []) [] ++ rest)
              ≡ cond (k == stream) (length (cond b (b ∷ filter (λ c. c) (marks_in f xs)) (filter (λ c. c) (marks_in f xs)))) 0
          marks true =
              awaited_in-cons k new rest
              ∙ ap (λ b. cond b 1 0 + awaited_in k rest) (turned stream k) ∙ ap (λ n. cond (k == stream) 1 0 + n) (ih (last + 1))
              ∙ one_more (k == stream) (marked (marks_in f xs))
          marks false = ih (last + 1)
