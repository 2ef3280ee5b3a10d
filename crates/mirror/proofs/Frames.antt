-- The messages of a batch's frames, frame by frame.
use Rattle.std.proofs.Common.{◌≡◌, ◌+◌, ◌<◌, ℕ, List, [], ◌∷◌, ◌++◌, length, map, get_or, take, Some, None, Result, Ok, Err, flat_map, refl, sym, ◌∙◌, ap}
use Rattle.std.proofs.lemmas.Grind.{flat_map-append}
use Rattle.std.proofs.lemmas.List.{append-nil, take_more}
use Rattle.nl_core.specs.Frames.{frame_at}
use Rattle.nl_core.specs.declared.error.DecodeError.{DecodeError}
use Rattle.nl_core.specs.declared.message.NetlinkMessage.{NetlinkMessage}
use Rattle.session_model.specs.declared.transcript.BatchFrame.{BatchFrame}
use Rattle.session_model.specs.Events.{is_awaited_by}
use Rattle.proto_core.specs.Walk.{if_read}
use Rattle.proto_core.specs.declared.request.ReplyExpectation.{ReplyExpectation}
use Rattle.proto_conn.specs.Handles.{is_expected, marks_of, messages_of}
use Rattle.session_laws.specs.Requests.{mark_in, marks_in, message_in, messages_in}
use Rattle.mirror.specs.Format.{Message, format}

-- A message with whether it awaits a reply.
abbrev pub Pair : Type 0
Pair = NetlinkMessage Message × ReplyExpectation

map_append : {X Y : Type 0} (f : X → Y) (xs ys : List X) → map f (xs ++ ys) ≡ map f xs ++ map f ys
map_append f [] ys = refl
map_append f (x ∷ xs) ys = ap (λ zs. f x ∷ zs) (map_append f xs ys)

was_read : (m : NetlinkMessage Message) (r : Result (NetlinkMessage Message) DecodeError) → Some m ≡ if_read r → r ≡ Ok m
was_read m (Ok k) h = let same : m ≡ k = cc in ap Ok (sym same)
was_read m (Err e) h = cc

module _ (frames : List BatchFrame) (i : ℕ) (frame : BatchFrame) (low : i < length frames) (is : frame ≡ get_or frames i frame) where
  frame_more : {X : Type 0} (f : BatchFrame → List X) → flat_map f (take (i + 1) frames) ≡ flat_map f (take i frames) ++ f frame
  frame_more f =
      ap (flat_map f) (take_more frames i frame low) ∙ flat_map-append f (take i frames) (get_or frames i frame ∷ [])
      ∙ ap (λ t. flat_map f (take i frames) ++ t) (append-nil (f (get_or frames i frame)))
      ∙ ap (λ x. flat_map f (take i frames) ++ f x) (sym is)

  -- A frame that was read adds its message, with whether it awaits a reply.
  pub frame_read : (ps now : List Pair) (m : NetlinkMessage Message) (e : ReplyExpectation)
      → Some m ≡ if_read (frame_at format.reads frame.bytes) → is_expected e ≡ is_awaited_by frame.mark m.header
      → now ≡ ps ++ (m, e) ∷ []
      → messages_of ps ≡ messages_in format (take i frames) → marks_of ps ≡ marks_in format (take i frames)
      → (messages_of now ≡ messages_in format (take (i + 1) frames)) × (marks_of now ≡ marks_in format (take (i + 1) frames))
  frame_read ps now m e read mark now_is messages marks =
      let one = was_read m (frame_at format.reads frame.bytes) read in (
        ap messages_of now_is ∙ map_append (λ (p : Pair). p.0) ps ((m, e) ∷ []) ∙ ap (λ ms. ms ++ m ∷ []) messages
            ∙ ap (λ r. messages_in format (take i frames) ++ message_in format r) (sym one)
            ∙ sym (frame_more (λ (b : BatchFrame). message_in format (frame_at format.reads b.bytes))),
        ap marks_of now_is ∙ map_append (λ (p : Pair). is_expected p.1) ps ((m, e) ∷ [])
            ∙ ap (λ b. marks_of ps ++ b ∷ []) mark ∙ ap (λ ms. ms ++ is_awaited_by frame.mark m.header ∷ []) marks
            ∙ ap (λ r. marks_in format (take i frames) ++ mark_in format frame.mark r) (sym one)
            ∙ sym (frame_more (λ (b : BatchFrame). mark_in format b.mark (frame_at format.reads b.bytes))),
      )

  -- A frame that can't be read adds nothing.
  pub frame_skipped : (ps : List Pair) → None ≡ if_read (frame_at format.reads frame.bytes)
      → messages_of ps ≡ messages_in format (take i frames) → marks_of ps ≡ marks_in format (take i frames)
      → (messages_of ps ≡ messages_in format (take (i + 1) frames)) × (marks_of ps ≡ marks_in format (take (i + 1) frames))
  frame_skipped ps none messages marks = by (frame_at format.reads frame.bytes) refl none
    where
      by : (r : Result (NetlinkMessage Message) DecodeError) → frame_at format.reads frame.bytes ≡ r → None ≡ if_read r
          → (messages_of ps ≡ messages_in format (take (i + 1) frames)) × (marks_of ps ≡ marks_in format (take (i + 1) frames))
      by (Ok m) e h = cc
      by (Err d) e h = (
        messages ∙ sym (append-nil (messages_in format (take i frames)))
            ∙ ap (λ r. messages_in format (take i frames) ++ message_in format r) (sym e)
            ∙ sym (frame_more (λ (b : BatchFrame). message_in format (frame_at format.reads b.bytes))),
        marks ∙ sym (append-nil (marks_in format (take i frames)))
            ∙ ap (λ r. marks_in format (take i frames) ++ mark_in format frame.mark r) (sym e)
            ∙ sym (frame_more (λ (b : BatchFrame). mark_in format b.mark (frame_at format.reads b.bytes))),
      )
