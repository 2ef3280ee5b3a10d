-- What a codec takes out of bytes, by any cut of them.
use Rattle.std.proofs.Common.{◌≡◌, ℕ, cond, List, [], ◌∷◌, ◌++◌, drop, flat_map, Option, Some, None, Result, Ok, Err, refl, sym, subst, ◌∙◌, ap, append_assoc}
use Rattle.std.proofs.Math.Seq.{drop-append_seam}
use Rattle.std.specs.List.{AllByRecursion}
use Rattle.nl_core.specs.declared.error.DecodeError.{DecodeError}
use Rattle.nl_core.specs.declared.header.NetlinkHeader.{NetlinkHeader}
use Rattle.nl_core.specs.declared.message.NetlinkMessage.{NetlinkMessage}
use Rattle.nl_core.specs.Frames.{IsFrame, frame_at}
use Rattle.session_model.specs.Cut.{IsCut, BeginsNone, after_front}
use Rattle.session_model.proofs.Cuts.{begins_with, begins_not}
use Rattle.session_model.proofs.Fronts.{header_at-append, frame_at-append}
use Rattle.proto_core.specs.Codec.{told, rest_told, front, without_front, readable, left, or_later, left_of, first_told, IsUnreadable, FindsReadable, LacksFirst}
use Rattle.proto_core.specs.declared.codec.Decoded.TheVariants as decoded
use Rattle.proto_core.proofs.Walks.{readable-frame, left-frame, none_readable}

-- The bytes of frames and a rest.
abbrev whole_of : List (List ℕ) → List ℕ → List ℕ
whole_of frames rest = flat_map (λ frame. frame) frames ++ rest

first_apart : (frame : List ℕ) (frames : List (List ℕ)) (rest : List ℕ) → whole_of (frame ∷ frames) rest ≡ frame ++ whole_of frames rest
first_apart frame frames rest = append_assoc frame (flat_map (λ frame. frame) frames) rest

after_front-append : (frame more : List ℕ) → IsFrame frame → after_front (frame ++ more) ≡ more
after_front-append frame more is = ap (λ (k : ℕ). drop k (frame ++ more)) ((begins_with frame more is).0) ∙ drop-append_seam frame more

module _ {M : Type 0} (reads : ℕ → List ℕ → Result M DecodeError) where
  front-append : (frame more : List ℕ) → IsFrame frame → front reads (frame ++ more) ≡ told frame (frame_at reads frame)
  front-append frame more is =
      ap (λ b. cond b (told (frame ++ more) (frame_at reads (frame ++ more))) (rest_told (frame ++ more))) ((begins_with frame more is).1)
      ∙ ap (told (frame ++ more)) (frame_at-append reads frame more is)
      ∙ by_header (frame_at reads frame)
    where
      by_header : (r : Result (NetlinkMessage M) DecodeError) → told (frame ++ more) r ≡ told frame r
      by_header (Ok m) = refl
      by_header (Err e) = ap (λ (h : NetlinkHeader). decoded.Unreadable h.message_type h.sequence_number) (header_at-append frame more is.header)

  -- What stands at the front of bytes is the first frame of their cut, or its rest.
  pub front-cut : (bytes : List ℕ) (frames : List (List ℕ)) (rest : List ℕ) → IsCut bytes frames rest → front reads bytes ≡ first_told reads frames rest
  front-cut bytes [] rest cut = ap (front reads) cut.whole ∙ ap (λ b. cond b (told rest (frame_at reads rest)) (rest_told rest)) (begins_not rest cut.rest_begins)
  front-cut bytes (frame ∷ frames) rest cut =
      ap (front reads) (cut.whole ∙ first_apart frame frames rest) ∙ front-append frame (whole_of frames rest) cut.each.0

  later_also : (frame : List ℕ) (frames : List (List ℕ)) (rest : List ℕ) (m : Option (NetlinkMessage M)) (bytes : List ℕ)
      → IsUnreadable reads frame → FindsReadable reads frames rest m bytes → FindsReadable reads (frame ∷ frames) rest m bytes
  later_also frame frames rest None bytes unread found = ((unread, found.0), found.1)
  later_also frame frames rest (Some m) bytes unread found = record {
    skipped = frame ∷ found.skipped;
    frame = found.frame;
    later = found.later;
    in_order = ap (λ fs. frame ∷ fs) found.in_order;
    unreadable = (unread, found.unreadable);
    read = found.read;
    remaining = found.remaining;
  }

  by_first : (frame : List ℕ) (frames : List (List ℕ)) (rest : List ℕ) (r : Result (NetlinkMessage M) DecodeError) (m : Option (NetlinkMessage M)) (more bytes : List ℕ)
      → frame_at reads frame ≡ r → IsCut more frames rest → FindsReadable reads frames rest m bytes
      → FindsReadable reads (frame ∷ frames) rest (or_later r m) (left_of r more bytes)
  by_first frame frames rest (Ok found) m more bytes is cut later =
      record { skipped = []; frame = frame; later = frames; in_order = refl; unreadable = tt; read = is; remaining = cut }
  by_first frame frames rest (Err e) m more bytes is cut later = later_also frame frames rest m bytes (rw is refl) later

  finds : (frames : List (List ℕ)) (rest : List ℕ) → AllByRecursion IsFrame frames → BeginsNone rest
      → FindsReadable reads frames rest (readable reads (whole_of frames rest)) (left reads (whole_of frames rest))
  finds [] rest each none =
      let n = none_readable reads rest (begins_not rest none) in
      rw (n.0, n.1) (tt, refl)
  finds (frame ∷ frames) rest each none =
      let more = whole_of frames rest in
      let b = (begins_with frame more each.0).1 in
      let gone = after_front-append frame more each.0 in
      let alone = frame_at-append reads frame more each.0 in
      let r : readable reads (whole_of (frame ∷ frames) rest) ≡ or_later (frame_at reads frame) (readable reads more) =
      ap (readable reads) (first_apart frame frames rest) ∙ readable-frame reads (frame ++ more) b
      ∙ ap (λ (x : List ℕ). or_later (frame_at reads (frame ++ more)) (readable reads x)) gone ∙ ap (λ x. or_later x (readable reads more)) alone in
      let l : left reads (whole_of (frame ∷ frames) rest) ≡ left_of (frame_at reads frame) more (left reads more) =
      ap (left reads) (first_apart frame frames rest) ∙ left-frame reads (frame ++ more) b
      ∙ ap (λ (x : List ℕ). left_of (frame_at reads (frame ++ more)) x (left reads x)) gone ∙ ap (λ x. left_of x more (left reads more)) alone in
      let cut : IsCut more frames rest = record { whole = refl; each = each.1; rest_begins = none } in
      subst (λ (m : Option (NetlinkMessage M)). FindsReadable reads (frame ∷ frames) rest m (left reads (whole_of (frame ∷ frames) rest))) (sym r)
      (subst (λ (x : List ℕ). FindsReadable reads (frame ∷ frames) rest (or_later (frame_at reads frame) (readable reads more)) x) (sym l)
      (by_first frame frames rest (frame_at reads frame) (readable reads more) more (left reads more) refl cut (finds frames rest each.1 none)))

  -- The first message of bytes is that of the first frame of their cut that can be read.
  pub readable-cut : (bytes : List ℕ) (frames : List (List ℕ)) (rest : List ℕ) → IsCut bytes frames rest → FindsReadable reads frames rest (readable reads bytes) (left reads bytes)
  readable-cut bytes frames rest cut =
      subst (λ (b : List ℕ). FindsReadable reads frames rest (readable reads b) (left reads b)) (sym cut.whole) (finds frames rest cut.each cut.rest_begins)

-- Without what stands at their front, bytes have the later frames of their cut.
pub without_front-cut : (bytes : List ℕ) (frames : List (List ℕ)) (rest : List ℕ) → IsCut bytes frames rest → LacksFirst frames rest (without_front bytes)
without_front-cut bytes [] rest cut = ap without_front cut.whole ∙ ap (λ b. cond b (after_front rest) []) (begins_not rest cut.rest_begins)
without_front-cut bytes (frame ∷ frames) rest cut =
    let more = whole_of frames rest in
    let e : without_front bytes ≡ more =
    ap without_front (cut.whole ∙ first_apart frame frames rest) ∙ ap (λ b. cond b (after_front (frame ++ more)) []) ((begins_with frame more cut.each.0).1)
    ∙ after_front-append frame more cut.each.0 in
    subst (λ (b : List ℕ). IsCut b frames rest) (sym e) (record { whole = refl; each = cut.each.1; rest_begins = cut.rest_begins })
