-- Where a reader has a message that can be read, the link isn't asked.
use Rattle.std.proofs.Common.{◌≡◌, ℕ, Bool, true, false, cond, List, [], ◌∷◌, Option, Some, None, IfSome, Result, Ok, Err, refl, sym, subst, ◌∙◌, ap}
use Rattle.nl_core.specs.Frames.{frame_at}
use Rattle.nl_core.specs.declared.error.DecodeError.{DecodeError}
use Rattle.nl_core.specs.declared.message.NetlinkMessage.{NetlinkMessage}
use Rattle.session_model.specs.declared.address.SocketAddr.{SocketAddr}
use Rattle.session_model.specs.Cut.{begins, after_front}
use Rattle.proto_core.specs.declared.codec.Decoded.TheVariants as decoded
use Rattle.proto_core.specs.Codec.{front, or_later, readable, rest_told, told, without_front}
use Rattle.proto_core.proofs.Walks.{none_readable, readable-frame}
use Rattle.proto_conn.specs.declared.framed.Dropped.{Dropped}
use Rattle.proto_conn.specs.declared.framed.Dropped.TheVariants as dropped
use Rattle.proto_conn.specs.declared.framed.Step.{Step}
use Rattle.proto_conn.specs.declared.framed.Step.TheVariants as step
use Rattle.proto_conn.specs.Next.{ReadsOn, StaysInside}
use Rattle.proto_conn.specs.Seen.{Framing}
use Rattle.proto_conn.proofs.Steps.{nothing_in_front}

if_itself : {X : Type 0} (o : Option X) → IfSome o (λ x. o ≡ Some x)
if_itself None = tt
if_itself (Some x) = refl

module _ {M : Type 0} (reads : ℕ → List ℕ → Result M DecodeError) where
  frame_unread : (bytes : List ℕ) (r : Result (NetlinkMessage M) DecodeError) (kind number : ℕ) (later : Option (NetlinkMessage M))
      → told bytes r ≡ decoded.Unreadable kind number → or_later r later ≡ later
  frame_unread bytes (Ok m) kind number later e = cc
  frame_unread bytes (Err x) kind number later e = refl

  no_frame_unread : (bytes : List ℕ) (kind number : ℕ) → rest_told {M = M} bytes ≡ decoded.Unreadable kind number → true ≡ false
  no_frame_unread [] kind number e = cc
  no_frame_unread (b ∷ bytes) kind number e = cc

  frame_rest : (bytes : List ℕ) (r : Result (NetlinkMessage M) DecodeError) (n : ℕ) → told bytes r ≡ decoded.Rest n → true ≡ false
  frame_rest bytes (Ok m) n e = cc
  frame_rest bytes (Err x) n e = cc

  unread_by : (bytes : List ℕ) (kind number : ℕ) (b : Bool) → begins bytes ≡ b
      → cond b (told bytes (frame_at reads bytes)) (rest_told bytes) ≡ decoded.Unreadable kind number
      → readable reads bytes ≡ readable reads (cond b (after_front bytes) [])
  unread_by bytes kind number true is e =
      readable-frame reads bytes is ∙ frame_unread bytes (frame_at reads bytes) kind number (readable reads (after_front bytes)) e
  unread_by bytes kind number false is e = let never = no_frame_unread bytes kind number e in cc

  rest_by : (bytes : List ℕ) (n : ℕ) (b : Bool) → begins bytes ≡ b → cond b (told bytes (frame_at reads bytes)) (rest_told bytes) ≡ decoded.Rest n
      → readable reads bytes ≡ None
  rest_by bytes n true is e = let never = frame_rest bytes (frame_at reads bytes) n e in cc
  rest_by bytes n false is e = (none_readable reads bytes is).0

  -- Bytes without the frame in front, which can't be read, have the same first message.
  readable_later : (bytes : List ℕ) (kind number : ℕ) → front reads bytes ≡ decoded.Unreadable kind number
      → readable reads bytes ≡ readable reads (without_front bytes)
  readable_later bytes kind number e = unread_by bytes kind number (begins bytes) refl e

  module _ {S : Type 0} where
    -- A reader with no message says nothing of the link.
    pub inside_none : (f now : Framing S) (taken : Step M) → readable reads f.reader ≡ None → StaysInside reads f taken now
    inside_none f now taken none = record { inside = rw none tt }

    -- A message is read from the reader.
    pub inside_message : (f : Framing S) (m : NetlinkMessage M) (source : SocketAddr) (r : List ℕ)
        → StaysInside reads f (step.Message m source) (record f { reader = r })
    inside_message f m source r = record { inside = by (readable reads f.reader) }
      where
        by : (o : Option (NetlinkMessage M)) → IfSome o (λ first. (f.link ≡ f.link) × Unit {0})
        by None = tt
        by (Some first) = (refl, tt)

    -- A frame that can't be read leaves the first message.
    pub inside_unreadable : (f : Framing S) (kind number : ℕ) (source : SocketAddr) (r : List ℕ) → front reads f.reader ≡ decoded.Unreadable kind number
        → r ≡ without_front f.reader → StaysInside reads f (step.Lost (dropped.Unreadable kind number) source) (record f { reader = r })
    inside_unreadable f kind number source r is e = record {
      inside = by (readable reads f.reader) (ap (readable reads) e
          ∙ sym (readable_later f.reader kind number is));
    }
      where
        by : (o : Option (NetlinkMessage M)) → readable reads r ≡ o → IfSome o (λ first. (f.link ≡ f.link) × (readable reads r ≡ Some first))
        by None e = tt
        by (Some first) e = (refl, e)

    -- A rest has no message.
    pub inside_rest : (f now : Framing S) (taken : Step M) (n : ℕ) → front reads f.reader ≡ decoded.Rest n → StaysInside reads f taken now
    inside_rest f now taken n is = inside_none f now taken (rest_by f.reader n (begins f.reader) refl is)

    -- Nor has an empty reader.
    pub inside_empty : (f now : Framing S) (taken : Step M) → front reads f.reader ≡ decoded.Empty → StaysInside reads f taken now
    inside_empty f now taken is =
        inside_none f now taken (ap (readable reads) (nothing_in_front reads f.reader is) ∙ (none_readable reads [] refl).0)

    -- ---- one step after another

    -- A reading stayed inside the reader as long as its first message wasn't read.
    abbrev pub IsInside : Framing S → Framing S → Type 0
    IsInside f now = IfSome (readable reads f.reader) (λ first. (now.link ≡ f.link) × (readable reads now.reader ≡ Some first))

    -- Nothing was read yet.
    pub inside_at_first : (f : Framing S) → IsInside f f
    inside_at_first f = by (readable reads f.reader) refl
      where
        by : (o : Option (NetlinkMessage M)) → readable reads f.reader ≡ o → IfSome o (λ first. (f.link ≡ f.link) × (readable reads f.reader ≡ Some first))
        by None e = tt
        by (Some first) e = (refl, e)

    step_inside : (f mid now : Framing S) (taken : Step M) → IsInside f mid → StaysInside reads mid taken now
        → IfSome (readable reads f.reader) (λ first. (now.link ≡ f.link) × ReadsOn reads taken first now.reader)
    step_inside f mid now taken h s = by (readable reads f.reader) h
      where
        by : (o : Option (NetlinkMessage M)) → IfSome o (λ first. (mid.link ≡ f.link) × (readable reads mid.reader ≡ Some first))
            → IfSome o (λ first. (now.link ≡ f.link) × ReadsOn reads taken first now.reader)
        by None k = tt
        by (Some first) k =
            let t = subst (λ (o : Option (NetlinkMessage M)). IfSome o (λ x. (now.link ≡ mid.link) × ReadsOn reads taken x now.reader)) k.1 s.inside in
            (t.0 ∙ k.0, t.1)

    -- After a loss the reading is still inside.
    pub inside_lost : (f mid now : Framing S) (d : Dropped) (source : SocketAddr) → IsInside f mid
        → StaysInside reads mid (step.Lost d source) now → IsInside f now
    inside_lost f mid now d source h s = step_inside f mid now (step.Lost d source) h s

    -- A datagram is fetched only where the reader had no message.
    pub inside_fetched : (f mid now : Framing S) → IsInside f mid → StaysInside reads mid step.Fetched now → IsInside f now
    inside_fetched f mid now h s = by (readable reads f.reader) (step_inside f mid now step.Fetched h s)
      where
        by : (o : Option (NetlinkMessage M)) → IfSome o (λ first. (now.link ≡ f.link) × ⊥)
            → IfSome o (λ first. (now.link ≡ f.link) × (readable reads now.reader ≡ Some first))
        by None k = tt
        by (Some first) k = absurd k.1

    -- Whatever the last step is, the link wasn't asked where the reader had a message.
    pub inside_last : (f mid now : Framing S) (taken : Step M) → IsInside f mid → StaysInside reads mid taken now
        → IfSome (readable reads f.reader) (λ _. now.link ≡ f.link)
    inside_last f mid now taken h s = by (readable reads f.reader) (step_inside f mid now taken h s)
      where
        by : (o : Option (NetlinkMessage M)) → IfSome o (λ first. (now.link ≡ f.link) × ReadsOn reads taken first now.reader)
            → IfSome o (λ _. now.link ≡ f.link)
        by None k = tt
        by (Some first) k = k.0

    -- Nor where memory ran out.
    pub inside_stopped : (f mid now : Framing S) → now ≡ mid → IsInside f mid → IfSome (readable reads f.reader) (λ _. now.link ≡ f.link)
    inside_stopped f mid now is h = by (readable reads f.reader) h
      where
        by : (o : Option (NetlinkMessage M)) → IfSome o (λ first. (mid.link ≡ f.link) × (readable reads mid.reader ≡ Some first))
            → IfSome o (λ _. now.link ≡ f.link)
        by None k = tt
        by (Some first) k = ap (λ (g : Framing S). g.link) is ∙ k.0
