-- The text of what a connection hands out.
use Rattle.std.proofs.Common.{◌≡◌, ◌<◌, ◌&&◌, ℕ, Bool, true, false, not, cond, List, [], ◌∷◌, ◌++◌, length, map, codes, flat_map, refl, sym, ◌∙◌, ap, arith}
use Rattle.std.specs.Fmt.{decimal}
use Rattle.std.specs.List.{filter}
use Rattle.std.proofs.lemmas.List.{append-nil, length-append}
use Rattle.nl_core.specs.Frames.{header_text, message_text, payload_text}
use Rattle.nl_core.specs.declared.message.NetlinkMessage.{NetlinkMessage}
use Rattle.nl_core.specs.declared.message.NetlinkPayload.{NetlinkPayload}
use Rattle.nl_core.specs.declared.message.NetlinkPayload.TheVariants.{Done, Error, Noop, Overrun, InnerMessage}
use Rattle.nl_core.proofs.Wire.{length-header_text}
use Rattle.session_model.specs.declared.address.SocketAddr.{SocketAddr}
use Rattle.session_model.specs.declared.settings.Settings.{Settings}
use Rattle.session_model.specs.Lines.{line}
use Rattle.session_model.specs.SessionText.{joined, message_words, sent_text}
use Rattle.session_model.specs.SessionText.{is_kept_back as is_kept}
use Rattle.proto_core.specs.declared.messages.Response.{Response}
use Rattle.proto_conn.specs.Conn.{gave_up, handed_on, is_handed_on, is_kept_back, reply_of}
use Rattle.proto_conn.specs.Sending.{datagram_of, texts}
use Rattle.session_laws.specs.After.{response_line, response_lines}
use Rattle.mirror.specs.Format.{Message, format}
use Rattle.mirror.specs.Polled.{handed_line, posted_line}
use Rattle.mirror.specs.Runner.{forward_of}

-- ---- replies

-- A connection keeps back what the settings keep back.
kept_same : (s : Settings) (p : NetlinkPayload Message)
    → is_kept_back (forward_of s) p ≡ is_kept s.forward_noop s.forward_done s.forward_ack p
kept_same s Noop = refl
kept_same s (Done d) = refl
kept_same s (Error e) = refl
kept_same s (Overrun bytes) = refl
kept_same s (InnerMessage m) = refl

kept_empty : (s : Settings) (r : Response Message ℕ) → is_kept_back (forward_of s) r.message.payload ≡ true → response_line format s r ≡ []
kept_empty s r e =
    ap (λ k. cond k [] (line (codes "reply" ∷ decimal r.arrival ∷ decimal r.metadata ∷ message_words format r.message)))
    (sym (kept_same s r.message.payload) ∙ e)

-- The lines of the replies that are handed on are those of all replies, of which some are kept back.
pub replies_text : (s : Settings) (marks : List Bool) (rs : List (Response Message ℕ)) → ((stream : ℕ) → gave_up marks stream ≡ false)
    → flat_map (handed_line s) (handed_on (forward_of s) marks rs) ≡ response_lines format s rs
replies_text s marks [] none = refl
replies_text s marks (r ∷ rs) none = by (is_kept_back (forward_of s) r.message.payload) refl (replies_text s marks rs none)
  where
    test : (b : Bool) → is_kept_back (forward_of s) r.message.payload ≡ b → is_handed_on (forward_of s) marks r ≡ not b
    test b e = ap (λ k. not k && not (gave_up marks r.metadata)) e ∙ ap (λ k. not b && not k) (none r.metadata) ∙ and_true (not b)
      where
        and_true : (k : Bool) → (k && true) ≡ k
        and_true true = refl
        and_true false = refl

    lines : (b : Bool) → is_handed_on (forward_of s) marks r ≡ b
        → flat_map (handed_line s) (handed_on (forward_of s) marks (r ∷ rs))
        ≡ flat_map (handed_line s) (map reply_of (cond b (r ∷ filter (is_handed_on (forward_of s) marks) rs) (filter (is_handed_on (forward_of s) marks) rs)))
    lines b e = ap (λ k. flat_map (handed_line s) (map reply_of (cond k (r ∷ filter (is_handed_on (forward_of s) marks) rs) (filter (is_handed_on (forward_of s) marks) rs)))) e

    by : (b : Bool) → is_kept_back (forward_of s) r.message.payload ≡ b
        → flat_map (handed_line s) (handed_on (forward_of s) marks rs) ≡ response_lines format s rs
        → flat_map (handed_line s) (handed_on (forward_of s) marks (r ∷ rs)) ≡ response_line format s r ++ response_lines format s rs
    by true e ih =
        lines false (test true e) ∙ ih ∙ ap (λ t. t ++ response_lines format s rs) (sym (kept_empty s r e))
    by false e ih = lines true (test false e) ∙ ap (λ t. response_line format s r ++ t) ih

-- ---- the datagram of a batch

one_line : (to : SocketAddr) (frame : List ℕ) (more : List (List ℕ)) → 0 < length frame
    → flat_map posted_line (datagram_of (joined (frame ∷ more)) to) ≡ sent_text to (frame ∷ more)
one_line to [] more h = absurd (omega (arith, h))
one_line to (b ∷ bytes) more h = append-nil (sent_text to ((b ∷ bytes) ∷ more))

some_bytes : (m : NetlinkMessage Message) → 0 < length (message_text format.text m)
some_bytes m =
    let header = length-header_text m.header in
    let both = length-append (header_text m.header) (payload_text format.text m.payload) in
    omega (arith, header, both)

joined_texts : (ms : List (NetlinkMessage Message)) → texts format.text ms ≡ joined (map (message_text format.text) ms)
joined_texts [] = refl
joined_texts (m ∷ ms) = ap (λ t. message_text format.text m ++ t) (joined_texts ms)

-- The line of the datagram of messages.
pub datagram_text : (to : SocketAddr) (ms : List (NetlinkMessage Message))
    → flat_map posted_line (datagram_of (texts format.text ms) to) ≡ sent_text to (map (message_text format.text) ms)
datagram_text to [] = refl
datagram_text to (m ∷ ms) =
    ap (λ bytes. flat_map posted_line (datagram_of bytes to)) (joined_texts (m ∷ ms))
    ∙ one_line to (message_text format.text m) (map (message_text format.text) ms) (some_bytes m)
