-- What waits is handled by itself.
use Rattle.std.proofs.Common.{◌≡◌, ℕ, true, false, List, [], ◌∷◌, flat_map, map, Result, sym, ◌∙◌, ap}
use Rattle.nl_core.specs.declared.error.DecodeError.{DecodeError}
use Rattle.nl_core.specs.declared.message.NetlinkMessage.{NetlinkMessage}
use Rattle.session_model.specs.declared.address.SocketAddr.{SocketAddr}
use Rattle.session_model.specs.Events.{Arrival, arrivals, overrun_arrival}
use Rattle.proto_core.specs.Session.{Session, arrival_of}
use Rattle.proto_core.specs.declared.messages.Incoming.{Incoming}
use Rattle.proto_conn.specs.declared.parts.Held.{Held}
use Rattle.proto_conn.specs.declared.parts.Held.TheVariants as held
use Rattle.proto_conn.specs.declared.parts.Reply.{Reply}
use Rattle.proto_conn.specs.Conn.{Conn, forwarded, is_overrun, waiting_in, with_replies, with_unsolicited}
use Rattle.proto_conn.specs.Reading.{takes}
use Rattle.proto_conn.specs.Seen.{Framing, brings, events_in}
use Rattle.proto_conn.specs.Sending.{datagram_of}
use Rattle.proto_conn.specs.Settling.{settled, waiting_arrivals}
use Rattle.proto_conn.proofs.Seeing.{append-nil}

module _ {M S : Type 0} (reads : ℕ → List ℕ → Result M DecodeError) (v c : Conn M S) (view : v ≡ c) where
  overrun_arrives : (h : Held) (source : SocketAddr) (bytes : List ℕ) → v.waiting ≡ waiting_in h source bytes → is_overrun h ≡ true
      → waiting_arrivals reads v ≡ overrun_arrival ∷ []
  overrun_arrives held.Overrun source bytes is e = ap (λ ws. arrivals (flat_map (brings reads) ws)) is
  overrun_arrives held.Nothing source bytes is e = cc
  overrun_arrives held.Datagram source bytes is e = cc

  -- An overrun waits.
  pub arrives_overrun : (h : Held) (source : SocketAddr) (bytes : List ℕ) → v.waiting ≡ waiting_in h source bytes → is_overrun h ≡ true
      → (m : NetlinkMessage M) → m ≡ (overrun_arrival {M = M}).message → (ms : List (NetlinkMessage M)) → ms ≡ m ∷ []
      → waiting_arrivals reads c ≡ map (λ (x : NetlinkMessage M). arrival_of x (record { port = 0; groups = 0 })) ms
  arrives_overrun h source bytes is e m same ms one =
      ap (waiting_arrivals reads) (sym view) ∙ overrun_arrives h source bytes is e
      ∙ sym (ap (map (λ (x : NetlinkMessage M). arrival_of x (record { port = 0; groups = 0 }))) one
      ∙ ap (λ (x : NetlinkMessage M). arrival_of x (record { port = 0; groups = 0 }) ∷ []) same)

  bytes_arrive : (h : Held) (source : SocketAddr) (bytes : List ℕ) → v.waiting ≡ waiting_in h source bytes → is_overrun h ≡ false
      → waiting_arrivals reads v ≡ arrivals (events_in reads source bytes)
  unfolding events_in
  bytes_arrive held.Overrun source bytes is e = cc
  bytes_arrive held.Nothing source [] is e = ap (λ ws. arrivals (flat_map (brings reads) ws)) is
  bytes_arrive held.Nothing source (b ∷ bytes) is e = ap (λ ws. arrivals (flat_map (brings reads) ws)) is
      ∙ ap arrivals (append-nil (events_in reads source (b ∷ bytes)))
  bytes_arrive held.Datagram source bytes is e = ap (λ ws. arrivals (flat_map (brings reads) ws)) is ∙ ap arrivals (append-nil (events_in reads source bytes))

  -- A datagram waits, or nothing.
  pub arrives_bytes : (h : Held) (source from : SocketAddr) (bytes given : List ℕ) → v.waiting ≡ waiting_in h source bytes → is_overrun h ≡ false
      → from ≡ source → given ≡ bytes → (ms : List (NetlinkMessage M))
      → ((s : SocketAddr) → arrivals (events_in reads s given) ≡ map (λ (x : NetlinkMessage M). arrival_of x s) ms)
      → waiting_arrivals reads c ≡ map (λ (x : NetlinkMessage M). arrival_of x from) ms
  arrives_bytes h source from bytes given is e at same ms told =
      ap (waiting_arrivals reads) (sym view) ∙ bytes_arrive h source bytes is e
      ∙ ap (λ (b : List ℕ). arrivals (events_in reads source b)) (sym same) ∙ told source
      ∙ ap (λ s. map (λ (x : NetlinkMessage M). arrival_of x s) ms) (sym at)

  -- Where only room was made.
  pub roomy_same : (s2 : Session M ℕ) (rs : List (Reply M)) (us : List (Incoming M)) → s2 ≡ v.session → rs ≡ v.replies → us ≡ v.unsolicited
      → record v { session = s2; replies = rs; unsolicited = us } ≡ c
  roomy_same s2 rs us same er eu =
      ap (λ s. record v { session = s; replies = rs; unsolicited = us }) same ∙ ap (λ x. record v { replies = x; unsolicited = us }) er
      ∙ ap (λ x. record v { unsolicited = x }) eu ∙ view

  -- Once it is taken in and handed on.
  pub settled_at : (f f2 : Framing S) → v.link ≡ f.link → v.unsent ≡ datagram_of f.writer f.destination → f2 ≡ record f { reader = [] }
      → (s2 s3 : Session M ℕ) (arrived : List (Arrival M)) (rs : List (Reply M)) (us : List (Incoming M)) → s2 ≡ v.session
      → s3 ≡ takes arrived s2 → waiting_arrivals reads c ≡ arrived
      → rs ≡ v.replies → us ≡ v.unsolicited → (now1 now2 : Conn M S)
      → now1 ≡ with_unsolicited
      (record v { link = f2.link; waiting = waiting_in held.Nothing f2.source f2.reader; unsent = datagram_of f2.writer f2.destination; session = s3; replies = rs; unsolicited = us })
      → now2 ≡ with_replies now1 → now2 ≡ settled reads c
  settled_at f f2 link unsent less s2 s3 arrived rs us same taken told er eu now1 now2 one two =
      two ∙ ap with_replies one
      ∙ ap (λ (x : Framing S). forwarded
      (record v { link = x.link; waiting = waiting_in held.Nothing x.source x.reader; unsent = datagram_of x.writer x.destination; session = s3; replies = rs; unsolicited = us })) less
      ∙ ap (λ u. forwarded (record v { link = f.link; waiting = []; unsent = u; session = s3; replies = rs; unsolicited = us })) (sym unsent)
      ∙ ap (λ l. forwarded (record v { link = l; waiting = []; session = s3; replies = rs; unsolicited = us })) (sym link)
      ∙ ap (λ x. forwarded (record v { waiting = []; session = s3; replies = x; unsolicited = us })) er
      ∙ ap (λ x. forwarded (record v { waiting = []; session = s3; unsolicited = x })) eu
      ∙ ap (λ x. forwarded (record v { waiting = []; session = x })) (taken ∙ ap (takes arrived) same ∙ ap (λ came. takes came v.session) (sym told))
      ∙ ap (λ (x : Conn M S). forwarded (record x { waiting = []; session = takes (waiting_arrivals reads c) x.session })) view
