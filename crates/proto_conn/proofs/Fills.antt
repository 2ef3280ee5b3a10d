-- One arrival by itself.
use Rattle.std.proofs.Common.{◌≡◌, inl, inr, ℕ, Bool, true, false, not, List, [], ◌∷◌, refl, sym, subst, ◌∙◌, ap}
use Rattle.session_model.specs.declared.address.SocketAddr.{SocketAddr}
use Rattle.proto_conn.specs.declared.link.Arrival.{Arrival as LinkArrival}
use Rattle.proto_conn.specs.declared.link.Arrival.TheVariants as arrival
use Rattle.proto_conn.specs.declared.link.Received.{Received}
use Rattle.proto_conn.specs.declared.link.Received.TheVariants as received
use Rattle.proto_conn.specs.declared.parts.Held.{Held}
use Rattle.proto_conn.specs.declared.parts.Held.TheVariants as held
use Rattle.proto_conn.specs.declared.parts.Waiting.{Waiting}
use Rattle.proto_conn.specs.declared.parts.Waiting.TheVariants as waiting
use Rattle.proto_conn.specs.Links.{Meaning, DidReceive}
use Rattle.proto_conn.specs.Seen.{Framing}
use Rattle.proto_conn.specs.Sending.{datagram_of}
use Rattle.proto_conn.specs.Flushing.{is_nothing}
use Rattle.proto_conn.specs.Conn.{Conn, HasDatagram, is_datagram, is_overrun, waiting_in}
use Rattle.proto_conn.specs.Polls.{Fills, FillsBy, FillsFrom, Gets, Waits, waits_as}

-- Where something waits it is told, and nothing changes.
module _ {T S : Type 0} (meaning : S → Meaning) (v c : Conn T S) (view : v ≡ c) where
  full : (a : LinkArrival) → v.waiting ≡ a ∷ [] → Fills meaning c (waits_as a) c
  full a is = subst (λ (x : Conn T S). Fills meaning x (waits_as a) x) view (subst (λ ws. FillsFrom meaning ws v.closed v (waits_as a) v) (sym is) (refl, refl))

  pub fills_overrun : (h : Held) (source : SocketAddr) (bytes : List ℕ) → v.waiting ≡ waiting_in h source bytes → is_overrun h ≡ true
      → Fills meaning c waiting.Overrun c
  fills_overrun held.Overrun source bytes is e = full arrival.Overrun is
  fills_overrun held.Nothing source bytes is e = cc
  fills_overrun held.Datagram source bytes is e = cc

  pub fills_datagram : (h : Held) (source : SocketAddr) (bytes : List ℕ) → v.waiting ≡ waiting_in h source bytes → is_datagram h ≡ true
      → Fills meaning c waiting.Datagram c
  fills_datagram held.Datagram source bytes is e = full (arrival.Datagram source bytes) is
  fills_datagram held.Nothing source bytes is e = cc
  fills_datagram held.Overrun source bytes is e = cc

  pub fills_rest : (h : Held) (source : SocketAddr) (bytes : List ℕ) → v.waiting ≡ waiting_in h source bytes → is_overrun h ≡ false
      → is_datagram h ≡ false → not (is_nothing bytes) ≡ true → Fills meaning c waiting.Datagram c
  fills_rest held.Nothing source [] is e f g = cc
  fills_rest held.Nothing source (b ∷ bytes) is e f g = full (arrival.Datagram source (b ∷ bytes)) is
  fills_rest held.Datagram source bytes is e f g = cc
  fills_rest held.Overrun source bytes is e f g = cc

  -- Nothing waits.
  pub none_waits : (h : Held) (source : SocketAddr) (bytes : List ℕ) → v.waiting ≡ waiting_in h source bytes → is_overrun h ≡ false
      → is_datagram h ≡ false → not (is_nothing bytes) ≡ false → v.waiting ≡ []
  none_waits held.Nothing source [] is e f g = is
  none_waits held.Nothing source (b ∷ bytes) is e f g = cc
  none_waits held.Datagram source bytes is e f g = cc
  none_waits held.Overrun source bytes is e f g = cc

  pub fills_closed : (h : Held) (source : SocketAddr) (bytes : List ℕ) → v.waiting ≡ waiting_in h source bytes → is_overrun h ≡ false
      → is_datagram h ≡ false → not (is_nothing bytes) ≡ false → v.closed ≡ true
      → Fills meaning c waiting.Nothing c
  fills_closed h source bytes is e f g k =
      subst (λ (x : Conn T S). Fills meaning x waiting.Nothing x) view
      (subst (λ ws. FillsFrom meaning ws v.closed v waiting.Nothing v) (sym (none_waits h source bytes is e f g)) (subst
      (λ b. FillsFrom meaning [] b v waiting.Nothing v) (sym k) (refl, refl)))

  -- The link was read.
  pub fills_by : (h : Held) (source : SocketAddr) (bytes : List ℕ) → v.waiting ≡ waiting_in h source bytes → is_overrun h ≡ false
      → is_datagram h ≡ false → not (is_nothing bytes) ≡ false → v.closed ≡ false
      → (answer : Waiting) (now : Conn T S) → FillsBy meaning v answer now → Fills meaning c answer now
  fills_by h source bytes is e f g k answer now d =
      subst (λ (x : Conn T S). Fills meaning x answer now) view
      (subst (λ ws. FillsFrom meaning ws v.closed v answer now) (sym (none_waits h source bytes is e f g)) (subst
      (λ b. FillsFrom meaning [] b v answer now) (sym k) d))

-- What a read of the link makes of a connection with these parts.
module _ {T S : Type 0} (meaning : S
    → Meaning) (v : Conn T S) (f f2 : Framing S) (link : v.link ≡ f.link) (unsent : v.unsent ≡ datagram_of f.writer f.destination)
    (none : v.waiting ≡ []) where
  unsent_still : (answer : Received) → Gets meaning f answer f2 → datagram_of f2.writer f2.destination ≡ v.unsent
  unsent_still answer g = ap (λ (x : Framing S). datagram_of x.writer x.destination) g.stays ∙ sym unsent

  did_from : (answer : Received) → Gets meaning f answer f2 → DidReceive (meaning v.link) answer f2.reader (meaning f2.link)
  did_from answer g = subst (λ l. DidReceive (meaning l) answer f2.reader (meaning f2.link)) (sym link) g.did

  pub got_datagram : (source : SocketAddr) → Gets meaning f (received.Datagram source) f2
      → FillsBy meaning v waiting.Datagram
      (record v { link = f2.link; waiting = waiting_in held.Datagram f2.source f2.reader; unsent = datagram_of f2.writer f2.destination })
  got_datagram source g = (
    source,
    f2.reader,
    ap (λ u. record v { link = f2.link; waiting = waiting_in held.Datagram f2.source f2.reader; unsent = u }) (unsent_still (received.Datagram source) g)
        ∙ ap (λ s. record v { link = f2.link; waiting = arrival.Datagram s f2.reader ∷ [] }) (ap (λ (x : Framing S). x.source) g.stays),
    did_from (received.Datagram source) g,
  )

  pub got_overrun : Gets meaning f received.Overrun f2
      → FillsBy meaning v waiting.Overrun
      (record v { link = f2.link; waiting = waiting_in held.Overrun f2.source f2.reader; unsent = datagram_of f2.writer f2.destination })
  got_overrun g = (
    ap (λ u. record v { link = f2.link; waiting = arrival.Overrun ∷ []; unsent = u }) (unsent_still received.Overrun g),
    subst (λ bytes. DidReceive (meaning v.link) received.Overrun bytes (meaning f2.link)) g.did.cause.0 (did_from received.Overrun g),
  )

  empty_still : f2.reader ≡ [] → waiting_in held.Nothing f2.source f2.reader ≡ v.waiting
  empty_still e = ap (waiting_in held.Nothing f2.source) e ∙ sym none

  pub got_nothing : Gets meaning f received.NotReady f2
      → FillsBy meaning v waiting.Nothing
      (record v { link = f2.link; waiting = waiting_in held.Nothing f2.source f2.reader; unsent = datagram_of f2.writer f2.destination })
  got_nothing g = (
    ap (λ u. record v { link = f2.link; waiting = waiting_in held.Nothing f2.source f2.reader; unsent = u }) (unsent_still received.NotReady g)
        ∙ ap (λ w. record v { link = f2.link; waiting = w }) (empty_still g.did.cause.0),
    subst (λ bytes. DidReceive (meaning v.link) received.NotReady bytes (meaning f2.link)) g.did.cause.0 (did_from received.NotReady g),
  )

  pub got_closed : Gets meaning f received.Closed f2
      → FillsBy meaning v waiting.Closed
      (record v { link = f2.link; waiting = waiting_in held.Nothing f2.source f2.reader; unsent = datagram_of f2.writer f2.destination; closed = true })
  got_closed g = (
    ap (λ u. record v { link = f2.link; waiting = waiting_in held.Nothing f2.source f2.reader; unsent = u; closed = true }) (unsent_still received.Closed g)
        ∙ ap (λ w. record v { link = f2.link; waiting = w; closed = true }) (empty_still g.did.cause),
    inl (subst (λ bytes. DidReceive (meaning v.link) received.Closed bytes (meaning f2.link)) g.did.cause (did_from received.Closed g)),
  )

  pub got_failed : Gets meaning f received.Failed f2
      → FillsBy meaning v waiting.Closed
      (record v { link = f2.link; waiting = waiting_in held.Nothing f2.source f2.reader; unsent = datagram_of f2.writer f2.destination; closed = true })
  got_failed g = (
    ap (λ u. record v { link = f2.link; waiting = waiting_in held.Nothing f2.source f2.reader; unsent = u; closed = true }) (unsent_still received.Failed g)
        ∙ ap (λ w. record v { link = f2.link; waiting = w; closed = true }) (empty_still g.did.cause.0),
    inr (subst (λ bytes. DidReceive (meaning v.link) received.Failed bytes (meaning f2.link)) g.did.cause.0 (did_from received.Failed g)),
  )

pub no_bytes : (bytes : List ℕ) → not (is_nothing bytes) ≡ false → bytes ≡ []
no_bytes [] e = refl
no_bytes (b ∷ bytes) e = cc

pub fills_closed_link : {T S : Type 0} (meaning : S → Meaning) (v c : Conn T S) → v ≡ c → (h : Held) (f f2 : Framing S) → v.link ≡ f.link
    → v.unsent ≡ datagram_of f.writer f.destination → v.waiting ≡ waiting_in h f.source f.reader
    → is_overrun h ≡ false → is_datagram h ≡ false → not (is_nothing f.reader) ≡ false → v.closed ≡ false → Gets meaning f received.Closed f2
    → Fills meaning c waiting.Closed
    (record v { link = f2.link; waiting = waiting_in held.Nothing f2.source f2.reader; unsent = datagram_of f2.writer f2.destination; closed = true })
fills_closed_link meaning v c view h f f2 link unsent is e k l open_ g =
    fills_by meaning v c view h f.source f.reader is e k l open_ waiting.Closed _ (got_closed meaning v f f2 link unsent
    (none_waits meaning v c view h f.source f.reader is e k l) g)

pub fills_failed_link : {T S : Type 0} (meaning : S → Meaning) (v c : Conn T S) → v ≡ c → (h : Held) (f f2 : Framing S) → v.link ≡ f.link
    → v.unsent ≡ datagram_of f.writer f.destination → v.waiting ≡ waiting_in h f.source f.reader
    → is_overrun h ≡ false → is_datagram h ≡ false → not (is_nothing f.reader) ≡ false → v.closed ≡ false → Gets meaning f received.Failed f2
    → Fills meaning c waiting.Closed
    (record v { link = f2.link; waiting = waiting_in held.Nothing f2.source f2.reader; unsent = datagram_of f2.writer f2.destination; closed = true })
fills_failed_link meaning v c view h f f2 link unsent is e k l open_ g =
    fills_by meaning v c view h f.source f.reader is e k l open_ waiting.Closed _ (got_failed meaning v f f2 link unsent
    (none_waits meaning v c view h f.source f.reader is e k l) g)

-- Once an answer is given, a datagram waits where it says so.
pub waits_of : {T S : Type 0} (meaning : S → Meaning) (before now : Conn T S) (answer : Waiting) → Fills meaning before answer now → Waits answer now.waiting
waits_of {T} {S} meaning before now answer h = by_list before.waiting before.closed refl h
  where
    by_list : (ws : List LinkArrival) (closed : Bool) → before.waiting ≡ ws → FillsFrom meaning ws closed before answer now → Waits answer now.waiting
    by_list (arrival.Datagram source bytes ∷ more) closed is k =
        subst (λ w. Waits w now.waiting) (sym k.1) (subst HasDatagram (sym (ap (λ (c : Conn T S). c.waiting) k.0 ∙ is)) tt)
    by_list (arrival.Overrun ∷ more) closed is k = subst (λ w. Waits w now.waiting) (sym k.1) tt
    by_list (arrival.Closed ∷ more) closed is k = subst (λ w. Waits w now.waiting) (sym k.1) tt
    by_list [] true is k = subst (λ w. Waits w now.waiting) (sym k.1) tt
    by_list [] false is k = by answer k
      where
        by : (w : Waiting) → FillsBy meaning before w now → Waits w now.waiting
        by waiting.Datagram d = subst HasDatagram (sym (ap (λ (c : Conn T S). c.waiting) d.2)) tt
        by waiting.Overrun d = tt
        by waiting.Closed d = tt
        by waiting.Nothing d = tt
