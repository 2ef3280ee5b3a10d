-- A flush of a connection.
use Rattle.std.proofs.Common.{◌≡◌, ◌<◌, inl, inr, ℕ, Bool, true, false, List, [], ◌∷◌, length, take, Ok, Err, refl, sym, subst, ◌∙◌, ap, arith}
use Rattle.session_model.specs.declared.address.SocketAddr.{SocketAddr}
use Rattle.proto_core.specs.Session.{Session}
use Rattle.proto_core.specs.declared.messages.Outgoing.{Outgoing}
use Rattle.proto_conn.specs.declared.link.Posted.{Posted}
use Rattle.proto_conn.specs.declared.framed.Polled.{Polled}
use Rattle.proto_conn.specs.declared.framed.Polled.TheVariants as polled
use Rattle.proto_conn.specs.declared.framed.FramedError.{FramedError}
use Rattle.proto_conn.specs.declared.framed.FramedError.TheVariants as framed
use Rattle.proto_conn.specs.declared.parts.Held.{Held}
use Rattle.proto_conn.specs.Links.{Meaning, HasRisen, is_sure}
use Rattle.proto_conn.specs.Seen.{Framing}
use Rattle.proto_conn.specs.Sending.{DidFlush, Sends, datagram_of, texts}
use Rattle.proto_conn.specs.Conn.{Conn, waiting_in}
use Rattle.proto_conn.specs.Flushing.{Flushed, FlushedIf, Flushes, IsPart, Loads, Unflushed, is_break, is_nothing, load, loaded}

nothing_written : (bytes : List ℕ) (to : SocketAddr) → datagram_of bytes to ≡ [] → bytes ≡ []
nothing_written [] to e = refl
nothing_written (b ∷ bytes) to e = cc

pub is_written : (bytes : List ℕ) (to : SocketAddr) → is_nothing bytes ≡ is_nothing (datagram_of bytes to)
is_written [] to = refl
is_written (b ∷ bytes) to = refl

pub unwritten : (bytes : List ℕ) (to : SocketAddr) → datagram_of bytes to ≡ [] → bytes ≡ []
unwritten bytes to e = nothing_written bytes to e

part_of : (bytes : List ℕ) (to : SocketAddr) (took len : ℕ) → took < len → len ≡ length bytes
    → IsPart (record { bytes = take took bytes; to = to } ∷ []) (datagram_of bytes to)
part_of [] to took len less is = absurd (by took (subst (λ n. took < n) is less))
  where
    by : (n : ℕ) → n < 0 → ⊥
    by n h = omega (arith, h)
part_of (b ∷ bytes) to took len less is = record { bytes = b ∷ bytes; to = to; took = took; whole = refl; part = refl; less = subst (λ n. took < n) is less }

module _ {T S : Type 0} (meaning : S → Meaning) (before : Conn T S) (h : Held) (f f2 : Framing S)
    (link : before.link ≡ f.link) (waiting : before.waiting ≡ waiting_in h f.source f.reader) (unsent : before.unsent ≡ datagram_of f.writer f.destination)
    (unclosed : before.closed ≡ false) (idle : f.writer ≡ [] → f2 ≡ f) where
  after : Bool → Conn T S
  after b = record before { link = f2.link; waiting = waiting_in h f2.source f2.reader; unsent = datagram_of f2.writer f2.destination; closed = b }

  waits_still : (f2.reader ≡ f.reader) → (f2.source ≡ f.source) → waiting_in h f2.source f2.reader ≡ before.waiting
  waits_still r s = ap (λ source. waiting_in h source f2.reader) s ∙ ap (λ bytes. waiting_in h f.source bytes) r ∙ sym waiting

  stays_idle : before.unsent ≡ [] → f2.link ≡ before.link
  stays_idle e = ap (λ (g : Framing S). g.link) (idle (nothing_written f.writer f.destination (sym unsent ∙ e))) ∙ sym link

  sends_from : {out : List Posted} → Sends (meaning f.link) out (meaning f2.link) → Sends (meaning before.link) out (meaning f2.link)
  sends_from {out} s = subst (λ l. Sends (meaning l) out (meaning f2.link)) (sym link) s

  risen_from : (count : Meaning → ℕ) → HasRisen (count (meaning f.link)) (count (meaning f2.link))
      → HasRisen (count (meaning before.link)) (count (meaning f2.link))
  risen_from count r = subst (λ l. HasRisen (count (meaning l)) (count (meaning f2.link))) (sym link) r

  unsure_from : is_sure (meaning f.link).manners ≡ false → is_sure (meaning before.link).manners ≡ false
  unsure_from e = ap (λ l. is_sure (meaning l).manners) link ∙ e

  flushed_by : (now : Conn T S) → Flushes meaning before now → Flushed meaning before now
  flushed_by now d = subst (λ b. FlushedIf meaning b before now) (sym unclosed) d

  pub flush_done : (p : Polled (Unit {0})) → DidFlush meaning f (Ok p) f2
      → Flushed meaning before (record before { link = f2.link; waiting = waiting_in h f2.source f2.reader; unsent = datagram_of f2.writer f2.destination })
  flush_done (polled.Ready u) d = flushed_by _ (record {
    out = datagram_of f.writer f.destination;
    sends = sends_from d.flushes.1;
    idle = stays_idle;
    stays = ap (λ w. record before { link = f2.link; waiting = w; unsent = datagram_of f2.writer f2.destination }) (waits_still d.reader d.source);
    how = inl (sym unsent, ap (λ bytes. datagram_of bytes f2.destination) d.flushes.0, unclosed);
  })
  flush_done polled.Ended d = absurd d.flushes
  flush_done polled.NotYet d = flushed_by _ (record {
    out = [];
    sends = sends_from d.flushes.1;
    idle = stays_idle;
    stays = ap (λ w. record before { link = f2.link; waiting = w; unsent = datagram_of f2.writer f2.destination }) (waits_still d.reader d.source);
    how = inr (inl (
      refl,
      ap (λ bytes. datagram_of bytes f2.destination) d.flushes.0 ∙ ap (datagram_of f.writer) d.destination
          ∙ sym unsent,
      unclosed,
      risen_from (λ m. m.stalls) d.flushes.2,
      unsure_from d.flushes.3,
    ));
  })

  pub flush_broke : (e : FramedError) → is_break e ≡ true → DidFlush meaning f (Err e) f2
      → Flushed meaning before
      (record before { link = f2.link; waiting = waiting_in h f2.source f2.reader; unsent = datagram_of f2.writer f2.destination; closed = true })
  flush_broke framed.LinkFailed b d = flushed_by _ (record {
    out = [];
    sends = sends_from d.flushes.1;
    idle = stays_idle;
    stays =
        ap (λ w. record before { link = f2.link; waiting = w; unsent = datagram_of f2.writer f2.destination; closed = true })
        (waits_still d.reader d.source);
    how =
        inr (inr (
          inl refl,
          ap (λ bytes. datagram_of bytes f2.destination) d.flushes.0,
          refl,
          risen_from
              (λ m. m.faults) d.flushes.2,
          unsure_from d.flushes.3,
        ));
  })
  flush_broke (framed.Short took len) b d = flushed_by _ (record {
    out = record { bytes = take took f.writer; to = f.destination } ∷ [];
    sends = sends_from d.flushes.1;
    idle = stays_idle;
    stays =
        ap (λ w. record before { link = f2.link; waiting = w; unsent = datagram_of f2.writer f2.destination; closed = true })
        (waits_still d.reader d.source);
    how = inr (inr (
      inr (subst (λ u. IsPart (record {
        bytes =
            take took f.writer;
        to = f.destination;
      } ∷ []) u) (sym unsent) (part_of f.writer f.destination took len d.flushes.2 d.flushes.3)),
      ap (λ bytes. datagram_of bytes f2.destination) d.flushes.0,
      refl,
      risen_from (λ m. m.faults) d.flushes.4,
      unsure_from d.flushes.5,
    ));
  })
  flush_broke framed.Unfit b d = absurd d.flushes
  flush_broke framed.NoMemory b d = cc

  pub flush_wants : (e : FramedError) → is_break e ≡ false → DidFlush meaning f (Err e) f2
      → Unflushed meaning before (record before { link = f2.link; waiting = waiting_in h f2.source f2.reader; unsent = datagram_of f2.writer f2.destination })
  flush_wants framed.NoMemory b d = record {
    unclosed = unclosed;
    sends = sends_from d.flushes.1;
    stays = ap (λ w. record before { link = f2.link; waiting = w; unsent = datagram_of f2.writer f2.destination }) (waits_still d.reader d.source)
        ∙ ap (λ u. record before { link = f2.link; unsent = u }) (ap (λ bytes. datagram_of bytes f2.destination) d.flushes.0
        ∙ ap (datagram_of f.writer) d.destination ∙ sym unsent);
  }
  flush_wants framed.LinkFailed b d = cc
  flush_wants (framed.Short took len) b d = cc
  flush_wants framed.Unfit b d = cc

-- A batch is loaded.
module _ {T S : Type 0} (text : T → List ℕ) (before : Conn T S) (h : Held) (f f2 : Framing S) (s2 : Session T ℕ)
    (link : before.link ≡ f.link) (waiting : before.waiting ≡ waiting_in h f.source f.reader)
    (unsent : before.unsent ≡ datagram_of f.writer f.destination) where
  pub load_done : (os : List (Outgoing T)) → before.session.outgoing ≡ os → Loads text f before.session os f2 s2
      → record before { link = f2.link; waiting = waiting_in h f2.source f2.reader; unsent = datagram_of f2.writer f2.destination; session = s2 } ≡ load text before os
  load_done [] e (same, kept) =
      ap (λ (g : Framing S). record before {
        link =
            g.link;
        waiting = waiting_in h g.source g.reader;
        unsent = datagram_of g.writer g.destination;
        session = s2;
      }) same
      ∙ ap (λ (s : Session T ℕ). record before {
        link =
            f.link;
        waiting = waiting_in h f.source f.reader;
        unsent = datagram_of f.writer f.destination;
        session = s;
      }) kept
      ∙ rw (← link, ← waiting, ← unsent) refl
  load_done (o ∷ rest) e (now, left) =
      ap (λ (g : Framing S). record before {
        link =
            g.link;
        waiting = waiting_in h g.source g.reader;
        unsent = datagram_of g.writer g.destination;
        session = s2;
      }) now
      ∙ ap (λ (s : Session T ℕ). record before {
        link =
            f.link;
        waiting = waiting_in h f.source f.reader;
        unsent = datagram_of (texts text o.messages) o.destination;
        session = s;
      }) left
      ∙ rw (← link, ← waiting) refl

-- The same for a connection that is this one.
pub load_at : {T S : Type 0} (text : T → List ℕ) (v w : Conn T S) → v ≡ w → (h : Held) (f f2 : Framing S) (s2 : Session T ℕ) → v.link ≡ f.link
    → v.waiting ≡ waiting_in h f.source f.reader
    → v.unsent ≡ datagram_of f.writer f.destination → Loads text f v.session v.session.outgoing f2 s2
    → record v { link = f2.link; waiting = waiting_in h f2.source f2.reader; unsent = datagram_of f2.writer f2.destination; session = s2 } ≡ loaded text w
load_at text v w e h f f2 s2 link waiting unsent did = load_done text v h f f2 s2 link waiting unsent v.session.outgoing refl did ∙ ap (loaded text) e
