-- A request that is taken and sent in one call.
use Rattle.std.proofs.Common.{◌≡◌, ◌+◌, ◌-◌, ◌<◌, ◌≤◌, ◌^◌, ◌||◌, inl, ℕ, Bool, true, false, not, List, [], ◌∷◌, ◌++◌, length, take, Option, Some, None, refl, sym, subst, ◌∙◌, ap, arith, length-append}
use Rattle.std.proofs.Math.Seq.{take-append_seam}
use Rattle.nl_core.specs.declared.message.NetlinkMessage.{NetlinkMessage}
use Rattle.session_model.specs.declared.address.SocketAddr.{SocketAddr}
use Rattle.stream_list.specs.Listed.{Room}
use Rattle.proto_core.specs.Session.{Session, requested}
use Rattle.proto_core.specs.declared.messages.Outgoing.{Outgoing}
use Rattle.proto_core.specs.declared.request.ExpectResponse.{ExpectResponse}
use Rattle.proto_core.specs.declared.request.ExpectResponse.TheVariants.{Explicit}
use Rattle.proto_core.specs.declared.request.ReplyExpectation.{ReplyExpectation}
use Rattle.proto_core.specs.declared.request.Request.{Request}
use Rattle.proto_conn.specs.declared.parts.Held.{Held}
use Rattle.proto_conn.specs.declared.tally.Tally.{Tally}
use Rattle.proto_conn.specs.declared.parts.Reply.{Reply}
use Rattle.proto_conn.specs.Conn.{Conn, IsHeld, IsSound, next_request, refuses, waiting_in}
use Rattle.proto_conn.specs.Fitting.{BatchesFit}
use Rattle.proto_conn.specs.Flushing.{Flushed, FlushedIf, GoesOn, Loads, SendsNext, is_nothing, is_stuck}
use Rattle.proto_conn.specs.Handles.{marks_of, messages_of}
use Rattle.proto_conn.specs.Links.{Meaning, with_back}
use Rattle.proto_conn.specs.Seen.{Framing}
use Rattle.proto_conn.specs.Sending.{Sends, datagram_of}
use Rattle.proto_conn.specs.Submitting.{FlushesAs, SendsIf, Submits, Takes, is_behind, marked_request, submitted}
use Rattle.proto_conn.specs.Tallies.{AreNewest, IsTallied, Tallied, no_tally, with_request}
use Rattle.proto_conn.proofs.Counts.{tallied_more}
use Rattle.proto_conn.proofs.Flushes.{flush_broke, flush_done, is_written, load_done}
use Rattle.proto_conn.proofs.Numbering.{noted_more, same_length, tallied_took}
use Rattle.proto_conn.proofs.Seeing.{append-nil, later_same}

-- ---- a link that isn't used

back_nil : {X : Type 0} (xs : Option (List X)) → xs ≡ with_back xs []
back_nil None = refl
back_nil (Some xs) = ap Some (sym (append-nil xs))

-- A link that stays as it is was sent nothing.
pub sends_none : {S : Type 0} (meaning : S → Meaning) (a b : S) → a ≡ b → Sends (meaning a) [] (meaning b)
sends_none meaning a b is = subst (λ x. Sends (meaning a) [] (meaning x)) is
    (record { later = later_same (meaning a); waits = refl; posted = back_nil (meaning a).posted; closings = refl })

-- ---- what is kept of the streams, where a request isn't taken

-- A stream that was added is dropped again.
pub dropped_again : (t t1 t2 : Tallied) → t1 ≡ record t { streams = t.streams ++ no_tally ∷ [] }
    → t2 ≡ record t1 { streams = take (length t1.streams - 1) t1.streams } → t2 ≡ t
dropped_again t t1 t2 more less =
    let len : length (t.streams ++ no_tally ∷ []) - 1 ≡ length t.streams = let l = length-append t.streams (no_tally ∷ []) in omega (arith, l) in
    less ∙ ap (λ (x : Tallied). record x { streams = take (length x.streams - 1) x.streams }) more
    ∙ ap (λ n. record t { streams = take n (t.streams ++ no_tally ∷ []) }) len
    ∙ ap (λ (xs : List Tally). record t { streams = xs }) (take-append_seam t.streams (no_tally ∷ []))

-- A connection whose parts stay as they are stays sound.
pub sound_back : {T : Type 0} {text : T → List ℕ} {fits : T → Bool} (s s2 : Session T ℕ) (q : List (Request T ℕ)) (count a : ℕ) (b : Room) (c d : ℕ) (h : Held) (reader reader2 : List ℕ)
    (given given2 : ℕ) (t t2 : Tallied)
    → s2 ≡ s → reader2 ≡ reader → given2 ≡ given → t2 ≡ t → IsSound text fits s q count a b c d h reader given t
    → IsSound text fits s2 q count a b c d h reader2 given2 t2
sound_back {T} {text} {fits} s s2 q count a b c d h reader reader2 given given2 t t2 es er eg et i =
    subst (λ (x : Session T ℕ). IsSound text fits x q count a b c d h reader2 given2 t2) (sym es)
    (subst (λ x. IsSound text fits s q count a b c d h x given2 t2) (sym er)
    (subst (λ x. IsSound text fits s q count a b c d h reader x t2) (sym eg)
    (subst (λ (x : Tallied). IsSound text fits s q count a b c d h reader given x) (sym et) i)))

-- ---- a request that is taken

module _ {T S : Type 0} (meaning : S → Meaning) (kind : T → ℕ) (text : T → List ℕ) where
  kept_by_load : (f f2 : Framing S) (s s2 : Session T ℕ) (os : List (Outgoing T)) → Loads text f s os f2 s2
      → s2 ≡ record s { outgoing = s2.outgoing }
  kept_by_load f f2 s s2 [] (same, is) = subst (λ (x : Session T ℕ). x ≡ record s { outgoing = x.outgoing }) (sym is) refl
  kept_by_load f f2 s s2 (o ∷ rest) (now, is) = subst (λ (x : Session T ℕ). x ≡ record s { outgoing = x.outgoing }) (sym is) refl

  reader_by_load : (f f2 : Framing S) (s s2 : Session T ℕ) (os : List (Outgoing T)) → Loads text f s os f2 s2 → f2.reader ≡ f.reader
  reader_by_load f f2 s s2 [] (same, is) = ap (λ (x : Framing S). x.reader) same
  reader_by_load f f2 s s2 (o ∷ rest) (now, is) = ap (λ (x : Framing S). x.reader) now

  reader_by_flush : (broke : Bool) (f f2 : Framing S) → FlushesAs meaning broke f f2 → f2.reader ≡ f.reader
  reader_by_flush true f f2 (e, is, d) = d.reader
  reader_by_flush false f f2 (p, d) = d.reader

  module _ (f f2 : Framing S) (s s2 : Session T ℕ) (r : Request T ℕ) (broke : Bool) (h : Takes meaning kind text f s r broke f2 s2) where
    -- The session has taken the request, and differs in its batches alone.
    pub kept_taken : s2 ≡ record (requested kind text s r) { outgoing = s2.outgoing }
    kept_taken = by (is_behind f.writer s.outgoing) h
      where
        by : (b : Bool) → SendsIf meaning text b f (requested kind text s r) broke f2 s2 → s2 ≡ record (requested kind text s r) { outgoing = s2.outgoing }
        by true (same, is, whole) = subst (λ (x : Session T ℕ). x ≡ record (requested kind text s r) { outgoing = x.outgoing }) (sym is) refl
        by false p = kept_by_load f p.mid (requested kind text s r) s2 (requested kind text s r).outgoing p.loads

    -- What was read stays.
    pub reader_taken : f2.reader ≡ f.reader
    reader_taken = by (is_behind f.writer s.outgoing) h
      where
        by : (b : Bool) → SendsIf meaning text b f (requested kind text s r) broke f2 s2 → f2.reader ≡ f.reader
        by true (same, is, whole) = ap (λ (x : Framing S). x.reader) same
        by false p = reader_by_flush broke p.mid f2 p.flushes
            ∙ reader_by_load f p.mid (requested kind text s r) s2 (requested kind text s r).outgoing p.loads

    -- No fewer numbers are awaited than before.
    pub no_fewer : (before after : ℕ) → before ≡ length s.awaited → after ≡ length s2.awaited → before ≤ after
    no_fewer before after a b = noted_more kind text s (requested kind text s r) r before after refl a
        (b ∙ ap (λ (x : Session T ℕ). length x.awaited) kept_taken)

-- A connection that has taken a request of the next stream is sound, where no request waits.
pub sound_submitted : {T : Type 0} (kind : T → ℕ) (text : T → List ℕ) {fits : T → Bool} (s s2 : Session T ℕ) (q : List (Request T ℕ)) (r : Request T ℕ)
    (count a : ℕ) (b : Room) (c d : ℕ) (h : Held) (reader reader2 : List ℕ) (given given2 : ℕ) (t t1 t2 : Tallied) (n before after : ℕ)
    → s2 ≡ record (requested kind text s r) { outgoing = s2.outgoing } → reader2 ≡ reader → given2 ≡ given + 1 → r.metadata ≡ given + 1 → q ≡ []
    → t1 ≡ record t { streams = t.streams ++ no_tally ∷ [] } → t2 ≡ with_request r.metadata n t1
    → given2 < b.streams → (s.last + count) + length r.messages < 2 ^ 32 → before ≡ length s.awaited → after ≡ length s2.awaited → n ≡ after - before
    → BatchesFit text fits s2.outgoing → IsSound text fits s q count a b c d h reader given t → IsSound text fits s2 q count a b c d h reader2 given2 t2
sound_submitted {T} kind text {fits} s s2 q r count a b c d h reader reader2 given given2 t t1 t2 n before after is same one next none more noted known room
    ea eb en batches i =
    let len : length t1.streams ≡ given + 1 =
    let e = ap (λ (x : Tallied). length x.streams) more in
    let l = length-append t.streams (no_tally ∷ []) in
    let k = i.streams in
    omega (arith, e, l, k) in
    record {
      counted = i.counted;
      numbers = let e = ap (λ (x : Session T ℕ). x.last) is in omega (arith, room, e);
      fit = i.fit;
      batches = batches;
      replies = subst (λ rs. length rs + a ≤ b.items) (sym (ap (λ (x : Session T ℕ). x.responses) is)) i.replies;
      known = λ _. known;
      unsolicited = subst (λ rs. length rs + c ≤ d) (sym (ap (λ (x : Session T ℕ). x.incoming) is)) i.unsolicited;
      held = subst (λ x. IsHeld h x) (sym same) i.held;
      streams = same_length t1 t2 r.metadata n noted ∙ len ∙ sym one;
      newest = subst (λ (x : List (Request T ℕ)). AreNewest given2 x) (sym none) tt;
      tallied = subst (λ (x : Session T ℕ). IsTallied x.awaited x.responses x.arrived t2) (sym is)
          (tallied_took kind text s (requested kind text s r) t1 t2 r n before after
          (subst (λ (x : Tallied). IsTallied s.awaited s.responses s.arrived x) (sym more) (tallied_more s.awaited s.responses s.arrived t i.tallied))
          refl noted ea (eb ∙ ap (λ (x : Session T ℕ). length x.awaited) is) en (omega (arith, next)) (omega (arith, next, len)));
    }

-- Of two tests that fail, the first fails.
pub first_false : (a b : Bool) → (a || b) ≡ false → a ≡ false
first_false true b e = cc
first_false false b e = refl

-- ---- the whole call

module _ {T S : Type 0} (meaning : S → Meaning) (kind : T → ℕ) (text : T → List ℕ) (v : Conn T S) (h : Held) (f f2 : Framing S) (s2 : Session T ℕ)
    (r : Request T ℕ) (broke : Bool) (link : v.link ≡ f.link) (waiting : v.waiting ≡ waiting_in h f.source f.reader)
    (unsent : v.unsent ≡ datagram_of f.writer f.destination) (unclosed : v.closed ≡ false) where
  abbrev taken : Conn T S
  taken = submitted kind text r v

  abbrev becomes : Framing S → Session T ℕ → Bool → Conn T S
  becomes x s b = record taken {
    link = x.link;
    waiting = waiting_in h x.source x.reader;
    unsent = datagram_of x.writer x.destination;
    session = s;
    closed = b;
  }

  stays_behind : f2 ≡ f → s2 ≡ requested kind text v.session r → broke ≡ false → becomes f2 s2 broke ≡ taken
  stays_behind same is whole =
      ap (λ (x : Framing S). becomes x s2 broke) same ∙ ap (λ (s : Session T ℕ). becomes f s broke) is
      ∙ ap (λ b. becomes f (requested kind text v.session r) b) whole ∙ rw (← link, ← waiting, ← unsent, ← unclosed) refl

  flushed_as : (mid : Framing S) (b : Bool) → FlushesAs meaning b mid f2 → (mid.writer ≡ [] → f2 ≡ mid)
      → Flushed meaning (becomes mid s2 v.closed) (becomes f2 s2 b)
  flushed_as mid true (e, is, d) idle = flush_broke meaning (becomes mid s2 v.closed) h mid f2 refl refl refl unclosed idle e is d
  flushed_as mid false (p, d) idle =
      subst (λ b. Flushed meaning (becomes mid s2 v.closed) (becomes f2 s2 b)) unclosed
      (flush_done meaning (becomes mid s2 v.closed) h mid f2 refl refl refl unclosed idle p d)

  goes_on : (b : Bool) → SendsIf meaning text b f (requested kind text v.session r) broke f2 s2 → GoesOn meaning text b taken (becomes f2 s2 broke)
  goes_on true (same, is, whole) = stays_behind same is whole
  goes_on false p =
      subst (λ (x : Conn T S). Flushed meaning x (becomes f2 s2 broke))
      (load_done text taken h f p.mid s2 link waiting unsent taken.session.outgoing refl p.loads)
      (flushed_as p.mid broke p.flushes p.idle)

  -- What was made of the reader and writer and of the session is made of the connection.
  pub submits_by : Takes meaning kind text f v.session r broke f2 s2 → Submits kind text meaning r v (becomes f2 s2 broke)
  submits_by d = goes_on (is_behind v.unsent v.session.outgoing)
      (subst (λ b. SendsIf meaning text b f (requested kind text v.session r) broke f2 s2) behind d)
    where
      behind : is_behind f.writer v.session.outgoing ≡ is_behind v.unsent v.session.outgoing
      behind = ap (λ b. not b || not (is_nothing v.session.outgoing)) (is_written f.writer f.destination ∙ ap is_nothing (sym unsent))

-- Where no batch is ahead, the request is sent as by a poll of a connection that has taken it.
pub sends_as_poll : {T S : Type 0} (meaning : S → Meaning) (kind : T → ℕ) (text : T → List ℕ) (r : Request T ℕ) (before now : Conn T S)
    → refuses before ≡ false → Submits kind text meaning r before now → is_behind before.unsent before.session.outgoing ≡ false
    → SendsNext meaning text (submitted kind text r before) now
sends_as_poll {T} {S} meaning kind text r before now takes h free = record {
  mid = taken;
  first = subst (λ b. FlushedIf meaning b taken taken) (sym unclosed) (record {
    out = [];
    sends = sends_none meaning before.link before.link refl;
    idle = λ e. refl;
    stays = refl;
    how = inl (sym nothing, nothing, unclosed);
  });
  next = subst (λ b. GoesOn meaning text b taken now) (sym stuck)
      (subst (λ b. GoesOn meaning text b taken now) free h);
}
  where
    taken : Conn T S
    taken = submitted kind text r before

    unclosed : before.closed ≡ false
    unclosed = first_false before.closed before.requests_closed takes

    empty : {X : Type 0} (xs : List X) (b : Bool) → (not (is_nothing xs) || b) ≡ false → xs ≡ []
    empty [] b e = refl
    empty (x ∷ xs) b e = cc

    nothing : before.unsent ≡ []
    nothing = empty before.unsent (not (is_nothing before.session.outgoing)) free

    stuck : is_stuck taken ≡ false
    stuck = ap (λ b. b || not (is_nothing before.unsent)) unclosed ∙ ap (λ ps. not (is_nothing ps)) nothing

-- The same for a connection that is this one.
pub submits_at : {T S : Type 0} (meaning : S → Meaning) (kind : T → ℕ) (text : T → List ℕ) (v w : Conn T S) → v ≡ w → (h : Held) (f f2 : Framing S)
    (s2 : Session T ℕ) (ms : List (NetlinkMessage T)) (expect : ExpectResponse) (to : SocketAddr) (n : ℕ) (broke : Bool) (marks : List Bool)
    (replies : List (Reply T))
    → v.link ≡ f.link → v.waiting ≡ waiting_in h f.source f.reader → v.unsent ≡ datagram_of f.writer f.destination → v.closed ≡ false
    → n ≡ length v.given_up + 1 → marks ≡ v.given_up ++ false ∷ [] → replies ≡ v.replies
    → Takes meaning kind text f v.session (record { metadata = n; messages = ms; destination = to; expect_response = expect }) broke f2 s2
    → Submits kind text meaning (next_request w ms expect to) w (record v {
      link = f2.link;
      waiting = waiting_in h f2.source f2.reader;
      unsent = datagram_of f2.writer f2.destination;
      session = s2;
      replies = replies;
      given_up = marks;
      closed = broke;
    })
submits_at {T} {S} meaning kind text v w is h f f2 s2 ms expect to n broke marks replies link waiting unsent unclosed number marked listed d =
    subst (λ (x : Conn T S). Submits kind text meaning (next_request x ms expect to) x (now replies marks)) is
    (subst (λ rs. Submits kind text meaning (next_request v ms expect to) v (now rs marks)) (sym listed)
    (subst (λ xs. Submits kind text meaning (next_request v ms expect to) v (now v.replies xs)) (sym marked)
    (submits_by meaning kind text v h f f2 s2 (next_request v ms expect to) broke link waiting unsent unclosed
    (subst (λ k. Takes meaning kind text f v.session (record { metadata = k; messages = ms; destination = to; expect_response = expect })
    broke f2 s2) number d))))
  where
    now : List (Reply T) → List Bool → Conn T S
    now rs xs = record v {
      link = f2.link;
      waiting = waiting_in h f2.source f2.reader;
      unsent = datagram_of f2.writer f2.destination;
      session = s2;
      replies = rs;
      given_up = xs;
      closed = broke;
    }

-- The same for messages with their marks.
pub submits_marked : {T S : Type 0} (meaning : S → Meaning) (kind : T → ℕ) (text : T → List ℕ) (before now : Conn T S)
    (ps : List (NetlinkMessage T × ReplyExpectation)) (to : SocketAddr) (ms : List (NetlinkMessage T)) (marks : List Bool)
    → ms ≡ messages_of ps → marks ≡ marks_of ps → Submits kind text meaning (next_request before ms (Explicit marks) to) before now
    → Submits kind text meaning (marked_request before ps to) before now
submits_marked meaning kind text before now ps to ms marks em ek h =
    subst (λ xs. Submits kind text meaning (next_request before (messages_of ps) (Explicit xs) to) before now) ek
    (subst (λ xs. Submits kind text meaning (next_request before xs (Explicit marks) to) before now) em h)
