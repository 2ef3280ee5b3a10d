-- Reading, one step after another.
use Rattle.std.proofs.Common.{◌≡◌, ◌+◌, ◌-◌, ◌*◌, ◌^◌, ◌≤◌, ◌<◌, ◌⊎◌, ◌||◌, ◌==◌, inl, inr, ℕ, Bool, true, false, cond, List, [], ◌∷◌, ◌++◌, length, flat_map, IfSome, Result, refl, sym, subst, ◌∙◌, ap, arith}
use Rattle.nl_core.specs.declared.error.DecodeError.{DecodeError}
use Rattle.nl_core.specs.declared.message.NetlinkMessage.{NetlinkMessage}
use Rattle.session_model.specs.declared.address.SocketAddr.{SocketAddr}
use Rattle.session_model.specs.Events.{Event, Sent, Came, Unread, Leftover, Overran, Shut, Other, overrun_arrival}
use Rattle.session_model.specs.Streams.{is_shut}
use Rattle.proto_core.specs.Session.{Session, arrived_at}
use Rattle.proto_core.specs.declared.messages.Handled.{Handled}
use Rattle.proto_conn.specs.declared.framed.Dropped.{Dropped}
use Rattle.proto_conn.specs.declared.framed.Dropped.TheVariants as dropped
use Rattle.proto_conn.specs.declared.link.Arrival.{Arrival as LinkArrival}
use Rattle.proto_conn.specs.declared.link.Arrival.TheVariants as arrival
use Rattle.proto_conn.specs.declared.parts.Held.{Held}
use Rattle.proto_conn.specs.declared.parts.Held.TheVariants as held
use Rattle.proto_conn.specs.Links.{Meaning, HasRisen, is_prompt}
use Rattle.proto_conn.specs.Seen.{Framing, DidRead, DidSee, IsProgress, arrived_in, brings, events_in, loss, pending, shut_by}
use Rattle.proto_conn.specs.Sending.{datagram_of}
use Rattle.proto_conn.specs.Conn.{Conn, IsHeld, is_overrun, waiting_in}
use Rattle.proto_conn.specs.Reading.{Drained, DidStep, Follows, Followed, IsGone, Missed, Progress, Reads, Stopped, after_event, loads_of, room_of}
use Rattle.proto_conn.proofs.Arrivals.{one_arrived}
use Rattle.proto_conn.proofs.Seeing.{either, or_left, or_right, shut-append, append-nil, arrived-append, front_nil, later_same, risen_before, risen_after, see_nothing, see_more}

not_before : (a b : Bool) → (a ≡ true → b ≡ true) → b ≡ false → a ≡ false
not_before false b h e = refl
not_before true b h e = sym (h refl) ∙ e

closed_alone : (b : Bool) → (b || false) ≡ true → b ≡ true
closed_alone true e = refl
closed_alone false e = e

-- no more waits than the bytes that are left
pub load_held : (h : Held) (source : SocketAddr) (bytes : List ℕ) → IsHeld h bytes → length bytes ≤ 65536 → loads_of (waiting_in h source bytes) ≤ 65536
load_held held.Nothing source [] i le = omega arith
load_held held.Nothing source (b ∷ bytes) i le = omega (arith, le)
load_held held.Datagram source bytes i le = omega (arith, le)
load_held held.Overrun source bytes i le = omega arith

load_nothing : (source : SocketAddr) (bytes : List ℕ) → loads_of (waiting_in held.Nothing source bytes) ≡ length bytes
load_nothing source [] = refl
load_nothing source (b ∷ bytes) = omega arith

abbrev pub IsCalm : Held → Type 0
IsCalm held.Nothing = Unit {0}
IsCalm held.Datagram = Unit {0}
IsCalm held.Overrun = ⊥

pub calm_of : (h : Held) → is_overrun h ≡ false → IsCalm h
calm_of held.Nothing e = tt
calm_of held.Datagram e = tt
calm_of held.Overrun e = cc

pub overran_of : (h : Held) → is_overrun h ≡ true → h ≡ held.Overrun
overran_of held.Nothing e = cc
overran_of held.Datagram e = cc
overran_of held.Overrun e = refl

pub load_calm : (h : Held) → IsCalm h → (source : SocketAddr) (bytes : List ℕ) → loads_of (waiting_in h source bytes) ≡ length bytes
load_calm held.Nothing calm source bytes = load_nothing source bytes
load_calm held.Datagram calm source bytes = omega arith
load_calm held.Overrun calm source bytes = absurd calm

module _ {M : Type 0} (reads : ℕ → List ℕ → Result M DecodeError) where
  due_nothing : (source : SocketAddr) (bytes : List ℕ) → flat_map (brings reads) (waiting_in held.Nothing source bytes) ≡ events_in reads source bytes
  unfolding events_in
  due_nothing source [] = refl
  due_nothing source (b ∷ bytes) = append-nil (events_in reads source (b ∷ bytes))

  due_calm : (h : Held) → IsCalm h → (source : SocketAddr) (bytes : List ℕ) → flat_map (brings reads) (waiting_in h source bytes) ≡ events_in reads source bytes
  due_calm held.Nothing calm source bytes = due_nothing source bytes
  due_calm held.Datagram calm source bytes = append-nil (events_in reads source bytes)
  due_calm held.Overrun calm source bytes = absurd calm

pub loss_after : {M : Type 0} (d : Dropped) (source : SocketAddr) (s : Session M ℕ) → s ≡ after_event (loss d source) s
loss_after (dropped.Unreadable kind number) source s = refl
loss_after (dropped.Rest n) source s = refl

pub loss_open : (M : Type 0) (d : Dropped) (source : SocketAddr) → is_shut {M = M} (loss d source ∷ []) ≡ false
loss_open M (dropped.Unreadable kind number) source = refl
loss_open M (dropped.Rest n) source = refl

event_arrives : {M : Type 0} (e : Event M) (s : Session M ℕ) → (after_event e s).arrived ≡ s.arrived + arrived_in (e ∷ [])
event_arrives (Came m source) s = one_arrived (record { message = m; source = source }) s
event_arrives Overran s = one_arrived overrun_arrival s
event_arrives (Unread kind number source) s = omega arith
event_arrives (Leftover n source) s = omega arith
event_arrives Shut s = omega arith
event_arrives (Sent to frames) s = omega arith
event_arrives (Other aside) s = omega arith

module _ {M W : Type 0} (sees : W → NetlinkMessage M → SocketAddr → Handled ℕ → Bool → W → Type 0) (loses : W → Dropped → SocketAddr → W
    → Type 0) (overruns : W → W → Type 0) where
  pub follows_loss : (d : Dropped) (source : SocketAddr) (s : Session M ℕ) (w v : W) → loses w d source v
      → Follows sees loses overruns (loss d source) s w true v
  follows_loss (dropped.Unreadable kind number) source s w v h = (h, refl)
  follows_loss (dropped.Rest n) source s w v h = (h, refl)

  pub followed_shut : (n : ℕ) (s : Session M ℕ) (w : W) → Followed sees loses overruns s w (shut_by n) s w
  followed_shut n s w =
      elim (n == 0) as (λ b. Followed sees loses overruns s w (cond b (Shut ∷ []) []) s w) [
        | true ↦ (w, (refl, refl), (refl, refl))
        | false ↦
            (refl, refl)
      ]

  followed_more : (s : Session M ℕ) (w : W) (es fs : List (Event M)) (s1 : Session M ℕ) (w1 : W) (s2 : Session M ℕ) (w2 : W)
      → Followed sees loses overruns s w es s1 w1 → Followed sees loses overruns s1 w1 fs s2 w2 → Followed sees loses overruns s w (es ++ fs) s2 w2
  followed_more s w [] fs s1 w1 s2 w2 h k =
      subst (λ v. Followed sees loses overruns s v fs s2 w2) h.1 (subst (λ t. Followed sees loses overruns t w1 fs s2 w2) h.0 k)
  followed_more s w (e ∷ es) fs s1 w1 s2 w2 h k = (h.0, h.1, followed_more (after_event e s) h.0 es fs s1 w1 s2 w2 h.2 k)

  followed_arrived : (s : Session M ℕ) (w : W) (es : List (Event M)) (s2 : Session M ℕ) (w2 : W) → Followed sees loses overruns s w es s2 w2
      → s2.arrived ≡ s.arrived + arrived_in es
  followed_arrived s w [] s2 w2 h = let e : s2.arrived ≡ s.arrived = ap (λ (t : Session M ℕ). t.arrived) h.0 in omega (arith, e)
  followed_arrived s w (e ∷ es) s2 w2 h =
      let later = followed_arrived (after_event e s) h.0 es s2 w2 h.2 in
      let one = event_arrives e s in
      let both : arrived_in (e ∷ es) ≡ arrived_in (e ∷ []) + arrived_in es = arrived-append (e ∷ []) es in
      omega (arith, later, one, both)

  module _ (reads : ℕ → List ℕ → Result M DecodeError) {S : Type 0} (meaning : S → Meaning) where
    pub reads_nothing : (c : Conn M S) (w : W) → Reads sees loses overruns reads meaning c w c w
    reads_nothing c w = record {
      events = [];
      saw = see_nothing reads meaning c.link _;
      followed =
          (refl, refl);
      stays = refl;
      closes = closed_alone c.closed;
      cause = inl refl;
    }

    -- Two readings after one another are one.
    pub reads_more : (a b c : Conn M S) (w v u : W) → Reads sees loses overruns reads meaning a w b v
        → Reads sees loses overruns reads meaning b v c u → Reads sees loses overruns reads meaning a w c u
    reads_more a b c w v u h k = record {
      events = h.events ++ k.events;
      saw = see_more reads meaning a.link b.link c.link _ _ _ h.events k.events h.saw k.saw;
      followed = followed_more a.session w h.events k.events b.session v c.session u h.followed k.followed;
      stays = k.stays ∙ ap (λ (d : Conn M S). record d { link = c.link; waiting = c.waiting; session = c.session; closed = c.closed }) h.stays;
      closes = λ e. k.closes (both (either a.closed (is_shut (h.events ++ k.events)) e));
      cause = joined h.cause k.cause;
    }
      where
        both : (a.closed ≡ true) ⊎ (is_shut (h.events ++ k.events) ≡ true) → (b.closed || is_shut k.events) ≡ true
        both (inl e) = or_left b.closed (is_shut k.events) (h.closes (or_left a.closed (is_shut h.events) e))
        both (inr e) = later (either (is_shut h.events) (is_shut k.events) (sym (shut-append h.events k.events) ∙ e))
          where
            later : (is_shut h.events ≡ true) ⊎ (is_shut k.events ≡ true) → (b.closed || is_shut k.events) ≡ true
            later (inl f) = or_left b.closed (is_shut k.events) (h.closes (or_right a.closed (is_shut h.events) f))
            later (inr f) = or_right b.closed (is_shut k.events) f

        joined : (b.closed ≡ a.closed) ⊎ IsGone meaning a b → (c.closed ≡ b.closed) ⊎ IsGone meaning b c → (c.closed ≡ a.closed) ⊎ IsGone meaning a c
        joined p (inr (inl y)) = inr (inl (risen_before _ _ _ h.saw.later.closings y))
        joined p (inr (inr y)) = inr (inr (risen_before _ _ _ h.saw.later.faults y.0, not_before _ _ h.saw.later.prompt y.1))
        joined (inl x) (inl y) = inl (y ∙ x)
        joined (inr (inl x)) (inl y) = inr (inl (risen_after _ _ _ x k.saw.later.closings))
        joined (inr (inr x)) (inl y) = inr (inr (risen_after _ _ _ x.0 k.saw.later.faults, x.1))

    pub stopped_nothing : (c d : Conn M S) (w : W) → d ≡ c → Stopped sees loses overruns reads meaning c w d w
    stopped_nothing c d w e = record { mid = c; watch = w; reads_to = reads_nothing c w; last = inl (e, refl) }

    pub stopped_missed : (c d : Conn M S) (w v : W) → Missed sees loses overruns reads meaning c w d v → Stopped sees loses overruns reads meaning c w d v
    stopped_missed c d w v m = record { mid = c; watch = w; reads_to = reads_nothing c w; last = inr m }

    pub stopped_more : (a b c : Conn M S) (w v u : W) → Reads sees loses overruns reads meaning a w b v
        → Stopped sees loses overruns reads meaning b v c u → Stopped sees loses overruns reads meaning a w c u
    stopped_more a b c w v u h k = record { mid = k.mid; watch = k.watch; reads_to = reads_more a b k.mid w v k.watch h k.reads_to; last = k.last }

    pub drained_more : (a b c : Conn M S) (w v : W) → Reads sees loses overruns reads meaning a w b v → Drained meaning b c → Drained meaning a c
    drained_more a b c w v h (inl e) = inl e
    drained_more a b c w v h (inr k) = inr (risen_before _ _ _ h.saw.later.stalls k.0, k.1, λ p. k.2 (h.saw.later.prompt p))

    -- A step on which reading goes on keeps room for what is left.
    pub keeps_room : (c : Conn M S) (w : W) (d : Conn M S) (v : W) → DidStep sees loses overruns reads meaning c w true d v
        → 16 * c.session.arrived + room_of meaning c ≤ 16 * (2 ^ 64 - 1) → 16 * d.session.arrived + room_of meaning d ≤ 16 * (2 ^ 64 - 1)
    keeps_room c w d v h le =
        let a = followed_arrived c.session w h.reads_to.events d.session v h.reads_to.followed in
        let p = h.goes.within in
        omega (arith, a, p, le)

    -- A connection whose parts are these, after a step of its reader.
    module _ (c : Conn M S) (h : Held) (calm : IsCalm h) (f f2 : Framing S) (link : c.link ≡ f.link) (waiting : c.waiting ≡ waiting_in h f.source f.reader)
        (unsent : c.unsent ≡ datagram_of f.writer f.destination) where
      abbrev pub now_as : Session M ℕ → Conn M S
      now_as s = record c { link = f2.link; waiting = waiting_in held.Nothing f2.source f2.reader; unsent = datagram_of f2.writer f2.destination; session = s }

      lift : (es : List (Event M)) → DidRead reads meaning f es f2
          → DidSee reads meaning c.link (flat_map (brings reads) c.waiting) es f2.link (flat_map (brings reads)
          (waiting_in held.Nothing f2.source f2.reader))
      lift es r =
          subst (λ l. DidSee reads meaning l (flat_map (brings reads) c.waiting) es f2.link (flat_map (brings reads)
          (waiting_in held.Nothing f2.source f2.reader))) (sym link)
          (subst (λ (d : List (Event M)). DidSee reads meaning f.link d es f2.link (flat_map (brings reads)
          (waiting_in held.Nothing f2.source f2.reader))) (sym (ap (flat_map (brings reads)) waiting ∙ due_calm reads h calm f.source f.reader))
          (subst (λ (d : List (Event M)). DidSee reads meaning f.link (pending reads f) es f2.link d) (sym (due_nothing reads f2.source f2.reader)) r.saw))

      kept : (es : List (Event M)) → DidRead reads meaning f es f2 → datagram_of f2.writer f2.destination ≡ c.unsent
      kept es r = ap (λ bytes. datagram_of bytes f2.destination) r.writer ∙ ap (datagram_of f.writer) r.destination ∙ sym unsent

      stays : (es : List (Event M)) (s : Session M ℕ) (b : Bool) → DidRead reads meaning f es f2
          → record c { link = f2.link; waiting = waiting_in held.Nothing f2.source f2.reader; unsent = datagram_of f2.writer f2.destination; session = s; closed = b }
          ≡ record c { link = f2.link; waiting = waiting_in held.Nothing f2.source f2.reader; session = s; closed = b }
      stays es s b r =
          ap (λ u. record c { link = f2.link; waiting = waiting_in held.Nothing f2.source f2.reader; unsent = u; session = s; closed = b })
          (kept es r)

      goes_on : (es : List (Event M)) (s : Session M ℕ) → IsProgress meaning f es f2 → Progress meaning c es (now_as s)
      goes_on es s p =
          let a : loads_of c.waiting ≡ length f.reader = ap loads_of waiting ∙ load_calm h calm f.source f.reader in
          let b = load_nothing f2.source f2.reader in
          let l : (meaning c.link).backlog ≡ (meaning f.link).backlog = ap (λ k. (meaning k).backlog) link in
          let both = progress_by (loads_of c.waiting) (loads_of (waiting_in held.Nothing f2.source f2.reader)) (length f.reader)
          (length f2.reader) (meaning c.link).backlog (meaning f.link).backlog (meaning f2.link).backlog
          (arrived_in es) a b l p.less p.within in
          record { less = both.0; within = both.1 }
        where
          progress_by : (w w2 r r2 k k1 k2 n : ℕ) → w ≡ r → w2 ≡ r2 → k ≡ k1 → 65537 * k2 + r2 < 65537 * k1 + r → 16 * n + (65536 * k2 + r2) ≤ 65536 * k1 + r
              → (65537 * k2 + w2 < 65537 * k + w) × (16 * n + (65536 * k2 + w2) ≤ 65536 * k + w)
          progress_by w w2 r r2 k k1 k2 n a b l x y = (omega (arith, a, b, l, x), omega (arith, a, b, l, y))

      -- One event is read, and the session and the watch take it.
      pub did_one : (w : W) (s1 s2 : Session M ℕ) (v : W) (e : Event M) → s1 ≡ c.session → s2 ≡ after_event e s1 → is_shut (e ∷ []) ≡ false
          → DidRead reads meaning f (e ∷ []) f2 → IsProgress meaning f (e ∷ []) f2 → Follows sees loses overruns e s1 w true v
          → DidStep sees loses overruns reads meaning c w true (now_as s2) v
      did_one w s1 s2 v e e1 e2 open_ r p follows = record {
        reads_to = record {
          events = e ∷ [];
          saw = lift (e ∷ []) r;
          followed = (v, subst (λ (s : Session M ℕ). Follows sees loses overruns e s w true v) e1 follows, (e2 ∙ ap (after_event e) e1, refl));
          stays = stays (e ∷ []) s2 c.closed r;
          closes = λ k. only (either c.closed (is_shut (e ∷ [])) k);
          cause = inl refl;
        };
        goes = goes_on (e ∷ []) s2 p;
      }
        where
          only : (c.closed ≡ true) ⊎ (is_shut (e ∷ []) ≡ true) → c.closed ≡ true
          only (inl x) = x
          only (inr x) = let bad : true ≡ false = sym x ∙ open_ in cc

      -- Or the watch refuses it.
      pub missed_one : (w : W) (s1 s2 : Session M ℕ) (v : W) (e : Event M) → s1 ≡ c.session → s2 ≡ after_event e s1
          → DidRead reads meaning f (e ∷ []) f2 → Follows sees loses overruns e s1 w false v
          → Stopped sees loses overruns reads meaning c w (now_as s2) v
      missed_one w s1 s2 v e e1 e2 r follows = stopped_missed c (now_as s2) w v (record {
        event = e;
        saw = lift (e ∷ []) r;
        follows = subst (λ (s : Session M ℕ). Follows sees loses overruns e s w false v) e1 follows;
        session = e2 ∙ ap (after_event e) e1;
        stays = stays (e ∷ []) s2 c.closed r;
      })

      -- Or a datagram is fetched, and nothing is read of it yet.
      pub did_none : (w : W) (s1 : Session M ℕ) → s1 ≡ c.session → DidRead reads meaning f [] f2 → IsProgress {M = M} meaning f [] f2
          → DidStep sees loses overruns reads meaning c w true (now_as s1) w
      did_none w s1 e1 r p = record {
        reads_to =
            record {
              events = [];
              saw = lift [] r;
              followed =
                  (e1, refl);
              stays = stays [] s1 c.closed r;
              closes = closed_alone c.closed;
              cause = inl refl;
            };
        goes = goes_on [] s1 p;
      }

      -- Or the link isn't ready.
      pub did_wait : (w : W) (s1 : Session M ℕ) → s1 ≡ c.session → DidRead reads meaning f [] f2
          → HasRisen (meaning f.link).stalls (meaning f2.link).stalls → f2.reader ≡ []
          → (is_prompt (meaning f.link).manners ≡ true → IfSome (meaning f2.link).waits (λ waits. waits ≡ []))
          → DidStep sees loses overruns reads meaning c w false (now_as s1) w
      did_wait w s1 e1 r risen none prompt = record {
        reads_to =
            record {
              events = [];
              saw = lift [] r;
              followed =
                  (e1, refl);
              stays = stays [] s1 c.closed r;
              closes = closed_alone c.closed;
              cause = inl refl;
            };
        goes = inr (
          subst (λ l. HasRisen (meaning l).stalls (meaning f2.link).stalls) (sym link) risen,
          ap (waiting_in held.Nothing f2.source) none,
          λ p. prompt (sym (ap (λ l. is_prompt (meaning l).manners) link) ∙ p),
        );
      }

      -- Or it closed or failed.
      pub did_end : (w : W) (s1 : Session M ℕ) (es : List (Event M)) → s1 ≡ c.session → Followed sees loses overruns s1 w es s1 w
          → DidRead reads meaning f es f2
          → HasRisen (meaning f.link).closings (meaning f2.link).closings ⊎ (HasRisen (meaning f.link).faults (meaning f2.link).faults ×
          (is_prompt (meaning f.link).manners ≡ false))
          → DidStep sees loses overruns reads meaning c w false (record (now_as s1) { closed = true }) w
      did_end w s1 es e1 free r gone = record {
        reads_to = record {
          events = es;
          saw = lift es r;
          followed = subst (λ (s : Session M ℕ). Followed sees loses overruns s w es s1 w) e1 free;
          stays = stays es s1 true r;
          closes = λ k. refl;
          cause = inr (subst (λ l. HasRisen (meaning l).closings (meaning f2.link).closings ⊎ (HasRisen (meaning l).faults
              (meaning f2.link).faults × (is_prompt (meaning l).manners ≡ false))) (sym link) gone);
        };
        goes = inl refl;
      }

      -- A message that is read has a number left.
      pub has_number : (n : ℕ) (e : Event M) → arrived_in (e ∷ []) ≡ 1 → IsProgress meaning f (e ∷ []) f2
          → 16 * n + room_of meaning c ≤ 16 * (2 ^ 64 - 1) → n + 1 < 2 ^ 64
      has_number n e one p room =
          let g = (goes_on (e ∷ []) c.session p).within in
          by n (arrived_in (e ∷ [])) (room_of meaning c) (room_of meaning (now_as c.session)) one g room
        where
          by : (n k r r2 : ℕ) → k ≡ 1 → 16 * k + r2 ≤ r → 16 * n + r ≤ 16 * (2 ^ 64 - 1) → n + 1 < 2 ^ 64
          by n k r r2 one g room = omega (arith, one, g, room)

    -- A connection in which an overrun waits.
    module _ (c : Conn M S) (h : Held) (f : Framing S) (over : h ≡ held.Overrun) (none : IsHeld h f.reader)
        (waiting : c.waiting ≡ waiting_in h f.source f.reader) where
      abbrev pub passed_on : Session M ℕ → Conn M S
      passed_on s = record c { waiting = waiting_in held.Nothing f.source f.reader; session = s }

      waited : c.waiting ≡ arrival.Overrun ∷ []
      waited = waiting ∙ ap (λ k. waiting_in k f.source f.reader) over

      gone : waiting_in held.Nothing f.source f.reader ≡ []
      gone = ap (waiting_in held.Nothing f.source) (subst (λ k. IsHeld k f.reader) over none)

      saw_it : DidSee reads meaning c.link (flat_map (brings reads) c.waiting) (Overran ∷ []) c.link (flat_map (brings reads)
          (waiting_in held.Nothing f.source f.reader))
      saw_it =
          subst (λ (ws : List LinkArrival). DidSee reads meaning c.link (flat_map (brings reads) ws) (Overran ∷ []) c.link (flat_map
          (brings reads) (waiting_in held.Nothing f.source f.reader))) (sym waited)
          (subst (λ (ws : List LinkArrival). DidSee reads meaning c.link (Overran ∷ []) (Overran ∷ []) c.link (flat_map (brings reads) ws)) (sym gone)
          (record { taken = []; told = front_nil (meaning c.link).waits; seen = refl; later = later_same (meaning c.link); posted = refl; first = λ p. inl p }))

      progress_it : (s : Session M ℕ) → Progress meaning c (Overran ∷ []) (passed_on s)
      progress_it s =
          let a : loads_of c.waiting ≡ 16 = ap loads_of waited in
          let b : loads_of (waiting_in held.Nothing f.source f.reader) ≡ 0 = ap loads_of gone in
          let both = by (loads_of c.waiting) (loads_of (waiting_in held.Nothing f.source f.reader)) (meaning c.link).backlog a b in
          record { less = both.0; within = both.1 }
        where
          by : (w w2 k : ℕ) → w ≡ 16 → w2 ≡ 0 → (65537 * k + w2 < 65537 * k + w) × (16 * 1 + (65536 * k + w2) ≤ 65536 * k + w)
          by w w2 k a b = (omega (arith, a, b), omega (arith, a, b))

      pub did_overrun : (w : W) (s1 s2 : Session M ℕ) (v : W) → s1 ≡ c.session → s2 ≡ arrived_at overrun_arrival s1
          → Follows sees loses overruns Overran s1 w true v
          → DidStep sees loses overruns reads meaning c w true (passed_on s2) v
      did_overrun w s1 s2 v e1 e2 follows = record {
        reads_to = record {
          events = Overran ∷ [];
          saw = saw_it;
          followed = (
            v,
            subst (λ (s : Session M ℕ). Follows sees loses overruns Overran s w true v) e1 follows,
            (
              e2
                  ∙ ap (arrived_at overrun_arrival) e1,
              refl,
            ),
          );
          stays = refl;
          closes = closed_alone c.closed;
          cause = inl refl;
        };
        goes = progress_it s2;
      }

      pub missed_overrun : (w : W) (s1 s2 : Session M ℕ) (v : W) → s1 ≡ c.session → s2 ≡ arrived_at overrun_arrival s1
          → Follows sees loses overruns Overran s1 w false v
          → Stopped sees loses overruns reads meaning c w (passed_on s2) v
      missed_overrun w s1 s2 v e1 e2 follows = stopped_missed c (passed_on s2) w v (record {
        event = Overran;
        saw = saw_it;
        follows = subst (λ (s : Session M ℕ). Follows sees loses overruns Overran s w false v) e1 follows;
        session = e2 ∙ ap (arrived_at overrun_arrival) e1;
        stays = refl;
      })

      pub has_number_left : (n : ℕ) → 16 * n + room_of meaning c ≤ 16 * (2 ^ 64 - 1) → n + 1 < 2 ^ 64
      has_number_left n room = let a : loads_of c.waiting ≡ 16 = ap loads_of waited in by n (meaning c.link).backlog (loads_of c.waiting) a room
        where
          by : (n k w : ℕ) → w ≡ 16 → 16 * n + (65536 * k + w) ≤ 16 * (2 ^ 64 - 1) → n + 1 < 2 ^ 64
          by n k w a r = omega (arith, a, r)

    -- The same for a connection that is this one.
    pub number_for : (v c : Conn M S) → v ≡ c → (h : Held) → IsCalm h → (f f2 : Framing S) → v.link ≡ f.link
        → v.waiting ≡ waiting_in h f.source f.reader → v.unsent ≡ datagram_of f.writer f.destination
        → (e : Event M) → arrived_in (e ∷ []) ≡ 1 → IsProgress meaning f (e ∷ []) f2
        → 16 * c.session.arrived + room_of meaning c ≤ 16 * (2 ^ 64 - 1) → v.session.arrived + 1 < 2 ^ 64
    number_for v c is h calm f f2 link waiting unsent e one p room =
        has_number v h calm f f2 link waiting unsent v.session.arrived e one p (subst (λ
        (x : Conn M S). 16 * x.session.arrived + room_of meaning x ≤ 16 * (2 ^ 64 - 1)) (sym is) room)
