-- What the events of a session may be to a table, and what is known where one answers a dump or asks one.
use Rattle.std.proofs.Common.{◌≡◌, ◌+◌, ◌==◌, ◌&&◌, ◌||◌, ℕ, Bool, true, false, cond, List, [], ◌∷◌, ◌++◌, Option, Some, None, refl, sym, ◌∙◌, ap, subst, append_assoc}
use Rattle.std.specs.List.{list_any, AllByRecursion}
use Rattle.nl_core.specs.declared.message.NetlinkMessage.{NetlinkMessage}
use Rattle.session_model.specs.declared.awaited.Awaited.{Awaited}
use Rattle.session_model.specs.declared.address.SocketAddr.{SocketAddr}
use Rattle.session_model.specs.Events.{Event, Sent, Came, Unread, Leftover, Overran, Shut, Other}
use Rattle.session_model.specs.Awaited.{batch_count, first_awaiting, answers, is_last}
use Rattle.session_model.specs.Streams.{is_shut}
use Rattle.session_model.proofs.Places.{append-nil}
use Rattle.mirror_model.specs.Tables.{Change}
use Rattle.mirror_model.specs.TableEvents.{Ending, Continues, Reply, TableEvent, DumpAsked, DumpReply, Notified, Lost, LinkClosed, Unrelated, is_close, is_end, ends_dump, replies_to, asks_dump}
use Rattle.mirror_model.specs.Sessions.{Reader, answered, requests_dump, is_dump_from, change_of, tells_loss, reply_of, ending_by, ending_of, notified_of, arrival_event, table_event, table_events_from}
use Rattle.mirror_model.proofs.Tests.{and_left, and_right, same_number, some_inside}

-- What holds of both answers of a test holds of the one that it picks.
pub either : {A : Type 0} (P : A → Type 0) (b : Bool) (x y : A) → P x → P y → P (cond b x y)
either P true x y h g = h
either P false x y h g = g

-- What holds of all that is awaited holds of what a message answers, which it answers.
pub bearing : {S : Type 0} (Q : Awaited S → Type 0) (n p : ℕ) (ws : List (Awaited S)) (w : Awaited S)
    → AllByRecursion Q ws → first_awaiting n p ws ≡ Some w → Q w × (answers n p w ≡ true)
bearing Q n p [] w all h = cc
bearing Q n p (v ∷ ws) w all h =
    elim (answers n p v) as (λ b. answers n p v ≡ b → cond b (Some v) (first_awaiting n p ws) ≡ Some w → Q w × (answers n p w ≡ true)) [
      | true ↦ λ is h. subst (λ x. Q x × (answers n p x ≡ true)) (some_inside _ _ h) (all.0, is)
      | false ↦ λ is h. bearing Q n p ws w all.1 h
    ] refl h

end_of : (b : Bool) (e : Ending) → is_end (cond b e Continues) ≡ true → b ≡ true
end_of true e h = refl
end_of false e h = cc

module _ {K V : Type 0} where
  -- What ends a dump is a reply of it.
  pub end_replies : (k : ℕ) (s : TableEvent K V) → ends_dump k s ≡ true → replies_to k s ≡ true
  end_replies k (DumpAsked j) h = cc
  end_replies k (DumpReply x) h = first (x.stream == k) (is_end x.ending) h
    where
      first : (a b : Bool) → (a && b) ≡ true → (a && true) ≡ true
      first true b h = refl
      first false b h = cc
  end_replies k (Notified c) h = cc
  end_replies k Lost h = cc
  end_replies k LinkClosed h = cc
  end_replies k Unrelated h = cc

module _ {M K V : Type 0} (r : Reader M K V) where
  -- ---- what an event may be

  -- What holds of nothing and of each notification holds of an arrival that answers nothing.
  pub of_unsolicited : (P : TableEvent K V → Type 0) → P Unrelated → ((c : Change K V) → P (Notified c))
      → (b : Bool) (c : Option (Change K V)) → P (cond b (notified_of c) Unrelated)
  of_unsolicited P none some true None = none
  of_unsolicited P none some true (Some c) = some c
  of_unsolicited P none some false c = none

  -- What holds of these and of a loss and a reply holds of any arrival.
  pub of_arrival : (P : TableEvent K V → Type 0) → P Lost → P Unrelated → ((c : Change K V) → P (Notified c)) → ((x : Reply K V) → P (DumpReply x))
      → (loss : Bool) (dump : ℕ → Bool) (m : NetlinkMessage M) (source : SocketAddr) (found : Option (Awaited ℕ))
      → P (cond loss Lost (arrival_event r dump m source found))
  of_arrival P lost none some reply true dump m source found = lost
  of_arrival P lost none some reply false dump m source None = of_unsolicited P none some (source.port == r.peer) (change_of r m.payload)
  of_arrival P lost none some reply false dump m source (Some w) =
      either P (dump w.stream) _ _ (reply (reply_of r m w.stream (ending_of m w.acks))) none

  module _ (start : ℕ) where
    -- What holds of these holds of each event that sends nothing.
    pub of_arrived : (P : TableEvent K V → Type 0) → P Lost → P Unrelated → ((c : Change K V) → P (Notified c)) → ((x : Reply K V) → P (DumpReply x))
        → (before : List (Event M)) (m : NetlinkMessage M) (source : SocketAddr) → P (table_event r start before (Came m source))
    of_arrived P lost none some reply before m source =
        of_arrival P lost none some reply (tells_loss r m source) (is_dump_from r 0 before) m source (answered start before m source)

    -- ---- one event more, and closes

    -- What one more event is stands at the end.
    pub table_events-more : (b es : List (Event M)) (e : Event M)
        → table_events_from r start b (es ++ e ∷ []) ≡ table_events_from r start b es ++ table_event r start (b ++ es) e ∷ []
    table_events-more b [] e = ap (λ x. table_event r start x e ∷ []) (sym (append-nil b))
    table_events-more b (f ∷ es) e =
        ap (λ x. table_event r start b f ∷ x)
        (table_events-more (b ++ f ∷ []) es e
        ∙ ap (λ x. table_events_from r start (b ++ f ∷ []) es ++ table_event r start x e ∷ []) (append_assoc b (f ∷ []) es))

    abbrev IsOpen : TableEvent K V → Type 0
    IsOpen s = is_close s ≡ false

    closed_later : (b es : List (Event M)) (e : Event M) → is_close (table_event r start b e) ≡ false
        → list_any is_close (table_events_from r start (b ++ e ∷ []) es) ≡ is_shut es
        → list_any is_close (table_events_from r start b (e ∷ es)) ≡ is_shut es
    closed_later b es e h g = ap (λ x. x || list_any is_close (table_events_from r start (b ++ e ∷ []) es)) h ∙ g

    -- A table sees a close where the link has closed, and nowhere else.
    pub closed_as_shut : (b es : List (Event M)) → list_any is_close (table_events_from r start b es) ≡ is_shut es
    closed_as_shut b [] = refl
    closed_as_shut b (Sent to frames ∷ es) =
        closed_later b es (Sent to frames) (either IsOpen (requests_dump r frames) (DumpAsked (batch_count 0 b + 1)) Unrelated refl refl)
        (closed_as_shut (b ++ Sent to frames ∷ []) es)
    closed_as_shut b (Came m source ∷ es) =
        closed_later b es (Came m source) (of_arrived IsOpen refl refl (λ c. refl) (λ x. refl) b m source) (closed_as_shut (b ++ Came m source ∷ []) es)
    closed_as_shut b (Unread kind number source ∷ es) =
        closed_later b es (Unread kind number source) (either IsOpen ((source.port == r.peer) && r.loses kind) Lost Unrelated refl refl)
        (closed_as_shut (b ++ Unread kind number source ∷ []) es)
    closed_as_shut b (Leftover count source ∷ es) =
        closed_later b es (Leftover count source) (either IsOpen (source.port == r.peer) Lost Unrelated refl refl)
        (closed_as_shut (b ++ Leftover count source ∷ []) es)
    closed_as_shut b (Overran ∷ es) = closed_as_shut (b ++ Overran ∷ []) es
    closed_as_shut b (Shut ∷ es) = refl
    closed_as_shut b (Other aside ∷ es) = closed_as_shut (b ++ Other aside ∷ []) es

    -- ---- answers

    -- What is known where an event is a reply of stream k: a message that answers a number of this stream.
    pub record Answers (before : List (Event M)) (e : Event M) (k : ℕ) : Type 0 where
      pub message : NetlinkMessage M
      pub source : SocketAddr
      pub one : Awaited ℕ
      pub is : e ≡ Came message source
      pub bearer : answered start before message source ≡ Some one
      pub stream : one.stream ≡ k
      pub last : ends_dump k (table_event r start before e) ≡ true → is_last message one.acks ≡ true

    -- An event that is a reply of a stream is such a message.
    pub answers_of : (before : List (Event M)) (e : Event M) (k : ℕ) → replies_to k (table_event r start before e) ≡ true → Answers before e k
    answers_of before (Sent to frames) k h =
        either (λ s. replies_to k s ≡ true → Answers before (Sent to frames) k) (requests_dump r frames) (DumpAsked (batch_count 0 before + 1)) Unrelated
        (λ h. cc) (λ h. cc) h
    answers_of before (Came m source) k h = by_loss (tells_loss r m source) refl h
      where
        by_dump : (w : Awaited ℕ) → answered start before m source ≡ Some w
            → table_event r start before (Came m source) ≡ arrival_event r (is_dump_from r 0 before) m source (Some w)
            → (b : Bool) → is_dump_from r 0 before w.stream ≡ b → replies_to k (arrival_event r (is_dump_from r 0 before) m source (Some w)) ≡ true
            → Answers before (Came m source) k
        by_dump w found is true dumps h =
            let reply : TableEvent K V = DumpReply (reply_of r m w.stream (ending_of m w.acks)) in
            let same : arrival_event r (is_dump_from r 0 before) m source (Some w) ≡ reply = ap (λ b. cond b reply Unrelated) dumps in
            let own : (w.stream == k) ≡ true = and_left _ _ (sym (ap (replies_to k) same) ∙ h) in
            record {
              message = m;
              source = source;
              one = w;
              is = refl;
              bearer = found;
              stream = same_number w.stream k own;
              last =
                  λ e. end_of (is_last m w.acks) (ending_by m.payload) (and_right _ _ (sym (ap (ends_dump k) same)
                  ∙ sym (ap (ends_dump k) is) ∙ e));
            }
        by_dump w found is false dumps h =
            let reply : TableEvent K V = DumpReply (reply_of r m w.stream (ending_of m w.acks)) in
            let same : arrival_event r (is_dump_from r 0 before) m source (Some w) ≡ Unrelated = ap (λ b. cond b reply Unrelated) dumps in
            let never : false ≡ true = sym (ap (replies_to k) same) ∙ h in cc

        by_found : (found : Option (Awaited ℕ)) → answered start before m source ≡ found
            → table_event r start before (Came m source) ≡ arrival_event r (is_dump_from r 0 before) m source found
            → replies_to k (arrival_event r (is_dump_from r 0 before) m source found) ≡ true → Answers before (Came m source) k
        by_found None found is h =
            let none : replies_to k (arrival_event r (is_dump_from r 0 before) m source None) ≡ false
            = of_unsolicited (λ s. replies_to k s ≡ false) refl (λ c. refl) (source.port == r.peer) (change_of r m.payload) in
            let never : false ≡ true = sym none ∙ h in cc
        by_found (Some w) found is h = by_dump w found is _ refl h

        by_loss : (b : Bool) → tells_loss r m source ≡ b → replies_to k (table_event r start before (Came m source)) ≡ true
            → Answers before (Came m source) k
        by_loss true loss h =
            let same : table_event r start before (Came m source) ≡ Lost
            = ap (λ b. cond b Lost (arrival_event r (is_dump_from r 0 before) m source (answered start before m source))) loss in
            let never : false ≡ true = sym (ap (replies_to k) same) ∙ h in cc
        by_loss false loss h =
            let same : table_event r start before (Came m source) ≡ arrival_event r (is_dump_from r 0 before) m source (answered start before m source)
            = ap (λ b. cond b Lost (arrival_event r (is_dump_from r 0 before) m source (answered start before m source))) loss in
            by_found _ refl same (sym (ap (replies_to k) same) ∙ h)
    answers_of before (Unread kind number source) k h =
        either (λ s. replies_to k s ≡ true → Answers before (Unread kind number source) k) ((source.port == r.peer) && r.loses kind) Lost Unrelated
        (λ h. cc) (λ h. cc) h
    answers_of before (Leftover count source) k h =
        either (λ s. replies_to k s ≡ true → Answers before (Leftover count source) k) (source.port == r.peer) Lost Unrelated (λ h. cc) (λ h. cc) h
    answers_of before Overran k h = cc
    answers_of before Shut k h = cc
    answers_of before (Other aside) k h = cc

    -- A dump that is asked has the next stream.
    pub asked_next : (before : List (Event M)) (e : Event M) (k : ℕ) → asks_dump k (table_event r start before e) ≡ true
        → k ≡ batch_count 0 before + 1
    asked_next before (Sent to frames) k h =
        either (λ s. asks_dump k s ≡ true → k ≡ batch_count 0 before + 1) (requests_dump r frames) (DumpAsked (batch_count 0 before + 1)) Unrelated
        (λ h. sym (same_number _ _ h)) (λ h. cc) h
    asked_next before (Came m source) k h =
        of_arrived (λ s. asks_dump k s ≡ true → k ≡ batch_count 0 before + 1) (λ h. cc) (λ h. cc) (λ c h. cc) (λ x h. cc) before m source h
    asked_next before (Unread kind number source) k h =
        either (λ s. asks_dump k s ≡ true → k ≡ batch_count 0 before + 1) ((source.port == r.peer) && r.loses kind) Lost Unrelated (λ h. cc) (λ h. cc) h
    asked_next before (Leftover count source) k h =
        either (λ s. asks_dump k s ≡ true → k ≡ batch_count 0 before + 1) (source.port == r.peer) Lost Unrelated (λ h. cc) (λ h. cc) h
    asked_next before Overran k h = cc
    asked_next before Shut k h = cc
    asked_next before (Other aside) k h = cc
