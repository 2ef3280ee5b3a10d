-- The state of a mirror that takes one event after another is what the list of events gives.
use Rattle.std.proofs.Common.{◌≡◌, ◌==◌, ◌&&◌, ◌||◌, Bool, true, false, not, cond, List, [], ◌∷◌, ◌++◌, map, flat_map, Option, Some, None, refl, sym, ◌∙◌, ap, subst, append_assoc}
use Rattle.std.specs.List.{filter, list_any, AllByRecursion}
use Rattle.std.specs.Option.{is_some, option_map}
use Rattle.mirror_model.specs.Tables.{Tables, changed_maybe}
use Rattle.mirror_model.specs.TableEvents.{Reply, TableEvent, DumpAsked, DumpReply, Notified, Lost, LinkClosed, Unrelated, is_loss, is_close, is_finished, is_end, interrupts, finishes, replies_to}
use Rattle.mirror_model.specs.MirrorState.{RunningDump, MirrorState, fresh, begun, notified, notified_in_force, with_reply, replied, in_force_after, step, state_after}
use Rattle.mirror_model.specs.Clean.{Dump, dumps, has_ended, is_clean, last_ended, last_clean, dump_table, table_of, table_at, running_dump, running_at, IsStateAt}
use Rattle.mirror_model.specs.Orderly.{MayFollow, OrderlyFrom, AreOrderly}
use Rattle.mirror_model.proofs.CleanDumps.{more, last_of, finished_alone, clean_finished}
use Rattle.mirror_model.proofs.LastClean.{table_more, force_by, Outcome, quiet, found, Found, outcome}
use Rattle.session_model.proofs.Places.{append-nil, filter-append}
use Rattle.mirror_model.proofs.Tests.{any_more, or_false, or_true}
use Rattle.mirror_model.proofs.Lists.{flat-append, map-append}
use Rattle.mirror_model.proofs.RunningAfter.{dumps_more, left_alone, after_notified, after_loss, after_replied, kept_beside, running_more}

never_none : {A : Type 0} (o : Option A) (x : A) → o ≡ None → o ≡ Some x → ⊥
never_none o x h g = cc

module _ {T K V : Type 0} (o : Tables T K V) where
  -- What an unsolicited change does to the table in force.
  abbrev heard_by : TableEvent K V → Option (T) → Option (T)
  heard_by (DumpAsked k) in_force = in_force
  heard_by (DumpReply r) in_force = in_force
  heard_by (Notified c) in_force = notified_in_force o c in_force
  heard_by Lost in_force = in_force
  heard_by LinkClosed in_force = in_force
  heard_by Unrelated in_force = in_force

  one_table : (e : TableEvent K V) (y : Dump K V) → replies_to y.stream e ≡ false → table_of o (Some (more e y)) ≡ heard_by e (table_of o (Some y))
  one_table (DumpAsked k) y h = ap Some (table_more o y.stream y.later (DumpAsked k) o.empty)
  one_table (DumpReply r) y h =
      ap Some (table_more o y.stream y.later (DumpReply r) o.empty
      ∙ ap (λ b. changed_maybe o (cond b r.change None) (dump_table o y)) (and_false_first (r.stream == y.stream) h))
    where
      and_false_first : (b : Bool) → (b && true) ≡ false → b ≡ false
      and_false_first true h = cc
      and_false_first false h = refl
  one_table (Notified c) y h = ap Some (table_more o y.stream y.later (Notified c) o.empty)
  one_table Lost y h = ap Some (table_more o y.stream y.later Lost o.empty)
  one_table LinkClosed y h = ap Some (table_more o y.stream y.later LinkClosed o.empty)
  one_table Unrelated y h = ap Some (table_more o y.stream y.later Unrelated o.empty)

  found_table : (e : TableEvent K V) (ds : List (Dump K V)) (f : Found o e ds) (in_force : Option (T))
      → Some (dump_table o f.one) ≡ heard_by e (force_by o e in_force (flat_map (running_dump o) ds))
  found_table (DumpAsked k) ds f in_force = absurd (never_none _ _ refl (f.in_force None))
  found_table (DumpReply r) ds f in_force = sym (f.in_force in_force)
  found_table (Notified c) ds f in_force = absurd (never_none _ _ refl (f.in_force None))
  found_table Lost ds f in_force = absurd (never_none _ _ refl (f.in_force None))
  found_table LinkClosed ds f in_force = absurd (never_none _ _ refl (f.in_force None))
  found_table Unrelated ds f in_force = absurd (never_none _ _ refl (f.in_force None))

  force_more : (e : TableEvent K V) (ds : List (Dump K V)) → is_loss e ≡ false → AllByRecursion (MayFollow e) ds
      → table_of o (last_clean (map (more e) ds)) ≡ heard_by e (force_by o e (table_of o (last_clean ds)) (flat_map (running_dump o) ds))
  force_more e ds kept all = by_outcome (outcome o e ds kept all)
    where
      by_last : (last : Option (Dump K V)) → last_clean ds ≡ last → table_of o (option_map (more e) last) ≡ heard_by e (table_of o last)
      by_last None is = by_event e
        where
          by_event : (e : TableEvent K V) → None ≡ heard_by e None
          by_event (DumpAsked k) = refl
          by_event (DumpReply r) = refl
          by_event (Notified c) = refl
          by_event Lost = refl
          by_event LinkClosed = refl
          by_event Unrelated = refl
      by_last (Some y) is =
          let known = last_of (MayFollow e) ds all y is in
          one_table e y (finished_alone e y known.0 (clean_finished y known.1))

      by_outcome : Outcome o e ds
          → table_of o (last_clean (map (more e) ds)) ≡ heard_by e (force_by o e (table_of o (last_clean ds)) (flat_map (running_dump o) ds))
      by_outcome (quiet q) = ap (table_of o) q.kept ∙ by_last (last_clean ds) refl ∙ ap (heard_by e) (sym (q.in_force (table_of o (last_clean ds))))
      by_outcome (found f) = ap (table_of o) f.is_last ∙ found_table e ds f (table_of o (last_clean ds))

  none_clean : (ds : List (Dump K V)) → last_clean (map (more Lost) ds) ≡ None
  none_clean [] = refl
  none_clean (d ∷ ds) =
      ap (λ b. last_ended (cond b (more Lost d ∷ filter is_clean (map (more Lost) ds)) (filter is_clean (map (more Lost) ds)))) unclean
      ∙ none_clean ds
    where
      lost : list_any is_loss (d.later ++ Lost ∷ []) ≡ true
      lost = any_more is_loss d.later Lost ∙ or_true (list_any is_loss d.later)

      and_not : (a : Bool) → (a && false) ≡ false
      and_not true = refl
      and_not false = refl

      unclean : is_clean (more Lost d) ≡ false
      unclean =
          ap (λ b. (list_any (finishes d.stream) (d.later ++ Lost ∷ []) && not (list_any (interrupts d.stream) (d.later ++ Lost ∷ []))) && not b) lost
          ∙ and_not _

  -- the machine beside the list
  pub record Stands (m : MirrorState T) (es : List (TableEvent K V)) : Type 0 where
    pub closed : m.closed ≡ list_any is_close es
    pub in_force : m.in_force ≡ table_at o es
    pub running : m.running ≡ running_at o es

  plain_dumps : (es : List (TableEvent K V)) (e : TableEvent K V) → dumps (e ∷ []) ≡ [] → dumps (es ++ e ∷ []) ≡ map (more e) (dumps es)
  plain_dumps es e h = dumps_more es e ∙ ap (λ ds. map (more e) (dumps es) ++ ds) h ∙ append-nil (map (more e) (dumps es))

  still_closed : (m : MirrorState T) (es : List (TableEvent K V)) (e : TableEvent K V) → is_close e ≡ false
      → m.closed ≡ list_any is_close es → m.closed ≡ list_any is_close (es ++ e ∷ [])
  still_closed m es e h s = s ∙ sym (any_more is_close es e ∙ ap (λ b. list_any is_close es || b) h ∙ or_false (list_any is_close es))

  stands_next : (m : MirrorState T) (es : List (TableEvent K V)) (e : TableEvent K V) → AllByRecursion (MayFollow e) (dumps es)
      → Stands m es → Stands (step o e m) (es ++ e ∷ [])
  stands_next m es (DumpAsked k) all s = record {
    closed = still_closed m es (DumpAsked k) refl s.closed;
    in_force =
        let xs = map (more (DumpAsked k)) (dumps es) in
        s.in_force ∙ sym (ap (λ ds. table_of o (last_clean ds)) (dumps_more es (DumpAsked k))
        ∙ ap (λ ds. table_of o (last_ended ds)) (filter-append is_clean xs (dumps (DumpAsked k ∷ [])) ∙ append-nil (filter is_clean xs))
        ∙ force_more (DumpAsked k) (dumps es) refl all);
    running =
        ap (λ ds. filter (λ (x : RunningDump T). not (k == x.stream)) ds ++ begun o k ∷ []) s.running
        ∙ sym (ap (flat_map (running_dump o)) (dumps_more es (DumpAsked k))
        ∙ flat-append (running_dump o) (map (more (DumpAsked k)) (dumps es)) (dumps (DumpAsked k ∷ []))
        ∙ ap (λ ds. ds ++ begun o k ∷ []) (running_more o (DumpAsked k) (filter (λ (x : RunningDump T). not (k == x.stream))) refl (filter-append _)
        (λ d next. left_alone o d.stream (dump_table o d) (has_ended d) (list_any is_loss d.later) (list_any (interrupts d.stream) d.later)
        ∙ kept_beside o k d next) (dumps es) all));
  }
  stands_next m es (DumpReply r) all s = record {
    closed = still_closed m es (DumpReply r) refl s.closed;
    in_force =
        ap (λ f. in_force_after o r f m.running) s.in_force ∙ ap (λ ds. in_force_after o r (table_at o es) ds) s.running
        ∙ sym (ap (λ ds. table_of o (last_clean ds)) (plain_dumps es (DumpReply r) refl) ∙ force_more (DumpReply r) (dumps es) refl all);
    running =
        ap (flat_map (replied o r)) s.running
        ∙ sym (ap (flat_map (running_dump o)) (plain_dumps es (DumpReply r) refl)
        ∙ running_more o (DumpReply r) (flat_map (replied o r)) refl (flat-append (replied o r))
        (λ d next. after_replied o r d.stream (dump_table o d) (has_ended d) (list_any is_loss d.later) (list_any (interrupts d.stream) d.later))
        (dumps es) all);
  }
  stands_next m es (Notified c) all s = record {
    closed = still_closed m es (Notified c) refl s.closed;
    in_force =
        ap (notified_in_force o c) s.in_force
        ∙ sym (ap (λ ds. table_of o (last_clean ds)) (plain_dumps es (Notified c) refl) ∙ force_more (Notified c) (dumps es) refl all);
    running =
        ap (map (notified o c)) s.running
        ∙ sym (ap (flat_map (running_dump o)) (plain_dumps es (Notified c) refl)
        ∙ running_more o (Notified c) (map (notified o c)) refl (map-append (notified o c))
        (λ d next. after_notified o c d.stream (dump_table o d) (has_ended d) (list_any is_loss d.later) (list_any (interrupts d.stream) d.later))
        (dumps es) all);
  }
  stands_next m es Lost all s = record {
    closed = still_closed m es Lost refl s.closed;
    in_force = sym (ap (λ ds. table_of o (last_clean ds)) (plain_dumps es Lost refl) ∙ ap (table_of o) (none_clean (dumps es)));
    running = sym (ap (flat_map (running_dump o)) (plain_dumps es Lost refl)
        ∙ running_more o Lost (λ ds. []) refl (λ xs ys. refl)
        (λ d next. after_loss o d.stream (dump_table o d) (has_ended d) (list_any is_loss d.later) (list_any (interrupts d.stream) d.later)) (dumps es) all);
  }
  stands_next m es LinkClosed all s = record {
    closed = sym (any_more is_close es LinkClosed ∙ or_true (list_any is_close es));
    in_force = s.in_force ∙ sym (ap (λ ds. table_of o (last_clean ds)) (plain_dumps es LinkClosed refl) ∙ force_more LinkClosed (dumps es) refl all);
    running = s.running ∙ sym (ap (flat_map (running_dump o)) (plain_dumps es LinkClosed refl)
        ∙ running_more o LinkClosed (λ ds. ds) refl (λ xs ys. refl)
        (λ d next. left_alone o d.stream (dump_table o d) (has_ended d) (list_any is_loss d.later) (list_any (interrupts d.stream) d.later)) (dumps es) all);
  }
  stands_next m es Unrelated all s = record {
    closed = still_closed m es Unrelated refl s.closed;
    in_force = s.in_force ∙ sym (ap (λ ds. table_of o (last_clean ds)) (plain_dumps es Unrelated refl) ∙ force_more Unrelated (dumps es) refl all);
    running = s.running ∙ sym (ap (flat_map (running_dump o)) (plain_dumps es Unrelated refl)
        ∙ running_more o Unrelated (λ ds. ds) refl (λ xs ys. refl)
        (λ d next. left_alone o d.stream (dump_table o d) (has_ended d) (list_any is_loss d.later) (list_any (interrupts d.stream) d.later)) (dumps es) all);
  }

  stands_after : (before es : List (TableEvent K V)) (m : MirrorState T) → OrderlyFrom before es → Stands m before
      → Stands (state_after o es m) (before ++ es)
  stands_after before [] m h s = subst (Stands m) (sym (append-nil before)) s
  stands_after before (e ∷ es) m h s =
      subst (Stands (state_after o es (step o e m))) (append_assoc before (e ∷ []) es)
      (stands_after (before ++ e ∷ []) es (step o e m) h.1 (stands_next m before e h.0 s))

  -- There is a table exactly where some dump is clean.
  pub some_clean : (ds : List (Dump K V)) → is_some (table_of o (last_clean ds)) ≡ list_any is_clean ds
  some_clean [] = refl
  some_clean (d ∷ ds) =
      let clean = filter is_clean ds in
      elim (is_clean d) as (λ b. is_some (table_of o (last_ended (cond b (d ∷ clean) clean))) ≡ (b || list_any is_clean ds)) [
        | true ↦ refl
        | false ↦ some_clean ds
      ]

  -- The state after events is what the list of events gives.
  pub afresh : (es : List (TableEvent K V)) → AreOrderly es → IsStateAt o es (state_after o es fresh)
  afresh es h =
      let s : Stands (state_after o es fresh) es = stands_after [] es fresh h (record { closed = refl; in_force = refl; running = refl }) in
      record {
        closed = s.closed;
        in_force = s.in_force;
        running = s.running;
        in_step =
            ap (λ b. not b && is_some (state_after o es fresh).in_force) s.closed
            ∙ ap (λ f. not (list_any is_close es) && is_some f) s.in_force
            ∙ ap (λ b. not (list_any is_close es) && b) (some_clean (dumps es));
      }

  -- a reply of a stream that no dump has
  pub ignored : (r : Reply K V) (m : MirrorState T) → AllByRecursion (λ (d : RunningDump T). (r.stream == d.stream) ≡ false) m.running
      → step o (DumpReply r) m ≡ m
  ignored r m all =
      ap (λ f. record { closed = m.closed; in_force = f; running = flat_map (replied o r) m.running }) (same_force m.running all)
      ∙ ap (λ ds. record { closed = m.closed; in_force = m.in_force; running = ds }) (same_dumps m.running all)
    where
      same_force : (ds : List (RunningDump T)) → AllByRecursion (λ (d : RunningDump T). (r.stream == d.stream) ≡ false) ds
          → in_force_after o r m.in_force ds ≡ m.in_force
      same_force [] all = refl
      same_force (d ∷ ds) all =
          let left = in_force_after o r m.in_force ds in
          ap (λ b. cond ((b && is_finished r.ending) && not (d.interrupted || r.interrupted)) (Some (changed_maybe o r.change d.table)) left) all.0
          ∙ same_force ds all.1

      same_dumps : (ds : List (RunningDump T)) → AllByRecursion (λ (d : RunningDump T). (r.stream == d.stream) ≡ false) ds
          → flat_map (replied o r) ds ≡ ds
      same_dumps [] all = refl
      same_dumps (d ∷ ds) all =
          ap (λ b. cond b (cond (is_end r.ending) [] (with_reply o r d ∷ [])) (d ∷ []) ++ flat_map (replied o r) ds) all.0
          ∙ ap (λ xs. d ∷ xs) (same_dumps ds all.1)
