-- The dump that ended last, after one event more: no dump ends cleanly, or one does and is the last.
use Rattle.std.proofs.Common.{◌≡◌, ◌==◌, ◌&&◌, ◌||◌, ℕ, Bool, true, false, not, cond, List, [], ◌∷◌, ◌++◌, map, flat_map, Option, Some, None, refl, sym, ◌∙◌, ap}
use Rattle.std.specs.Option.{option_map}
use Rattle.std.specs.List.{filter, list_any, AllByRecursion}
use Rattle.mirror_model.specs.Tables.{Tables, changed_maybe}
use Rattle.mirror_model.specs.TableEvents.{TableEvent, DumpAsked, DumpReply, Notified, Lost, LinkClosed, Unrelated, is_loss, is_finished, interrupts, finishes}
use Rattle.mirror_model.specs.MirrorState.{RunningDump, completes, in_force_after}
use Rattle.mirror_model.specs.Clean.{as_running, running_dump, Dump, has_ended, is_clean, events_after_end, ended_later, last_ended, last_clean, change_for, changed_since, dump_table}
use Rattle.mirror_model.specs.Orderly.{MayFollow}
use Rattle.mirror_model.proofs.Tests.{and_left, and_right, not_true, or_first, or_second, or_true, zero_below}
use Rattle.mirror_model.proofs.CleanDumps.{more, after_end-more, after_end-now, last_of, unanswered, finished_alone, finishing, clean_more, later_one_now, clean_finished, later_one_more}

complete_bools : (b fin I ri L : Bool) → L ≡ false → (((b && fin) && not (I || (b && ri))) && not L) ≡ ((b && fin) && not (I || ri))
complete_bools false fin I ri L h = refl
complete_bools true fin I ri true h = cc
complete_bools true fin I ri false h = and_true (fin && not (I || ri))
  where
    and_true : (a : Bool) → (a && true) ≡ a
    and_true true = refl
    and_true false = refl

module _ {T K V : Type 0} (o : Tables T K V) where
  -- One event more changes a dump's table last.
  pub table_more : (k : ℕ) (es : List (TableEvent K V)) (e : TableEvent K V) (table : T)
      → changed_since o k (es ++ e ∷ []) table ≡ changed_maybe o (change_for k e) (changed_since o k es table)
  table_more k [] e table = refl
  table_more k (f ∷ es) e table = table_more k es e (changed_maybe o (change_for k f) table)

  -- What a reply does to the table in force.
  abbrev pub force_by : TableEvent K V → Option (T) → List (RunningDump T) → Option (T)
  force_by (DumpAsked k) in_force ds = in_force
  force_by (DumpReply r) in_force ds = in_force_after o r in_force ds
  force_by (Notified c) in_force ds = in_force
  force_by Lost in_force ds = in_force
  force_by LinkClosed in_force ds = in_force
  force_by Unrelated in_force ds = in_force

  -- The event ends no dump cleanly.
  pub record Quiet (e : TableEvent K V) (ds : List (Dump K V)) : Type 0 where
    pub kept : last_clean (map (more e) ds) ≡ option_map (more e) (last_clean ds)
    pub in_force : (in_force : Option (T)) → force_by e in_force (flat_map (running_dump o) ds) ≡ in_force

  -- The event is the clean end of a dump.
  pub record Found (e : TableEvent K V) (ds : List (Dump K V)) : Type 0 where
    pub one : Dump K V
    pub is_last : last_clean (map (more e) ds) ≡ Some one
    pub now : events_after_end one.stream one.later ≡ 0
    pub in_force : (in_force : Option (T)) → force_by e in_force (flat_map (running_dump o) ds) ≡ Some (dump_table o one)

  -- One of the two.
  pub data Outcome (e : TableEvent K V) (ds : List (Dump K V)) : Type 0 where
    quiet : Quiet e ds → Outcome e ds
    found : Found e ds → Outcome e ds

  passes : (e : TableEvent K V) (d : Dump K V) (rest : List (RunningDump T)) (in_force : Option (T)) → finishing e d ≡ false
      → force_by e in_force (running_dump o d ++ rest) ≡ force_by e in_force rest
  passes (DumpAsked k) d rest in_force h = refl
  passes (DumpReply r) d rest in_force h =
      let D : RunningDump T = as_running o d in
      elim (has_ended d || list_any is_loss d.later) as (λ b. (has_ended d || list_any is_loss d.later) ≡ b
      → in_force_after o r in_force (cond b [] (D ∷ []) ++ rest) ≡ in_force_after o r in_force rest) [
        | true ↦ λ is. refl
        | false ↦ λ is.
            let unfinished : completes o r D ≡ false =
            sym (complete_bools (r.stream == d.stream) (is_finished r.ending) (list_any (interrupts d.stream) d.later) r.interrupted
            (list_any is_loss d.later) (or_second _ _ is))
            ∙ h in
            ap (λ b. cond b (Some (changed_maybe o r.change (dump_table o d))) (in_force_after o r in_force rest)) unfinished
      ] refl
  passes (Notified c) d rest in_force h = refl
  passes Lost d rest in_force h = refl
  passes LinkClosed d rest in_force h = refl
  passes Unrelated d rest in_force h = refl

  lands : (e : TableEvent K V) (d : Dump K V) (rest : List (RunningDump T)) (in_force : Option (T)) → MayFollow e d → finishing e d ≡ true
      → force_by e in_force (running_dump o d ++ rest) ≡ Some (dump_table o (more e d))
  lands (DumpAsked k) d rest in_force next h = cc
  lands (DumpReply r) d rest in_force next h =
      let D : RunningDump T = as_running o d in
      let own : (r.stream == d.stream) ≡ true = and_left _ _ (and_left _ _ (and_left _ _ h)) in
      let unlost : list_any is_loss d.later ≡ false = not_true _ (and_right _ _ h) in
      let runs : (has_ended d || list_any is_loss d.later) ≡ false =
      ap (λ b. b || list_any is_loss d.later) (still (r.stream == d.stream) (has_ended d) own (or_first _ _ next)) ∙ unlost in
      let done : completes o r D ≡ true =
      sym (complete_bools (r.stream == d.stream) (is_finished r.ending) (list_any (interrupts d.stream) d.later) r.interrupted
      (list_any is_loss d.later) unlost)
      ∙ h in
      ap (λ b. in_force_after o r in_force (cond b [] (D ∷ []) ++ rest)) runs
      ∙ ap (λ b. cond b (Some (changed_maybe o r.change (dump_table o d))) (in_force_after o r in_force rest)) done
      ∙ ap Some (sym (table_more d.stream d.later (DumpReply r) o.empty ∙ ap (λ b. changed_maybe o (cond b r.change None) (dump_table o d)) own))
    where
      still : (b ended : Bool) → b ≡ true → ((b && true) && ended) ≡ false → ended ≡ false
      still true ended h n = n
      still false ended h n = cc
  lands (Notified c) d rest in_force next h = cc
  lands Lost d rest in_force next h = cc
  lands LinkClosed d rest in_force next h = cc
  lands Unrelated d rest in_force next h = cc

  force_by-nil : (e : TableEvent K V) (in_force : Option (T)) → force_by e in_force [] ≡ in_force
  force_by-nil (DumpAsked k) in_force = refl
  force_by-nil (DumpReply r) in_force = refl
  force_by-nil (Notified c) in_force = refl
  force_by-nil Lost in_force = refl
  force_by-nil LinkClosed in_force = refl
  force_by-nil Unrelated in_force = refl

  not_finished : (e : TableEvent K V) (d : Dump K V) → MayFollow e d → finishing e d ≡ true → list_any (finishes d.stream) d.later ≡ false
  not_finished e d next h = by_test (list_any (finishes d.stream) d.later) refl
    where
      by_test : (b : Bool) → list_any (finishes d.stream) d.later ≡ b → list_any (finishes d.stream) d.later ≡ false
      by_test false is = is
      by_test true is =
          let now : finishes d.stream e ≡ true = and_left _ _ (and_left _ _ h) in
          let never : finishes d.stream e ≡ false = (unanswered d.stream e (finished_alone e d next is)).0 in
          let absurdity : true ≡ false = sym now ∙ never in cc

  -- one dump before the others
  joined : (e : TableEvent K V) (d : Dump K V) (ds : List (Dump K V)) → is_loss e ≡ false → MayFollow e d → AllByRecursion (MayFollow e) ds
      → Outcome e ds → (c g : Bool) → is_clean d ≡ c → finishing e d ≡ g → Outcome e (d ∷ ds)
  joined e d ds kept next all was c true is now = found (record {
    one = more e d;
    is_last =
        ap (λ b. last_ended (cond b (more e d ∷ filter is_clean (map (more e) ds)) (filter is_clean (map (more e) ds)))) (clean_more e d kept next
        ∙ ap (λ b. is_clean d || b) now ∙ or_true (is_clean d))
        ∙ ap Some (later_one_now (more e d) (last_clean (map (more e) ds)) at_end);
    now = at_end;
    in_force = λ in_force. lands e d (flat_map (running_dump o) ds) in_force next now;
  })
    where
      at_end : events_after_end d.stream (d.later ++ e ∷ []) ≡ 0
      at_end = after_end-now d.stream d.later e (not_finished e d next now) (and_left _ _ (and_left _ _ now))
  joined e d ds kept next all was false false is now = by_rest was
    where
      old : last_clean (d ∷ ds) ≡ last_clean ds
      old = ap (λ b. last_ended (cond b (d ∷ filter is_clean ds) (filter is_clean ds))) is

      new : last_clean (map (more e) (d ∷ ds)) ≡ last_clean (map (more e) ds)
      new =
          ap (λ b. last_ended (cond b (more e d ∷ filter is_clean (map (more e) ds)) (filter is_clean (map (more e) ds)))) (clean_more e d kept next
          ∙ ap (λ b. b || finishing e d) is ∙ now)

      by_rest : Outcome e ds → Outcome e (d ∷ ds)
      by_rest (quiet q) = quiet (record {
        kept = new ∙ q.kept ∙ ap (option_map (more e)) (sym old);
        in_force = λ in_force. passes e d (flat_map (running_dump o) ds) in_force now ∙ q.in_force in_force;
      })
      by_rest (found f) = found (record {
        one = f.one;
        is_last = new ∙ f.is_last;
        now = f.now;
        in_force = λ in_force. passes e d (flat_map (running_dump o) ds) in_force now ∙ f.in_force in_force;
      })
  joined e d ds kept next all was true false is now = by_rest was
    where
      old : last_clean (d ∷ ds) ≡ Some (ended_later d (last_clean ds))
      old = ap (λ b. last_ended (cond b (d ∷ filter is_clean ds) (filter is_clean ds))) is

      new : last_clean (map (more e) (d ∷ ds)) ≡ Some (ended_later (more e d) (last_clean (map (more e) ds)))
      new =
          ap (λ b. last_ended (cond b (more e d ∷ filter is_clean (map (more e) ds)) (filter is_clean (map (more e) ds)))) (clean_more e d kept next
          ∙ ap (λ b. b || finishing e d) is)

      by_rest : Outcome e ds → Outcome e (d ∷ ds)
      by_rest (quiet q) = quiet (record {
        kept = new ∙ ap (λ x. Some (ended_later (more e d) x)) q.kept
            ∙ ap Some (later_one_more e d (last_clean ds) is (λ y h. (last_of (MayFollow e) ds all y h).1)) ∙ ap (option_map (more e)) (sym old);
        in_force = λ in_force. passes e d (flat_map (running_dump o) ds) in_force now ∙ q.in_force in_force;
      })
      by_rest (found f) = found (record {
        one = f.one;
        is_last = new ∙ ap (λ x. Some (ended_later (more e d) x)) f.is_last
            ∙ ap (λ b. Some (cond b f.one (more e d)))
            (zero_below (events_after_end f.one.stream f.one.later) (events_after_end d.stream (d.later ++ e ∷ [])) (events_after_end d.stream d.later)
            f.now (after_end-more d.stream d.later e (clean_finished d is)));
        now = f.now;
        in_force = λ in_force. passes e d (flat_map (running_dump o) ds) in_force now ∙ f.in_force in_force;
      })

  -- An event that is no loss ends no dump cleanly or is the clean end of one.
  pub outcome : (e : TableEvent K V) (ds : List (Dump K V)) → is_loss e ≡ false → AllByRecursion (MayFollow e) ds → Outcome e ds
  outcome e [] kept all = quiet (record { kept = refl; in_force = λ in_force. force_by-nil e in_force })
  outcome e (d ∷ ds) kept all = joined e d ds kept all.0 all.1 (outcome e ds kept all.1) _ _ refl refl
