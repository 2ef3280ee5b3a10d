-- The dumps that run, after one event more.
use Rattle.std.proofs.Common.{◌≡◌, ◌==◌, ◌&&◌, ◌||◌, ℕ, Bool, true, false, not, cond, List, [], ◌∷◌, ◌++◌, map, flat_map, Option, None, refl, sym, ◌∙◌, ap}
use Rattle.std.specs.List.{filter, list_any, AllByRecursion}
use Rattle.mirror_model.specs.Tables.{Tables, Change, changed_maybe}
use Rattle.mirror_model.specs.TableEvents.{Reply, TableEvent, DumpAsked, DumpReply, Notified, Lost, LinkClosed, Unrelated, is_loss, is_end, interrupts, ends_dump}
use Rattle.mirror_model.specs.MirrorState.{RunningDump, notified, replied}
use Rattle.mirror_model.specs.Clean.{Dump, dumps, has_ended, change_for, changed_since, dump_table, as_running, running_dump}
use Rattle.mirror_model.specs.Orderly.{MayFollow}
use Rattle.mirror_model.proofs.CleanDumps.{more}
use Rattle.mirror_model.proofs.LastClean.{table_more}
use Rattle.mirror_model.proofs.Tests.{any_more, or_false}
use Rattle.mirror_model.proofs.Lists.{along, flat-map}

module _ {K V : Type 0} where
  -- One event more comes after each dump that was asked, and may ask one.
  pub dumps_more : (es : List (TableEvent K V)) (e : TableEvent K V) → dumps (es ++ e ∷ []) ≡ map (more e) (dumps es) ++ dumps (e ∷ [])
  dumps_more [] e = refl
  dumps_more (DumpAsked k ∷ es) e = ap (λ ds. more e (record { stream = k; later = es }) ∷ ds) (dumps_more es e)
  dumps_more (DumpReply r ∷ es) e = dumps_more es e
  dumps_more (Notified c ∷ es) e = dumps_more es e
  dumps_more (Lost ∷ es) e = dumps_more es e
  dumps_more (LinkClosed ∷ es) e = dumps_more es e
  dumps_more (Unrelated ∷ es) e = dumps_more es e

module _ {T K V : Type 0} (o : Tables T K V) where
  -- A dump by its parts, and the list of it unless it is over: ended (E) or lost (L). I says that it was interrupted.
  abbrev dump_of : ℕ → T → Bool → RunningDump T
  dump_of k t I = record { stream = k; table = t; interrupted = I }

  abbrev unless_over : Bool → RunningDump T → List (RunningDump T)
  unless_over over d = cond over [] (d ∷ [])

  -- One dump after one event more.
  abbrev one_more : ℕ → T → Bool → Bool → Bool → TableEvent K V → List (RunningDump T)
  one_more k t E L I e = unless_over ((E || ends_dump k e) || (L || is_loss e)) (dump_of k (changed_maybe o (change_for k e) t) (I || interrupts k e))

  abbrev dump_more : Dump K V → TableEvent K V → List (RunningDump T)
  dump_more d e = one_more d.stream (dump_table o d) (has_ended d) (list_any is_loss d.later) (list_any (interrupts d.stream) d.later) e

  -- That is what runs of it.
  running_dump-more : (e : TableEvent K V) (d : Dump K V) → running_dump o (more e d) ≡ dump_more d e
  running_dump-more e d =
      let k = d.stream in
      let es = d.later ++ e ∷ [] in
      let t = changed_since o k es o.empty in
      let I = list_any (interrupts k) es in
      let ended = has_ended d || ends_dump k e in
      let lost = list_any is_loss d.later || is_loss e in
      ap (λ b. unless_over (b || list_any is_loss es) (dump_of k t I)) (any_more (ends_dump k) d.later e)
      ∙ ap (λ b. unless_over (ended || b) (dump_of k t I)) (any_more is_loss d.later e)
      ∙ ap (λ x. unless_over (ended || lost) (dump_of k x I)) (table_more o k d.later e o.empty)
      ∙ ap (λ b. unless_over (ended || lost) (dump_of k (changed_maybe o (change_for k e) (dump_table o d)) b)) (any_more (interrupts k) d.later e)

  -- ---- the cases of one event

  -- An event that is no reply, no notification and no loss leaves it.
  pub left_alone : (k : ℕ) (t : T) (E L I : Bool) → unless_over ((E || false) || (L || false)) (dump_of k t (I || false)) ≡ unless_over (E || L) (dump_of k t I)
  left_alone k t true L I = refl
  left_alone k t false true I = refl
  left_alone k t false false I = ap (λ b. dump_of k t b ∷ []) (or_false I)

  -- A notification, a loss and a reply.
  pub after_notified : (c : Change K V) (k : ℕ) (t : T) (E L I : Bool)
      → one_more k t E L I (Notified c) ≡ map (notified o c) (unless_over (E || L) (dump_of k t I))
  after_notified c k t true L I = refl
  after_notified c k t false true I = refl
  after_notified c k t false false I = ap (λ b. dump_of k (o.changed c t) b ∷ []) (or_false I)

  -- A loss takes it away.
  pub after_loss : (k : ℕ) (t : T) (E L I : Bool) → one_more k t E L I Lost ≡ []
  after_loss k t true L I = refl
  after_loss k t false true I = refl
  after_loss k t false false I = refl

  after_reply : (k : ℕ) (t : T) (I i own en : Bool) (c : Option (Change K V))
      → unless_over ((own && en) || false) (dump_of k (changed_maybe o (cond own c None) t) (I || (own && i)))
      ≡ cond own (unless_over en (dump_of k (changed_maybe o c t) (I || i))) (dump_of k t I ∷ []) ++ []
  after_reply k t I i false en c = ap (λ b. dump_of k t b ∷ []) (or_false I)
  after_reply k t I i true true c = refl
  after_reply k t I i true false c = refl

  -- A reply changes it, or takes it away.
  pub after_replied : (r : Reply K V) (k : ℕ) (t : T) (E L I : Bool)
      → one_more k t E L I (DumpReply r) ≡ flat_map (replied o r) (unless_over (E || L) (dump_of k t I))
  after_replied r k t true L I = refl
  after_replied r k t false true I = gone ((r.stream == k) && is_end r.ending) _
    where
      gone : {A : Type 0} (b : Bool) (x : A) → cond (b || true) [] (x ∷ []) ≡ []
      gone true x = refl
      gone false x = refl
  after_replied r k t false false I = after_reply k t I r.interrupted (r.stream == k) (is_end r.ending) r.change

  -- Where a dump of another stream is asked, it stays.
  pub kept_beside : (k : ℕ) (d : Dump K V) → (k == d.stream) ≡ false
      → running_dump o d ≡ filter (λ (x : RunningDump T). not (k == x.stream)) (running_dump o d)
  kept_beside k d other =
      let D : RunningDump T = as_running o d in
      elim (has_ended d || list_any is_loss d.later) as (λ b. unless_over b D ≡ filter (λ (x : RunningDump T). not (k == x.stream)) (unless_over b D)) [
        | true ↦ refl
        | false ↦ sym (ap (λ b. cond (not b) (D ∷ []) []) other)
      ]

  -- ---- all dumps

  -- What an event does to each running dump, by a function that goes along lists, it does to all.
  pub running_more : (e : TableEvent K V) (h : List (RunningDump T) → List (RunningDump T)) → h [] ≡ []
      → ((xs ys : List (RunningDump T)) → h (xs ++ ys) ≡ h xs ++ h ys)
      → ((d : Dump K V) → MayFollow e d → dump_more d e ≡ h (running_dump o d))
      → (ds : List (Dump K V)) → AllByRecursion (MayFollow e) ds → flat_map (running_dump o) (map (more e) ds) ≡ h (flat_map (running_dump o) ds)
  running_more e h nil app each ds all =
      flat-map (more e) (running_dump o) ds
      ∙ along (running_dump o) (λ d. running_dump o (more e d)) h nil app (MayFollow e) (λ d next. running_dump-more e d ∙ each d next) ds all
