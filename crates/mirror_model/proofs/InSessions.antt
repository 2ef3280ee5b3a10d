-- At each place of a session where a mirror is in step, its table is its peer's.
use Rattle.std.proofs.Common.{◌≡◌, ℕ, suc, true, false, not, List, [], ◌∷◌, ◌++◌, length, Option, Some, None, refl, sym, ◌∙◌, ap, subst, append_assoc}
use Rattle.std.specs.List.{list_any, AllByRecursion}
use Rattle.std.specs.FinMap.{FinMap, IsAntisymmetric, same_map}
use Rattle.std.specs.Cmp.{IsTotalOrder}
use Rattle.std.specs.declared.cmp.Ordering.{Ordering}
use Rattle.session_model.specs.Events.{Event}
use Rattle.std.specs.Option.{is_some}
use Rattle.mirror_model.specs.TableEvents.{is_close}
use Rattle.mirror_model.specs.Honest.{IsHonest}
use Rattle.mirror_model.specs.Clean.{dumps, is_in_step_at, table_at}
use Rattle.mirror_model.specs.FiniteTables.{finite}
use Rattle.mirror_model.specs.Sessions.{Reader, table_events, table_events_from, table_event, AsksAlone}
use Rattle.mirror_model.proofs.Convergence.{convergence}
use Rattle.mirror_model.proofs.StateOfEvents.{afresh, some_clean}
use Rattle.mirror_model.proofs.FiniteTables.{finite_maps}
use Rattle.mirror_model.proofs.Orderly.{orderly}
use Rattle.session_model.proofs.Places.{append-nil}
use Rattle.mirror_model.proofs.Tests.{and_right}

module _ {M K V : Type 0} (r : Reader M K V) where
  table_events-append : (start : ℕ) (b before later : List (Event M))
      → table_events_from r start b (before ++ later) ≡ table_events_from r start b before ++ table_events_from r start (b ++ before) later
  table_events-append start b [] later = ap (λ x. table_events_from r start x later) (sym (append-nil b))
  table_events-append start b (e ∷ before) later =
      ap (λ x. table_event r start b e ∷ x) (table_events-append start (b ++ e ∷ []) before later
      ∙ ap (λ x. table_events_from r start (b ++ e ∷ []) before ++ table_events_from r start x later) (append_assoc b (e ∷ []) before))

  table_events-length : (start : ℕ) (b es : List (Event M)) → length (table_events_from r start b es) ≡ length es
  table_events-length start b [] = refl
  table_events-length start b (e ∷ es) = ap suc (table_events-length start (b ++ e ∷ []) es)

  -- A table that is in force at a place of a session is the peer's there.
  pub table_in_sessions : (order : K → K → Ordering) (start : ℕ) (history : ℕ → FinMap order V) (before later : List (Event M)) (table : FinMap order V)
      → IsTotalOrder order → IsAntisymmetric order → AllByRecursion (AsksAlone r) before
      → IsHonest (finite order) history (table_events r start (before ++ later))
      → table_at (finite order) (table_events r start before) ≡ Some table → table ≡ history (length before)
  table_in_sessions order start history before later table total anti alone honest is =
      let state = afresh (finite order) (table_events r start before) (orderly r start before alone) in
      let split : IsHonest (finite order) history (table_events r start before ++ table_events_from r start before later)
      = subst (IsHonest (finite order) history) (table_events-append start [] before later) honest in
      let alike
      = convergence (finite order) (finite_maps order total) history (table_events r start before) (table_events_from r start before later) table split
      (state.in_force
      ∙ is) in
      same_map total anti table (history (length (table_events r start before))) alike ∙ ap history (table_events-length start [] before)

  -- In step there is such a table.
  pub in_sessions : (order : K → K → Ordering) → IsTotalOrder order → IsAntisymmetric order
      → (start : ℕ) (history : ℕ → FinMap order V) (before later : List (Event M)) → AllByRecursion (AsksAlone r) before
      → IsHonest (finite order) history (table_events r start (before ++ later)) → is_in_step_at (table_events r start before) ≡ true
      → table_at (finite order) (table_events r start before) ≡ Some (history (length before))
  in_sessions order total anti start history before later alone honest step = by_table (table_at (finite order) (table_events r start before)) refl
    where
      there : is_some (table_at (finite order) (table_events r start before)) ≡ true
      there =
          some_clean (finite order) (dumps (table_events r start before))
          ∙ and_right (not (list_any is_close (table_events r start before))) _ step

      by_table : (t : Option (FinMap order V)) → table_at (finite order) (table_events r start before) ≡ t
          → table_at (finite order) (table_events r start before) ≡ Some (history (length before))
      by_table None is = let never : false ≡ true = sym (ap is_some is) ∙ there in cc
      by_table (Some table) is =
          is ∙ ap Some (table_in_sessions order start history before later table total anti alone honest is)
