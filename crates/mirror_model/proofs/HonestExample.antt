-- A history that is honest for an example's events, so that what is asked of a peer can be met.
use Rattle.std.proofs.Common.{◌≡◌, ℕ, Bool, true, false, cond, List, [], ◌∷◌, nat_lt, Option, Some, None, refl}
use Rattle.mirror_model.specs.TableEvents.{TableEvent, Continues, Finished, Notified}
use Rattle.mirror_model.specs.Honest.{IsHonest, is_accounted_for}
use Rattle.mirror_model.specs.Example.{two_keys, same_bool, dump_reply, put, deleted, followed}
use Rattle.mirror_model.proofs.WholeDumps.{whole_by_test}

-- What comes after the dump was asked.
abbrev later : List (TableEvent Bool ℕ)
later =
    dump_reply 1 (Some (put false 5)) false Continues
    ∷ dump_reply 1 (Some (put true 7)) false Continues
    ∷ Notified (deleted true)
    ∷ dump_reply 1 None false Finished
    ∷ []

-- The peer's table while the dump runs, and after the deletion that comes before its end.
abbrev table_before : Bool → Option ℕ
table_before true = Some 7
table_before false = Some 5

abbrev table_after : Bool → Option ℕ
table_after true = None
table_after false = Some 5

abbrev history : ℕ → Bool → Option ℕ
history n = cond (nat_lt n 4) table_before table_after

-- This history is honest.
pub is_honest : IsHonest two_keys history followed
is_honest = (
  (λ k. refl),
  whole_by_test two_keys 1 table_before later known,
  ((put_false, λ k. refl), tt, ((put_true, λ k. refl), tt, (gone, tt, (((λ k. refl), λ k. refl), tt, tt)))),
)
  where
    known : (key : Bool) (value : ℕ) → table_before key ≡ Some value
        → is_accounted_for two_keys 1 key later ≡ true
    known true value h = refl
    known false value h = refl

    put_false : (k : Bool) → cond (same_bool k false) (Some 5) (table_before k) ≡ table_before k
    put_false true = refl
    put_false false = refl

    put_true : (k : Bool) → cond (same_bool k true) (Some 7) (table_before k) ≡ table_before k
    put_true true = refl
    put_true false = refl

    gone : (k : Bool) → table_after k ≡ cond (same_bool k true) None (table_before k)
    gone true = refl
    gone false = refl
