-- The streams of the replies that wait are those that were given.
use Rattle.std.proofs.Common.{◌≡◌, ◌+◌, ◌-◌, ◌<◌, ◌≤◌, ◌||◌, ◌==◌, inl, inr, ℕ, Bool, true, false, nat_lt, List, [], ◌∷◌, length, refl, sym, ◌∙◌, ap, arith}
use Rattle.std.specs.List.{AllByRecursion}
use Rattle.std.proofs.lemmas.Bool.{cases_lt}
use Rattle.std.proofs.lemmas.Bool.Decides.{nat_tests}
use Rattle.std.proofs.lemmas.List.{get_or_past}
use Rattle.proto_core.specs.Session.{Session}
use Rattle.proto_core.specs.declared.messages.Response.{Response}
use Rattle.proto_conn.specs.declared.tally.Tally.{Tally}
use Rattle.proto_conn.specs.Tallies.{AreBelow, IsTallied, Tallied, no_tally, replies_of, tally_at}

same_is : (k : ℕ) → (k == k) ≡ true
same_is k = grind (arith, nat_tests)

or_later : (b c : Bool) → c ≡ true → (b || c) ≡ true
or_later true c e = refl
or_later false c e = e

all_below : {T : Type 0} (n : ℕ) (rs : List (Response T ℕ)) → AllByRecursion (λ (r : Response T ℕ). 0 < r.metadata) rs
    → ((m : ℕ) → 0 < m → replies_of m rs ≡ true → m < n) → AreBelow n rs
all_below n [] named h = tt
all_below n (r ∷ rs) named h = (
  h r.metadata named.0 (ap (λ b. b || replies_of r.metadata rs) (same_is r.metadata)),
  all_below n rs named.1 (λ m first e. h m first (or_later (r.metadata == m) (replies_of m rs) e)),
)

-- A stream that isn't given has no reply.
none_past : (t : Tallied) (k : ℕ) → length t.streams ≤ k → nat_lt t.handed (tally_at t.streams k).newest ≡ false
none_past t k past =
    let none = ap (λ (x : Tally). x.newest) (get_or_past t.streams k no_tally past) in
    ap (nat_lt t.handed) none ∙ never t.handed
  where
    never : (n : ℕ) → nat_lt n 0 ≡ false
    never n = grind (arith, nat_tests)

-- The replies that wait are of streams that were given, which are below a number.
pub replies_below : {T : Type 0} (s : Session T ℕ) (t : Tallied) (given n : ℕ) → IsTallied s.awaited s.responses s.arrived t → length t.streams ≡ given
    → (0 < given → given < n) → AreBelow n s.responses
replies_below {T} s t given n h len known = all_below n s.responses h.answered below
  where
    within : (m : ℕ) → 0 < m → replies_of m s.responses ≡ true → m ≤ given
    within m first e = elim (cases_lt (m - 1) (length t.streams)) [
      | inl less ↦ omega (arith, less, len, first)
      | inr more ↦
          let number : (m - 1) + 1 ≡ m = omega (arith, first) in
          let some : nat_lt t.handed (tally_at t.streams (m - 1)).newest ≡ true = h.replies (m - 1) ∙ ap (λ k. replies_of k s.responses) number ∙ e in
          let none = none_past t (m - 1) more in
          let bad : true ≡ false = sym some ∙ none in cc
    ]

    below : (m : ℕ) → 0 < m → replies_of m s.responses ≡ true → m < n
    below m first e = let le = within m first e in let lt = known (omega (arith, first, le)) in omega (arith, le, lt)
