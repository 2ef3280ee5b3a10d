-- Calls that the plan of a tape stops.
use Rattle.std.proofs.Common.{◌≡◌, ◌-◌, ◌≤◌, ◌^◌, ◌==◌, inl, inr, ℕ, Bool, true, false, cond, List, [], ◌∷◌, ◌++◌, Some, nat_lt, refl, sym, ◌∙◌, ap, arith}
use Rattle.std.proofs.lemmas.Bool.Decides.{nat_tests}
use Rattle.std.specs.List.{list_any}
use Rattle.session_model.specs.declared.address.SocketAddr.{SocketAddr}
use Rattle.proto_conn.specs.declared.link.Received.TheVariants as received
use Rattle.proto_conn.specs.declared.link.Sent.TheVariants as sent
use Rattle.proto_conn.specs.declared.tape.Planned.TheVariants as planned
use Rattle.proto_conn.specs.Links.{Free, HasRisen, IsLater, DidReceive, DidSend, is_prompt, is_sure}
use Rattle.proto_conn.specs.Tapes.{Tape, means, manners_of, one_more, plan_at, plan_of, counted}

append-nil : {X : Type 0} (xs : List X) → xs ++ [] ≡ xs
append-nil [] = refl
append-nil (x ∷ xs) = ap (λ zs. x ∷ zs) (append-nil xs)

rises : (n : ℕ) → HasRisen n (one_more n)
rises n = by (nat_lt n (2 ^ 64 - 1)) refl
  where
    by : (b : Bool) → nat_lt n (2 ^ 64 - 1) ≡ b → HasRisen n (one_more n)
    by true e = inl (grind (arith, nat_tests))
    by false e = inr (grind (arith, nat_tests))

-- a plan that stops a call isn't empty
fails_free : (n : ℕ) (fail stall : List ℕ) → plan_at n fail stall ≡ planned.Fails → manners_of fail stall ≡ Free
fails_free n [] stall e = by (list_any (λ k. k == n) stall) e
  where
    by : (b : Bool) → cond b planned.Stalls planned.Works ≡ planned.Fails → manners_of [] stall ≡ Free
    by true f = cc
    by false f = cc
fails_free n (x ∷ xs) stall e = refl

stalls_free : (n : ℕ) (fail stall : List ℕ) → plan_at n fail stall ≡ planned.Stalls → manners_of fail stall ≡ Free
stalls_free n [] [] e = cc
stalls_free n [] (x ∷ xs) e = refl
stalls_free n (x ∷ xs) stall e = refl

later_fails : (t : Tape) → t.faults ≤ one_more t.faults → IsLater (means t) (means (counted planned.Fails t))
later_fails t h = record { faults = h; stalls = omega arith; closings = omega arith; prompt = λ p. p; sure = λ p. p }

later_stalls : (t : Tape) → t.stalls ≤ one_more t.stalls → IsLater (means t) (means (counted planned.Stalls t))
later_stalls t h = record { faults = omega arith; stalls = h; closings = omega arith; prompt = λ p. p; sure = λ p. p }

pub receive_fails : (t : Tape) (bytes : List ℕ) → bytes ≡ [] → planned.Fails ≡ plan_of t → t.faults ≤ one_more t.faults
    → DidReceive (means t) received.Failed bytes (means (counted planned.Fails t))
receive_fails t bytes none e h = record {
  later = later_fails t h;
  posted = refl;
  waits = refl;
  closings = refl;
  cause =
      (none, rises t.faults, ap is_prompt (fails_free (one_more t.calls) t.fail t.stall (sym e)));
}

pub receive_stalls : (t : Tape) (bytes : List ℕ) → bytes ≡ [] → planned.Stalls ≡ plan_of t → t.stalls ≤ one_more t.stalls
    → DidReceive (means t) received.NotReady bytes (means (counted planned.Stalls t))
receive_stalls t bytes none e h =
    let free = stalls_free (one_more t.calls) t.fail t.stall (sym e) in
    record {
      later = later_stalls t h;
      posted = refl;
      waits = refl;
      closings = refl;
      cause =
          (none, rises t.stalls, λ p. let f : false ≡ true = sym (ap is_prompt free) ∙ p in cc);
    }

pub send_fails : (t : Tape) (bytes : List ℕ) (to : SocketAddr) → planned.Fails ≡ plan_of t → t.faults ≤ one_more t.faults
    → DidSend (means t) sent.Failed bytes to (means (counted planned.Fails t))
send_fails t bytes to e h = record {
  later = later_fails t h;
  waits = refl;
  posted = ap Some (sym (append-nil t.posted));
  closings = refl;
  cause =
      (rises t.faults, ap is_sure (fails_free (one_more t.calls) t.fail t.stall (sym e)));
}

pub send_stalls : (t : Tape) (bytes : List ℕ) (to : SocketAddr) → planned.Stalls ≡ plan_of t → t.stalls ≤ one_more t.stalls
    → DidSend (means t) sent.NotReady bytes to (means (counted planned.Stalls t))
send_stalls t bytes to e h = record {
  later = later_stalls t h;
  waits = refl;
  posted = ap Some (sym
      (append-nil t.posted));
  closings = refl;
  cause = (rises t.stalls, ap is_sure (stalls_free (one_more t.calls) t.fail t.stall (sym e)));
}
