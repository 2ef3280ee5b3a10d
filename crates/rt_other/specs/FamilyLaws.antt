-- A family is read again from its byte.
use Rattle.std.proofs.Common.{◌≡◌, ◌≢◌, ◌==◌, ℕ, Bool, true, false, refl}
use Rattle.std.specs.Prelude.{if◌then◌else◌}
use Rattle.std.proofs.lemmas.Bool.{ne_eqb, eqb-false}
use Rattle.rt_other.specs.declared.address_family.AddressFamily.{AddressFamily}
use Rattle.rt_other.specs.declared.address_family.AddressFamily.TheVariants.{Unspec, Local, Unix, Inet, Inet6, Other}
use Rattle.rt_other.specs.Family.{family_of, family_byte, ReadsBack}

-- A family that reads back does so from its byte.
pub family-again : (f : AddressFamily) → ReadsBack f → family_of (family_byte f) ≡ f
family-again Unspec h = refl
family-again Local h = refl
family-again Unix h = absurd h
family-again Inet h = refl
family-again Inet6 h = refl
family-again (Other n) h = rw (ne_eqb n 0 h.0, ne_eqb n 1 h.1, ne_eqb n 2 h.2, ne_eqb n 10 h.3) refl

family-read-if : (n : ℕ) (b0 b1 b2 b10 : Bool) → (n == 0) ≡ b0 → (n == 1) ≡ b1 → (n == 2) ≡ b2 → (n == 10) ≡ b10
    → ReadsBack (if b0 then Unspec else if b1 then Local else if b2 then Inet else if b10 then Inet6 else Other n)
family-read-if n true b1 b2 b10 e0 e1 e2 e10 = tt
family-read-if n false true b2 b10 e0 e1 e2 e10 = tt
family-read-if n false false true b10 e0 e1 e2 e10 = tt
family-read-if n false false false true e0 e1 e2 e10 = tt
family-read-if n false false false false e0 e1 e2 e10 =
    (eqb-false n 0 e0, eqb-false n 1 e1, eqb-false n 2 e2, eqb-false n 10 e10)

-- The family of a byte reads back.
pub family-read : (n : ℕ) → ReadsBack (family_of n)
family-read n = family-read-if n (n == 0) (n == 1) (n == 2) (n == 10) refl refl refl refl
