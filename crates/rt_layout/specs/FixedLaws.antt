-- Structs of a fixed length as the values of attributes.
use Rattle.std.proofs.Common.{◌≡◌, ℕ, Bool, true, false, List, [], ◌++◌, length, nat_lt, Ok, Err, refl, sym, ap, ◌∙◌, arith}
use Rattle.std.specs.Prelude.{if◌then◌else◌}
use Rattle.std.proofs.lemmas.Bool.{le-ltb}
use Rattle.std.proofs.lemmas.List.{append-nil}
use Rattle.nl_core.specs.declared.error.DecodeError.{DecodeError}
use Rattle.nl_core.specs.declared.error.DecodeError.TheVariants.{TooSmall}
use Rattle.nl_core.specs.Reading.{sized}

-- A struct reads back from its bytes alone, where it does whatever follows them.
pub sized-again : {X : Type 0} (len : ℕ) (text : X → List ℕ) (read : List ℕ → X) (x : X) → length (text x) ≡ len
    → ((more : List ℕ) → read (text x ++ more) ≡ x) → sized len (text x) (read (text x)) ≡ Ok x
sized-again {X} len text read x long again =
    let alone : read (text x) ≡ x = ap read (sym (append-nil (text x))) ∙ again [] in
    let enough : nat_lt (length (text x)) len ≡ false = le-ltb (length (text x)) len (omega (arith, long)) in
    rw (enough, alone) refl

sized-if : {X : Type 0} (b : Bool) (e : DecodeError) (x y : X) → (if b then Err e else Ok x) ≡ Ok y → x ≡ y
sized-if true e x y is = absurd cc
sized-if false e x y is = cc

-- What was read of enough bytes is what stands at their front.
pub sized-read : {X : Type 0} (need : ℕ) (bytes : List ℕ) (x y : X) → sized need bytes x ≡ Ok y → x ≡ y
sized-read need bytes x y is = sized-if (nat_lt (length bytes) need) (TooSmall (length bytes) need) x y is
