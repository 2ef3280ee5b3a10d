-- Attributes that are the value of another one read back, and those that were read do.
use Rattle.std.proofs.Common.{◌≡◌, ◌≤◌, ℕ, true, List, length, Result, Ok}
use Rattle.nl_core.specs.declared.error.DecodeError.{DecodeError}
use Rattle.nl_core.specs.Numbers.{AreBytes}
use Rattle.nl_core.specs.Attribute.{is_checked}
use Rattle.nl_core.specs.AttributeReadBack.{ReadsAgain}
use Rattle.nl_core.proofs.AttributeReadBack.{attributes-again, fitting-again, each-read}
use Rattle.nl_core.proofs.Lengths.{all_fit, fit-parts}
use Rattle.rt_link_xstats.specs.Nested.{NestedListsReadBack, ReadNestedListsReadBack}

-- Attributes that are short enough for the value of another one read back, where each of them does.
pub nested-again : {X : Type 0} (kind : X → ℕ) (value : X → List ℕ) (read : List ℕ → Result X DecodeError) (Back : X → Type 0)
    → ((x : X) → Back x → length (value x) ≤ 65531 → ReadsAgain kind value read x) → NestedListsReadBack kind value read Back
nested-again kind value read Back one xs back short =
    let fit = fit-parts kind value xs (all_fit kind value xs short) in
    attributes-again kind value read xs (fitting-again kind value read Back one xs fit.0 back)

-- Attributes that were read and are short enough for the value of another one read back, where what is read of each does.
pub read-nested-again : {X : Type 0} (kind : X → ℕ) (value : X → List ℕ) (read : List ℕ → Result X DecodeError) (Back : X → Type 0)
    → ((x : X) → Back x → length (value x) ≤ 65531 → ReadsAgain kind value read x)
    → ((bytes : List ℕ) (x : X) → AreBytes bytes → is_checked bytes ≡ true → read bytes ≡ Ok x → Back x)
    → ReadNestedListsReadBack kind value read
read-nested-again kind value read Back again reads bytes xs are is short =
    nested-again kind value read Back again xs (each-read Back read reads xs bytes are is) short
