-- Words that ask for a generated transcript.
use Rattle.std.proofs.Common.{◌≡◌, ◌≢◌, ◌<◌, ◌≤◌, ◌^◌, ℕ, List, [], ◌∷◌, codes, Some, None, sym, ◌∙◌, ap, arith}
use Rattle.std.specs.Fmt.{decimal}
use Rattle.std.specs.Str.Parse.{digits_value}
use Rattle.std.proofs.lemmas.Fmt.{decimal_is_IsNumeral}
use Rattle.transcript_generator.specs.Generated.{most_routes}
use Rattle.mirror.specs.Options.{AskForGenerated, AskForNone, IsNumberAfter}

-- Too few words ask for none.
pub none_empty : AskForNone []
none_empty n h = let never = h.spelled in cc

pub none_single : (a : List ℕ) → AskForNone (a ∷ [])
none_single a n h = let never = h.spelled in cc

-- Too many don't either.
pub none_more : (a b c : List ℕ) (ws : List (List ℕ)) → AskForNone (a ∷ b ∷ c ∷ ws)
none_more a b c ws n h = let never = h.spelled in cc

-- Nor does another first word.
pub none_other : (a : List ℕ) (ws : List (List ℕ)) → a ≢ codes "gen" → AskForNone (a ∷ ws)
none_other a ws other n h = let same : a ≡ codes "gen" = let e = h.spelled in cc in other same

-- The second word of words that ask is the decimal of their number.
second : (a b : List ℕ) (n : ℕ) → AskForGenerated (a ∷ b ∷ []) n → b ≡ decimal n
second a b n h = let e = h.spelled in cc

-- A second word that is no number asks for none.
pub none_unread : (a b : List ℕ) → IsNumberAfter (2 ^ 32) [] b None → AskForNone (a ∷ b ∷ [])
none_unread a b unread n h = unread n (let most = h.in_range in omega (arith, most)) (second a b n h)

-- Nor does a number that is too great.
pub none_above : (a b : List ℕ) (number : ℕ) → IsNumberAfter (2 ^ 32) [] b (Some number) → most_routes < number → AskForNone (a ∷ b ∷ [])
none_above a b number read above n h =
    let same : digits_value 10 (decimal number) ≡ digits_value 10 (decimal n) = ap (digits_value 10) (sym read.1 ∙ second a b n h) in
    let most = h.in_range in
    let one = (decimal_is_IsNumeral number (let less = read.0 in omega (arith, less))).1 in
    let other = (decimal_is_IsNumeral n (omega (arith, most))).1 in
    omega (arith, above, most, sym one ∙ same ∙ other)

-- A number that isn't asks for as many routes.
pub asked : (a b : List ℕ) (number : ℕ) → a ≡ codes "gen" → IsNumberAfter (2 ^ 32) [] b (Some number) → number ≤ most_routes
    → AskForGenerated (a ∷ b ∷ []) number
asked a b number gen read most = record { spelled = ap (λ w. w ∷ b ∷ []) gen ∙ ap (λ w. codes "gen" ∷ w ∷ []) read.1; in_range = most }

-- Words ask for one number of routes.
pub same_count : (ws : List (List ℕ)) (n m : ℕ) → AskForGenerated ws n → AskForGenerated ws m → n ≡ m
same_count ws n m a b =
    let same : decimal n ≡ decimal m = let e = sym a.spelled ∙ b.spelled in cc in
    let most = a.in_range in
    let more = b.in_range in
    let one = (decimal_is_IsNumeral n (omega (arith, most))).1 in
    let other = (decimal_is_IsNumeral m (omega (arith, more))).1 in
    sym one ∙ ap (digits_value 10) same ∙ other
