-- JSON lists and what they are made of.
use Rattle.std.proofs.Common.{◌≡◌, ◌≢◌, ℕ, ◌∙◌, sym, ap, refl, List, [], ◌∷◌, length, Some, None}
use Rattle.serde_json.specs.Data.{Data, unsigned, number, null, boolean, string, array, object, Items, Num, negative, float}
use Rattle.serde_json.specs.View.{items_of}
use Rattle.serde_json.specs.Find.{as_array, as_number, as_str, as_u64}
use Rattle.std.specs.Prelude.{option_and_then}
use Rattle.trie_json.specs.Writing.{list_data, pair_data}
use Rattle.trie_json.specs.Reading.{IsNoList, IsNoPair}

-- ---- lists

-- What is seen as a list is one.
pub array_is : (d : Data) (ds : Items) → Some ds ≡ as_array d → d ≡ array ds
array_is null ds e = absurd (let no : ⊥ = cc in no)
array_is (boolean b) ds e = absurd (let no : ⊥ = cc in no)
array_is (number n) ds e = absurd (let no : ⊥ = cc in no)
array_is (string s) ds e = absurd (let no : ⊥ = cc in no)
array_is (array xs) ds e = cc
array_is (object ms) ds e = absurd (let no : ⊥ = cc in no)

-- What isn't seen as a list is none.
pub no_array : (d : Data) → None ≡ as_array d → IsNoList d
no_array d e ds is = let no : None ≡ Some (items_of ds) = e ∙ ap as_array is in let bad : ⊥ = cc in bad

-- Lists that are one have the same elements.
pub items_one : (xs ys : List Data) → items_of xs ≡ items_of ys → xs ≡ ys
items_one [] [] e = refl
items_one [] (y ∷ ys) e = absurd (let no : ⊥ = cc in no)
items_one (x ∷ xs) [] e = absurd (let no : ⊥ = cc in no)
items_one (x ∷ xs) (y ∷ ys) e =
    let head : x ≡ y = cc in
    let tail : items_of xs ≡ items_of ys = cc in
    ap (λ z. z ∷ xs) head ∙ ap (λ zs. y ∷ zs) (items_one xs ys tail)

-- The same of the whole lists.
pub list_one : (xs ys : List Data) → list_data xs ≡ list_data ys → xs ≡ ys
list_one xs ys e = items_one xs ys (let same : items_of xs ≡ items_of ys = cc in same)

-- ---- pairs

-- Pairs that are one have the same parts.
pub pair_one : (a b c d : Data) → pair_data a b ≡ pair_data c d → (a ≡ c) × (b ≡ d)
pair_one a b c d e = (cc, cc)

-- What isn't a list is no pair.
pub no_list_pair : (d : Data) → IsNoList d → IsNoPair d
no_list_pair d not_list a b e = not_list (a ∷ b ∷ []) e

-- A list of another length than two is no pair.
pub long_pair : (d : Data) (ds : List Data) → d ≡ list_data ds → length ds ≢ 2 → IsNoPair d
long_pair d ds is long a b e = long (ap length (list_one ds (a ∷ b ∷ []) (sym is ∙ e)))

-- ---- numbers and texts

whole_number : (x : Num) (n : ℕ) → Some n ≡ as_u64 x → x ≡ unsigned n
whole_number (unsigned m) n e = cc
whole_number (negative z) n e = absurd (let no : ⊥ = cc in no)
whole_number (float f) n e = absurd (let no : ⊥ = cc in no)

-- What is seen as a number is that number.
pub number_is : (d : Data) (n : ℕ) → Some n ≡ option_and_then as_u64 (as_number d) → d ≡ number (unsigned n)
number_is null n e = absurd (let no : ⊥ = cc in no)
number_is (boolean b) n e = absurd (let no : ⊥ = cc in no)
number_is (number x) n e = ap number (whole_number x n e)
number_is (string s) n e = absurd (let no : ⊥ = cc in no)
number_is (array xs) n e = absurd (let no : ⊥ = cc in no)
number_is (object ms) n e = absurd (let no : ⊥ = cc in no)

-- What isn't seen as a number is none.
pub no_number : (d : Data) (n : ℕ) → None ≡ option_and_then as_u64 (as_number d) → d ≢ number (unsigned n)
no_number d n e is = let no : None ≡ Some n = e ∙ ap (λ x. option_and_then as_u64 (as_number x)) is in let bad : ⊥ = cc in bad

-- What is seen as a text is that text.
pub text_is : (d : Data) (s : List ℕ) → Some s ≡ as_str d → d ≡ string s
text_is null s e = absurd (let no : ⊥ = cc in no)
text_is (boolean b) s e = absurd (let no : ⊥ = cc in no)
text_is (number x) s e = absurd (let no : ⊥ = cc in no)
text_is (string t) s e = cc
text_is (array xs) s e = absurd (let no : ⊥ = cc in no)
text_is (object ms) s e = absurd (let no : ⊥ = cc in no)

-- What isn't seen as a text is none.
pub no_text : (d : Data) (s : List ℕ) → None ≡ as_str d → d ≢ string s
no_text d s e is = let no : None ≡ Some s = e ∙ ap as_str is in let bad : ⊥ = cc in bad
