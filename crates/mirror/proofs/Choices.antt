-- Options and their words: each word is of one option, and words spell one list of options.
use Rattle.std.proofs.Common.{◌≡◌, ◌≢◌, ◌+◌, ◌<◌, ◌≤◌, ◌^◌, ◌==◌, ◌||◌, ℕ, zero, suc, Bool, true, false, cond, List, [], ◌∷◌, ◌++◌, length, take, drop, get_or, map, fold, codes, None, refl, sym, subst, ◌∙◌, ap, arith}
use Rattle.std.specs.List.{AllByRecursion}
use Rattle.std.specs.Str.Parse.{digits_value}
use Rattle.std.specs.Fmt.{decimal}
use Rattle.std.proofs.lemmas.Fmt.{decimal_is_IsNumeral}
use Rattle.std.proofs.lemmas.Bool.{eqb-true, eqb-false, eq-eqb}
use Rattle.std.proofs.lemmas.List.{take-append-drop, get_or-set_same, get_or-set_other, map_more, map-append, get_or-map, take_all, length-map}
use Rattle.std.proofs.Math.ListN.{set}
use Rattle.std.proofs.lemmas.List.Folds.{list_any-append}
use Rattle.std.proofs.lemmas.List.Sums.{fold-append}
use Rattle.std.proofs.Math.Seq.{drop-cons}
use Rattle.session_model.specs.declared.settings.Settings.{Settings}
use Rattle.session_model.specs.Usual.{usual}
use Rattle.mirror.specs.declared.options.Choice.{Choice}
use Rattle.mirror.specs.declared.options.Choice.TheVariants.{Limit, Peer, Table, Start, Noop, Done, Ack}
use Rattle.mirror.specs.Options.{choice_word, IsInRange, kind_of, changed, has_kind, AreDistinct, SpellSettings, IsChoiceOf, HasTaken}

-- The number that a text is the decimal of.
value_of : (n : ℕ) → n < 2 ^ 64 → digits_value 10 (decimal n) ≡ n
value_of n h = (decimal_is_IsNumeral n h).1

-- The option of a word, by the first letter.
abbrev by_letter : ℕ → List ℕ → Choice
by_letter letter word =
    cond (letter == 108) (Limit (digits_value 10 (drop 6 word)))
    (cond (letter == 112) (Peer (digits_value 10 (drop 5 word)))
    (cond (letter == 116) (Table (digits_value 10 (drop 6 word)))
    (cond (letter == 115) (Start (digits_value 10 (drop 6 word)))
    (cond (letter == 110) Noop (cond (letter == 100) Done Ack)))))

abbrev option_of : List ℕ → Choice
option_of word = by_letter (get_or word 0 0) word

option_of-choice_word : (choice : Choice) → IsInRange choice → option_of (choice_word choice) ≡ choice
option_of-choice_word (Limit n) h = ap (λ k. Limit k) (value_of n h)
option_of-choice_word (Peer n) h = ap (λ k. Peer k) (value_of n (omega (arith, h)))
option_of-choice_word (Table n) h = ap (λ k. Table k) (value_of n (omega (arith, h)))
option_of-choice_word (Start n) h = ap (λ k. Start k) (value_of n (omega (arith, h)))
option_of-choice_word Noop h = refl
option_of-choice_word Done h = refl
option_of-choice_word Ack h = refl

-- The options of words are those that were spelled.
pub options_of_words : (choices : List Choice) → AllByRecursion IsInRange choices → map option_of (map choice_word choices) ≡ choices
options_of_words [] h = refl
options_of_words (choice ∷ choices) h =
    ap (λ c. c ∷ map option_of (map choice_word choices)) (option_of-choice_word choice h.0) ∙ ap (λ cs. choice ∷ cs) (options_of_words choices h.1)

-- Words spell one list of options.
pub same_options : (choices others : List Choice) → AllByRecursion IsInRange choices → AllByRecursion IsInRange others
    → map choice_word choices ≡ map choice_word others → choices ≡ others
same_options choices others h k e = sym (options_of_words choices h) ∙ ap (map option_of) e ∙ options_of_words others k

-- Words spell at most one settings.
pub same_settings : (words : List (List ℕ)) (s t : Settings) → SpellSettings words s → SpellSettings words t → s ≡ t
same_settings words s t a b =
    let same : a.choices ≡ b.choices = same_options a.choices b.choices a.in_range b.in_range (ap (drop 1) (sym a.spelled ∙ b.spelled)) in
    a.usual_else ∙ ap (fold changed usual) same ∙ sym b.usual_else

-- ---- one option more

has_kind-more : (kind : ℕ) (choices : List Choice) (choice : Choice)
    → has_kind kind (choices ++ choice ∷ []) ≡ (has_kind kind choices || ((kind_of choice == kind) || false))
has_kind-more kind choices choice = list_any-append (λ (c : Choice). kind_of c == kind) choices (choice ∷ [])

or_false : (b : Bool) → (b || false) ≡ b
or_false true = refl
or_false false = refl

or_parts : (a b : Bool) → (a || b) ≡ false → (a ≡ false) × (b ≡ false)
or_parts true b e = absurd cc
or_parts false b e = (refl, e)

eqb-swap : (m n : ℕ) → (m == n) ≡ (n == m)
eqb-swap m n = by (m == n) (n == m) refl refl
  where
    by : (a b : Bool) → (m == n) ≡ a → (n == m) ≡ b → (m == n) ≡ (n == m)
    by true true x y = x ∙ sym y
    by false false x y = x ∙ sym y
    by true false x y = absurd (let e : n ≡ m = sym (eqb-true m n x) in let z : (n == m) ≡ true = eq-eqb n m e in let w : true ≡ false = sym z ∙ y in cc)
    by false true x y = absurd (let e : m ≡ n = sym (eqb-true n m y) in let z : (m == n) ≡ true = eq-eqb m n e in let w : true ≡ false = sym z ∙ x in cc)

distinct_more : (choices : List Choice) (choice : Choice) → AreDistinct choices → has_kind (kind_of choice) choices ≡ false
    → AreDistinct (choices ++ choice ∷ [])
distinct_more [] choice a none = (refl, tt)
distinct_more (first ∷ choices) choice a none =
    let parts = or_parts (kind_of first == kind_of choice) (has_kind (kind_of choice) choices) none in
    let other : (kind_of choice == kind_of first) ≡ false = eqb-swap (kind_of choice) (kind_of first) ∙ parts.0 in (
      has_kind-more (kind_of first) choices choice ∙ ap (λ b. b || ((kind_of choice == kind_of first) || false)) a.0
          ∙ ap (λ b. false || (b || false)) other,
      distinct_more choices choice a.1 parts.1,
    )

-- In different options none of those before one is of its setting.
distinct_before : (choices : List Choice) (choice : Choice) (more : List Choice) → AreDistinct (choices ++ choice ∷ more)
    → has_kind (kind_of choice) choices ≡ false
distinct_before [] choice more a = refl
distinct_before (first ∷ choices) choice more a =
    let apart = list_any-append (λ (c : Choice). kind_of c == kind_of first) choices (choice ∷ more) in
    let later = or_parts (has_kind (kind_of first) choices) ((kind_of choice == kind_of first) || has_kind (kind_of first) more) (sym apart ∙ a.0) in
    let here = or_parts (kind_of choice == kind_of first) (has_kind (kind_of first) more) later.1 in
    ap (λ b. b || has_kind (kind_of choice) choices) (eqb-swap (kind_of first) (kind_of choice) ∙ here.0) ∙ distinct_before choices choice more a.1

or_true : (b : Bool) → (b || true) ≡ true
or_true true = refl
or_true false = refl

-- One option more, of a setting that has none, is taken.
pub taken_more : (choices : List Choice) (choice : Choice) (settings after : Settings) (taken : List Bool) (k : ℕ)
    → k ≡ kind_of choice → k < length taken → after ≡ changed settings choice
    → get_or taken k false ≡ false → HasTaken choices settings taken → HasTaken (choices ++ choice ∷ []) after (set taken k true)
taken_more choices choice settings after taken k is small change free h = record {
  distinct = distinct_more choices choice h.distinct (sym (h.marked (kind_of choice)) ∙ ap (λ n. get_or taken n false) (sym is) ∙ free);
  settings_are = change ∙ ap (λ (s : Settings). changed s choice) h.settings_are ∙ sym (fold-append changed usual choices (choice ∷ []));
  marked = λ kind. by kind (kind_of choice == kind) refl;
}
  where
    by : (kind : ℕ) (b : Bool) → (kind_of choice == kind) ≡ b → get_or (set taken k true) kind false ≡ has_kind kind (choices ++ choice ∷ [])
    by kind true e =
        let same : kind ≡ k = sym (eqb-true (kind_of choice) kind e) ∙ sym is in
        ap (λ n. get_or (set taken k true) n false) same ∙ get_or-set_same taken k true false small
        ∙ sym (has_kind-more kind choices choice ∙ ap (λ b. has_kind kind choices || (b || false)) e ∙ or_true (has_kind kind choices))
    by kind false e =
        let other : kind ≢ k = λ s. eqb-false (kind_of choice) kind e (sym is ∙ sym s) in
        get_or-set_other taken k kind true false other ∙ h.marked kind
        ∙ sym (has_kind-more kind choices choice ∙ ap (λ b. has_kind kind choices || (b || false)) e ∙ or_false (has_kind kind choices))

-- Words are those of options whose settings and marks are these.
pub record SpellsSome (words : List (List ℕ)) (settings : Settings) (taken : List Bool) : Type 0 where
  pub choices : List Choice
  pub spelled : words ≡ map choice_word choices
  pub in_range : AllByRecursion IsInRange choices
  pub state : HasTaken choices settings taken

module _ {X : Type 0} (f : X → List ℕ) (xs : List X) where
  all_more : (choices : List Choice) (choice : Choice) → AllByRecursion IsInRange choices → IsInRange choice
      → AllByRecursion IsInRange (choices ++ choice ∷ [])
  all_more [] choice a h = (h, tt)
  all_more (c ∷ choices) choice a h = (a.0, all_more choices choice a.1 h)

  map_words-more : (choices : List Choice) (choice : Choice)
      → map choice_word (choices ++ choice ∷ []) ≡ map choice_word choices ++ choice_word choice ∷ []
  map_words-more [] choice = refl
  map_words-more (c ∷ choices) choice = ap (λ ws. choice_word c ∷ ws) (map_words-more choices choice)

  -- The next word spells one option more.
  pub one_more : (i : ℕ) (x : X) (choice : Choice) (s t : Settings) (taken marked : List Bool) → i < length xs
      → x ≡ get_or xs i x → SpellsSome (map f (take i xs)) s taken
      → IsInRange choice → f x ≡ choice_word choice
      → ((choices : List Choice) → HasTaken choices s taken → HasTaken (choices ++ choice ∷ []) t marked)
      → SpellsSome (map f (take (i + 1) xs)) t marked
  one_more i x choice s t taken marked inside at some range is step = record {
    choices = some.choices ++ choice ∷ [];
    spelled = map_more f xs i x inside ∙ ap (λ y. map f (take i xs) ++ f y ∷ []) (sym at) ∙ ap (λ w. map f (take i xs) ++ w ∷ []) is
        ∙ ap (λ ws. ws ++ choice_word choice ∷ []) some.spelled ∙ sym (map_words-more some.choices choice);
    in_range = all_more some.choices choice some.in_range range;
    state = step some.choices some.state;
  }

  -- After the last word, the words spell the settings of their options.
  pub all_spelled : (words : List (List ℕ)) (i : ℕ) (s : Settings) (taken : List Bool) → words ≡ codes "run" ∷ map f xs
      → length xs ≤ i → SpellsSome (map f (take i xs)) s taken → SpellSettings words s
  all_spelled words i s taken is end some = record {
    choices = some.choices;
    spelled = is ∙ ap (λ ys. codes "run" ∷ map f ys) (sym (take_all i xs end)) ∙ ap (λ ws. codes "run" ∷ ws) some.spelled;
    in_range = some.in_range;
    distinct = some.state.distinct;
    usual_else = some.state.settings_are;
  }

  word_at : (choices : List Choice) (i : ℕ) (d : List ℕ) → i < length choices → AllByRecursion IsInRange choices
      → (choice : Choice) × (IsInRange choice × (get_or (map choice_word choices) i d ≡ choice_word choice))
  word_at [] i d h a = absurd (omega (arith, h))
  word_at (c ∷ choices) zero d h a = (c, (a.0, refl))
  word_at (c ∷ choices) (suc i) d h a = word_at choices i d (omega (arith, h)) a.1

  -- A word that is of no option, among those after the first.
  pub no_option : (words : List (List ℕ)) (first : List ℕ) (i : ℕ) (x : X) → words ≡ first ∷ map f xs → i < length xs
      → x ≡ get_or xs i x → IsChoiceOf (f x) None
      → (s : Settings) → SpellSettings words s → ⊥
  no_option words first i x is inside at none s spell =
      let same : map f xs ≡ map choice_word spell.choices = ap (drop 1) (sym is ∙ spell.spelled) in
      let count : length xs ≡ length spell.choices = sym (length-map xs f) ∙ ap length same ∙ length-map spell.choices choice_word in
      let w = word_at spell.choices i (f x) (omega (arith, count, inside)) spell.in_range in
      none w.0 w.1.0 (ap f at ∙ sym (get_or-map f xs i x (f x) inside) ∙ ap (λ ws. get_or ws i (f x)) same ∙ w.1.1)

  -- A second option of a setting.
  pub repeated : (words : List (List ℕ)) (first : List ℕ) (i : ℕ) (x : X) (choice : Choice) (s : Settings)
      (taken : List Bool) → words ≡ first ∷ map f xs → i < length xs → x ≡ get_or xs i x
      → SpellsSome (map f (take i xs)) s taken → IsInRange choice → f x ≡ choice_word choice
      → ((choices : List Choice) → HasTaken choices s taken → has_kind (kind_of choice) choices ≡ true)
      → (t : Settings) → SpellSettings words t → ⊥
  repeated words first i x choice s taken is inside at some range word twice t spell =
      let same : map f xs ≡ map choice_word spell.choices = ap (drop 1) (sym is ∙ spell.spelled) in
      let apart : xs ≡ take i xs ++ x ∷ drop (suc i) xs = sym (take-append-drop i xs)
      ∙ ap (λ ys. take i xs ++ ys) (drop-cons xs i x inside) ∙ ap (λ y. take i xs ++ y ∷ drop (suc i) xs) (sym at) in
      let front : map option_of (map f (take i xs)) ≡ some.choices = ap (map option_of) some.spelled ∙ options_of_words some.choices some.in_range in
      let here : option_of (f x) ≡ choice = ap option_of word ∙ option_of-choice_word choice range in
      let all : spell.choices ≡ some.choices ++ choice ∷ map option_of (map f (drop (suc i) xs)) =
      sym (options_of_words spell.choices spell.in_range) ∙ ap (map option_of) (sym same) ∙ ap (λ ys. map option_of (map f ys)) apart
      ∙ ap (map option_of) (map-append f (take i xs) (x ∷ drop (suc i) xs)) ∙ map-append option_of (map f (take i xs)) (f x ∷ map f (drop (suc i) xs))
      ∙ ap (λ cs. cs ++ option_of (f x) ∷ map option_of (map f (drop (suc i) xs))) front
      ∙ ap (λ c. some.choices ++ c ∷ map option_of (map f (drop (suc i) xs))) here in
      let none = distinct_before some.choices choice (map option_of (map f (drop (suc i) xs))) (subst AreDistinct all spell.distinct) in
      let clash : true ≡ false = sym (twice some.choices some.state) ∙ none in
      cc
