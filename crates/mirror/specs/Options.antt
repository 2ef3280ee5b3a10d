-- The words of the program, and the settings that they spell.
use Rattle.std.specs.Prelude.{◌≡◌, ◌≢◌, ◌<◌, ◌≤◌, ◌^◌, ◌==◌, ℕ, Bool, true, false, List, [], ◌∷◌, ◌++◌, Option, Some, None, map, fold, codes, length, slice_index, slice_index_or}
use Rattle.std.specs.List.{AllByRecursion, list_any}
use Rattle.std.specs.Fmt.{decimal}
use Rattle.session_model.specs.declared.settings.Settings.{Settings}
use Rattle.session_model.specs.Usual.{usual}
use Rattle.transcript_generator.specs.Generated.{most_routes}
use Rattle.mirror.specs.declared.options.Choice.{Choice}
use Rattle.mirror.specs.declared.options.Choice.TheVariants.{Limit, Peer, Table, Start, Noop, Done, Ack}

-- The word of an option.
abbrev pub choice_word : Choice → List ℕ
choice_word (Limit n) = codes "limit=" ++ decimal n
choice_word (Peer n) = codes "peer=" ++ decimal n
choice_word (Table n) = codes "table=" ++ decimal n
choice_word (Start n) = codes "start=" ++ decimal n
choice_word Noop = codes "noop"
choice_word Done = codes "done"
choice_word Ack = codes "ack"

-- The number of an option fits its setting.
abbrev pub IsInRange : Choice → Type 0
IsInRange (Limit n) = n < 2 ^ 64
IsInRange (Peer n) = n < 2 ^ 32
IsInRange (Table n) = n < 2 ^ 32
IsInRange (Start n) = n < 2 ^ 32
IsInRange Noop = Unit {0}
IsInRange Done = Unit {0}
IsInRange Ack = Unit {0}

-- Which setting an option is of.
abbrev pub kind_of : Choice → ℕ
kind_of (Limit n) = 0
kind_of (Peer n) = 1
kind_of (Table n) = 2
kind_of (Start n) = 3
kind_of Noop = 4
kind_of Done = 5
kind_of Ack = 6

-- Settings changed by an option.
abbrev pub changed : Settings → Choice → Settings
changed s (Limit n) = record s { limit = n }
changed s (Peer n) = record s { peer = n }
changed s (Table n) = record s { table = n }
changed s (Start n) = record s { start = n }
changed s Noop = record s { forward_noop = true }
changed s Done = record s { forward_done = true }
changed s Ack = record s { forward_ack = true }

-- Whether a setting has an option.
abbrev pub has_kind : ℕ → List Choice → Bool
has_kind kind choices = list_any (λ (choice : Choice). kind_of choice == kind) choices

-- No setting has two options.
abbrev pub AreDistinct : List Choice → Type 0
AreDistinct [] = Unit {0}
AreDistinct (choice ∷ choices) = (has_kind (kind_of choice) choices ≡ false) × AreDistinct choices

-- Words spell settings: `run`, and then options in any order, at most one of each setting. The settings are the usual
-- ones changed by these.
pub record SpellSettings (words : List (List ℕ)) (settings : Settings) : Type 0 where
  pub choices : List Choice
  pub spelled : words ≡ codes "run" ∷ map choice_word choices
  pub in_range : AllByRecursion IsInRange choices
  pub distinct : AreDistinct choices
  pub usual_else : settings ≡ fold changed usual choices

-- Words that spell no settings.
abbrev pub SpellNoSettings : List (List ℕ) → Type 0
SpellNoSettings words = (settings : Settings) → SpellSettings words settings → ⊥

-- Words ask for the generated transcript of n routes: `gen` and n.
pub record AskForGenerated (words : List (List ℕ)) (n : ℕ) : Type 0 where
  pub spelled : words ≡ codes "gen" ∷ decimal n ∷ []
  pub in_range : n ≤ most_routes

-- Words that ask for none.
abbrev pub AskForNone : List (List ℕ) → Type 0
AskForNone words = (n : ℕ) → AskForGenerated words n → ⊥

-- Words that are not the program's.
abbrev pub AreOtherWords : List (List ℕ) → Type 0
AreOtherWords words = SpellNoSettings words × AskForNone words

-- This is the option that a word spells, and None where it spells none.
abbrev pub IsChoiceOf : List ℕ → Option Choice → Type 0
IsChoiceOf word (Some choice) = IsInRange choice × (word ≡ choice_word choice)
IsChoiceOf word None = (choice : Choice) → IsInRange choice → word ≢ choice_word choice

-- What may be the digits of a number: there are some, and a zero stands first only alone.
pub record MayBeNumber (digits : List ℕ) : Type 0 where
  pub some : 0 < length digits
  pub begins : (48 ≤ slice_index digits 0) × (slice_index digits 0 ≤ 57)
  pub leading : slice_index digits 0 ≡ 48 → length digits ≡ 1

-- This is the number below a bound whose decimal a word has after a name, and None where it has none.
abbrev pub IsNumberAfter : ℕ → List ℕ → List ℕ → Option ℕ → Type 0
IsNumberAfter bound name word (Some number) = (number < bound) × (word ≡ name ++ decimal number)
IsNumberAfter bound name word None = (number : ℕ) → number < bound → word ≢ name ++ decimal number

-- Settings, and a mark for each kind, after options of different settings.
pub record HasTaken (choices : List Choice) (settings : Settings) (taken : List Bool) : Type 0 where
  pub distinct : AreDistinct choices
  pub settings_are : settings ≡ fold changed usual choices
  pub marked : (kind : ℕ) → slice_index_or taken kind false ≡ has_kind kind choices
