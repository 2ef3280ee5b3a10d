-- What is said of hardware that counts: what is read and what is written.
use Rattle.std.specs.Prelude.{◌≡◌, ◌==◌, ℕ, Option, Some, None, List, [], ◌∷◌, if◌then◌else◌, Result, Ok}
use Rattle.nl_core.specs.declared.error.DecodeError.{DecodeError}
use Rattle.nl_core.specs.Reading.{◌>>=◌}
use Rattle.nl_core.specs.Attribute.{kind_of, value_of, attribute_text, attributes, attributes_text}
use Rattle.rt_stats.specs.declared.stats.hw_stats_info.HwStatsInfo.{HwStatsInfo}
use Rattle.rt_stats.specs.declared.stats.hw_stats_info.Number.{Number}

-- ---- reading

-- Nothing is said.
abbrev pub nothing : HwStatsInfo
nothing = record { request = None; used = None }

-- What is said now, or else what was said before.
abbrev pub later : Option ℕ → Option ℕ → Option ℕ
later (Some n) before = Some n
later None before = before

-- What was said before and what is said now.
abbrev pub updated : HwStatsInfo → HwStatsInfo → HwStatsInfo
updated info said = record { request = later said.request info.request; used = later said.used info.used }

-- What was said before and all that is said after it, from the left.
abbrev pub all_said : HwStatsInfo → List HwStatsInfo → HwStatsInfo
all_said info [] = info
all_said info (said ∷ more) = all_said (updated info said) more

-- What attributes say of which each says something.
abbrev pub info_by : (List ℕ → Result HwStatsInfo DecodeError) → List ℕ → Result HwStatsInfo DecodeError
info_by says bytes = attributes says bytes >>= λ each. Ok (all_said nothing each)

-- The first byte, if there is one.
abbrev pub first_byte : List ℕ → Option ℕ
first_byte [] = None
first_byte (b ∷ bytes) = Some b

-- What the first byte of an attribute's value says: of the request, of the use, or nothing.
abbrev pub number_said : List ℕ → HwStatsInfo
number_said bytes =
    if kind_of bytes == 1 then record { request = first_byte (value_of bytes); used = None }
    else if kind_of bytes == 2 then record { request = None; used = first_byte (value_of bytes) }
    else nothing

-- What an attribute says that stands in the one of the counters of layer 3.
abbrev pub number_says : List ℕ → Result HwStatsInfo DecodeError
number_says bytes = Ok (number_said bytes)

-- What an attribute says: that of the counters of layer 3 says what stands in it.
abbrev pub says : List ℕ → Result HwStatsInfo DecodeError
says bytes = if kind_of bytes == 3 then info_by number_says (value_of bytes) else number_says bytes

-- What bytes say.
abbrev pub info_at : List ℕ → Result HwStatsInfo DecodeError
info_at bytes = info_by says bytes

-- ---- writing

-- The type of a number.
abbrev pub number_kind : Number → ℕ
number_kind n = n.kind

-- The byte of a number.
abbrev pub number_value : Number → List ℕ
number_value n = n.value ∷ []

-- The bytes of the attribute that holds numbers; 32,768 is the flag of a nested list.
abbrev pub numbers_text : List Number → List ℕ
numbers_text numbers = attribute_text 32771 (attributes_text number_kind number_value numbers)

-- The bytes of what is said: none where nothing is.
abbrev pub said_text : Option ℕ → Option ℕ → List ℕ
said_text None None = []
said_text (Some r) None = numbers_text (record { kind = 1; value = r } ∷ [])
said_text None (Some u) = numbers_text (record { kind = 2; value = u } ∷ [])
said_text (Some r) (Some u) = numbers_text (record { kind = 1; value = r } ∷ record { kind = 2; value = u } ∷ [])

-- The bytes of what is said.
abbrev pub info_text : HwStatsInfo → List ℕ
info_text info = said_text info.request info.used

-- ---- what reads back

-- What is said reads back from its bytes.
abbrev pub InformationReadsBack : Type 0
InformationReadsBack = (info : HwStatsInfo) → info_at (info_text info) ≡ Ok info
