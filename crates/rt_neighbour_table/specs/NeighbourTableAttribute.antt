-- Attributes of neighbour tables: what is read and what is written.
use Rattle.std.specs.Prelude.{◌≡◌, ◌<◌, ◌^◌, ◌==◌, ℕ, true, List, [], ◌∷◌, ◌++◌, length, if◌then◌else◌, Result, Err}
use Rattle.std.specs.List.{AllByRecursion}
use Rattle.std.specs.Str.{is_utf8}
use Rattle.nl_core.specs.declared.error.DecodeError.{DecodeError}
use Rattle.nl_core.specs.declared.error.DecodeError.TheVariants.{BadAttribute}
use Rattle.nl_core.specs.Numbers.{le32, le64}
use Rattle.nl_core.specs.Reading.{sized, number32, number64, name_of}
use Rattle.nl_core.specs.Attribute.{attributes, attributes_text}
use Rattle.rt_layout.specs.Rows.{Row, row, attribute_by, IsOfNoRow}
use Rattle.rt_neighbour_table.specs.Config as config
use Rattle.rt_neighbour_table.specs.Stats as stats
use Rattle.rt_neighbour_table.specs.Parameter as parameter
use Rattle.rt_neighbour_table.specs.declared.config.NeighbourTableConfig.{NeighbourTableConfig}
use Rattle.rt_neighbour_table.specs.declared.stats.NeighbourTableStats.{NeighbourTableStats}
use Rattle.rt_neighbour_table.specs.declared.parameter.NeighbourTableParameter.{NeighbourTableParameter}
use Rattle.rt_neighbour_table.specs.declared.attribute.TableValue.{TableValue}
use Rattle.rt_neighbour_table.specs.declared.attribute.TableValue.TheVariants as written_as
use Rattle.rt_neighbour_table.specs.declared.attribute.NeighbourTableAttribute.{NeighbourTableAttribute}
use Rattle.rt_neighbour_table.specs.declared.attribute.NeighbourTableAttribute.TheVariants.{Name, Threshold1, Threshold2, Threshold3, Config, Parms, Stats, GcInterval, Other}

-- ---- values that are structs or lists

-- The configuration at the front of 32 or more bytes.
abbrev pub config_at : List ℕ → Result NeighbourTableConfig DecodeError
config_at bytes = sized 32 bytes (config.config_at bytes)

-- The counters at the front of 88 or more bytes.
abbrev pub stats_at : List ℕ → Result NeighbourTableStats DecodeError
stats_at bytes = sized 88 bytes (stats.stats_at bytes)

-- The bytes of parameters.
abbrev pub parameters_text : List NeighbourTableParameter → List ℕ
parameters_text ps = attributes_text parameter.kind parameter.value ps

-- The parameters that bytes are; refused where there is none.
abbrev pub parameters_at : List ℕ → Result (List NeighbourTableParameter) DecodeError
parameters_at bytes = if length bytes == 0 then Err BadAttribute else attributes parameter.attribute_at bytes

-- The bytes of a value that is a struct or a list.
abbrev pub table_value_text : TableValue → List ℕ
table_value_text (written_as.Config c) = config.config_text c.now
table_value_text (written_as.Stats s) = stats.stats_text s.now
table_value_text (written_as.Parms ps) = parameters_text ps.now

-- ---- attributes

-- The type and the value as they are written; a name is closed by a NUL.
abbrev pub written : NeighbourTableAttribute → ℕ × List ℕ
written (Name name) = (1, name ++ 0 ∷ [])
written (Threshold1 n) = (2, le32 n)
written (Threshold2 n) = (3, le32 n)
written (Threshold3 n) = (4, le32 n)
written (Config c) = (5, config.config_text c)
written (Parms ps) = (6, parameters_text ps)
written (Stats s) = (7, stats.stats_text s)
written (GcInterval n) = (8, le64 n)
written (Other n) = (n.kind, n.value)

-- What values are read as, by their types.
abbrev pub rows : List (Row NeighbourTableAttribute)
rows =
    row 1 name_of (λ name. Name name) ∷ row 2 number32 (λ n. Threshold1 n) ∷ row 3 number32 (λ n. Threshold2 n)
    ∷ row 4 number32 (λ n. Threshold3 n) ∷ row 5 config_at (λ c. Config c) ∷ row 6 parameters_at (λ ps. Parms ps)
    ∷ row 7 stats_at (λ s. Stats s) ∷ row 8 number64 (λ n. GcInterval n) ∷ []

-- The type as it is written.
abbrev pub kind : NeighbourTableAttribute → ℕ
kind x = (written x).0

-- The bytes of the value.
abbrev pub value : NeighbourTableAttribute → List ℕ
value x = (written x).1

-- What the attribute at the front of bytes is read as.
abbrev pub attribute_at : List ℕ → Result NeighbourTableAttribute DecodeError
attribute_at bytes = attribute_by rows (λ n. Other n) bytes

-- ---- what reads back

-- Parameters read back: there is one, and each does.
pub record ParametersReadBack (ps : List NeighbourTableParameter) : Type 0 where
  pub some : 0 < length ps
  pub each : AllByRecursion parameter.ReadsBack ps

-- An attribute reads back: its name is UTF-8, its numbers fit their fields, its parameters read back, and another one has a
-- type that no row has.
abbrev pub ReadsBack : NeighbourTableAttribute → Type 0
ReadsBack (Name name) = is_utf8 name ≡ true
ReadsBack (Threshold1 n) = n < 2 ^ 32
ReadsBack (Threshold2 n) = n < 2 ^ 32
ReadsBack (Threshold3 n) = n < 2 ^ 32
ReadsBack (Config c) = config.ReadsBack c
ReadsBack (Parms ps) = ParametersReadBack ps
ReadsBack (Stats s) = stats.ReadsBack s
ReadsBack (GcInterval n) = n < 2 ^ 64
ReadsBack (Other n) = IsOfNoRow rows n
