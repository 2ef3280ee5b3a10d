-- Attributes of neighbour tables read back.
use Rattle.std.proofs.Common.{◌≡◌, ◌==◌, ◌≤◌, ◌<◌, ◌+◌, ◌-◌, ◌^◌, ◌%◌, ℕ, Bool, true, false, List, [], ◌∷◌, ◌++◌, length, get_or, Result, Ok, Err, refl, sym, ◌∙◌, subst, arith, length-append}
use Rattle.std.specs.Prelude.{if◌then◌else◌}
use Rattle.std.specs.Str.{is_utf8}
use Rattle.std.proofs.lemmas.Bool.{ne_eqb, eqb-false}
use Rattle.std.proofs.lemmas.List.{take_at, get_or-append-add}
use Rattle.nl_core.specs.declared.error.DecodeError.{DecodeError}
use Rattle.nl_core.specs.declared.error.DecodeError.TheVariants.{BadText, BadAttribute}
use Rattle.nl_core.specs.Numbers.{AreBytes}
use Rattle.nl_core.specs.Reading.{◌>>=◌, number32, number64, without_nul, name_of}
use Rattle.nl_core.specs.Attribute.{is_checked, attributes, attribute_text, after}
use Rattle.nl_core.specs.AttributeReadBack.{ReadsAgain}
use Rattle.nl_core.proofs.NumberReadBack.{number32-le32, number64-le64, number32-below, number64-below}
use Rattle.nl_core.proofs.AttributeReadBack.{attributes-again, fitting-again, each-read}
use Rattle.nl_core.proofs.Lengths.{length-attribute, all_fit, fit-parts}
use Rattle.nl_core.proofs.Walk.{left_to_right}
use Rattle.rt_layout.specs.Rows.{row, read_by}
use Rattle.rt_layout.specs.FixedLaws.{sized-again, sized-read}
use Rattle.rt_layout.specs.RowLaws.{◌&◌, RowReads, row-again, other-again, row-reads, attribute-reads}
use Rattle.rt_neighbour_table.specs.Config as config
use Rattle.rt_neighbour_table.specs.ConfigLaws.{length-config, config-again, config-read}
use Rattle.rt_neighbour_table.specs.Stats as stats
use Rattle.rt_neighbour_table.specs.StatsLaws.{length-stats, stats-again, stats-read}
use Rattle.rt_neighbour_table.specs.Parameter as parameter
use Rattle.rt_neighbour_table.specs.ParameterLaws as parameter_laws
use Rattle.rt_neighbour_table.specs.declared.config.NeighbourTableConfig.{NeighbourTableConfig}
use Rattle.rt_neighbour_table.specs.declared.stats.NeighbourTableStats.{NeighbourTableStats}
use Rattle.rt_neighbour_table.specs.declared.parameter.NeighbourTableParameter.{NeighbourTableParameter}
use Rattle.rt_neighbour_table.specs.declared.attribute.NeighbourTableAttribute.{NeighbourTableAttribute}
use Rattle.rt_neighbour_table.specs.declared.attribute.NeighbourTableAttribute.TheVariants.{Name, Threshold1, Threshold2, Threshold3, Config, Parms, Stats, GcInterval, Other}
use Rattle.rt_neighbour_table.specs.NeighbourTableAttribute.{config_at, stats_at, parameters_text, parameters_at, rows, kind, value, attribute_at, ParametersReadBack, ReadsBack}

-- ---- names

-- A name is what stands before its NUL.
stripped : (name : List ℕ) → without_nul (name ++ 0 ∷ []) ≡ name
stripped name =
    let text = name ++ 0 ∷ [] in
    let len : length text ≡ length name + 1 = length-append name (0 ∷ []) in
    let some = ne_eqb (length text) 0 (λ none. absurd (omega (arith, len, none))) in
    let last : length text - 1 ≡ length name = omega (arith, len) in
    let end : length name + 0 ≡ length name = omega arith in
    let nul : get_or text (length name) 0 ≡ 0 = subst (λ (k : ℕ). get_or text k 0 ≡ 0) end (get_or-append-add name (0 ∷ []) 0 0) in
    rw (some, last, nul, take_at name (0 ∷ []) (length name) refl) refl

name-again : (name : List ℕ) → is_utf8 name ≡ true → name_of (name ++ 0 ∷ []) ≡ Ok name
name-again name utf8 = rw (stripped name, utf8) refl

name-if : (b : Bool) (text name : List ℕ) → is_utf8 text ≡ b → (if b then Ok text else Err BadText) ≡ Ok name → is_utf8 name ≡ true
name-if true text name utf8 is =
    let same : text ≡ name = cc in
    subst (λ (t : List ℕ). is_utf8 t ≡ true) same utf8
name-if false text name utf8 is = absurd cc

name-read : (bytes name : List ℕ) → AreBytes bytes → name_of bytes ≡ Ok name → is_utf8 name ≡ true
name-read bytes name are is = name-if (is_utf8 (without_nul bytes)) (without_nul bytes) name refl is

-- ---- structs

config-value-again : (c : NeighbourTableConfig) → config.ReadsBack c → config_at (config.config_text c) ≡ Ok c
config-value-again c back = sized-again 32 config.config_text config.config_at c (length-config c) (λ more. config-again c more back)

config-value-read : (bytes : List ℕ) (c : NeighbourTableConfig) → AreBytes bytes → config_at bytes ≡ Ok c → config.ReadsBack c
config-value-read bytes c are is =
    subst (λ (d : NeighbourTableConfig). config.ReadsBack d) (sized-read 32 bytes (config.config_at bytes) c is) (config-read bytes are)

stats-value-again : (s : NeighbourTableStats) → stats.ReadsBack s → stats_at (stats.stats_text s) ≡ Ok s
stats-value-again s back = sized-again 88 stats.stats_text stats.stats_at s (length-stats s) (λ more. stats-again s more back)

stats-value-read : (bytes : List ℕ) (s : NeighbourTableStats) → AreBytes bytes → stats_at bytes ≡ Ok s → stats.ReadsBack s
stats-value-read bytes s are is =
    subst (λ (t : NeighbourTableStats). stats.ReadsBack t) (sized-read 88 bytes (stats.stats_at bytes) s is) (stats-read bytes are)

-- ---- parameters

some_bytes : (ps : List NeighbourTableParameter) → 0 < length ps → 0 < length (parameters_text ps)
some_bytes [] some = absurd (omega arith)
some_bytes (p ∷ ps) some =
    omega (
      arith,
      length-append (attribute_text (parameter.kind p) (parameter.value p)) (parameters_text ps),
      length-attribute (parameter.kind p) (parameter.value p),
    )

parameters-again : (ps : List NeighbourTableParameter) → ParametersReadBack ps → length (parameters_text ps) ≤ 65531
    → parameters_at (parameters_text ps) ≡ Ok ps
parameters-again ps back short =
    let fit = fit-parts parameter.kind parameter.value ps (all_fit parameter.kind parameter.value ps short) in
    let one = fitting-again parameter.kind parameter.value parameter.attribute_at parameter.ReadsBack (parameter_laws.attribute-again tt) ps
    fit.0 back.each in
    let some = ne_eqb (length (parameters_text ps)) 0 (λ none. absurd (omega (arith, none, some_bytes ps back.some))) in
    rw some (attributes-again parameter.kind parameter.value parameter.attribute_at ps one)

not_none : (r : Result NeighbourTableParameter DecodeError) (rest : Result (List NeighbourTableParameter) DecodeError)
    → (r >>= λ p. rest >>= λ ps. Ok (p ∷ ps)) ≡ Ok [] → ⊥
not_none (Ok p) (Ok ps) is = cc
not_none (Ok p) (Err e) is = cc
not_none (Err e) rest is = cc

read_none : (b : Bool) (bytes : List ℕ) → is_checked bytes ≡ b → 0 < length bytes → attributes parameter.attribute_at bytes ≡ Ok [] → ⊥
read_none true bytes e some is =
    let first = (left_to_right parameter.attribute_at).first bytes some e in
    not_none (parameter.attribute_at bytes) (attributes parameter.attribute_at (after bytes)) (sym first ∙ is)
read_none false bytes e some is =
    let fault = (left_to_right parameter.attribute_at).fault bytes some e in
    cc

at_least_one : (bytes : List ℕ) (ps : List NeighbourTableParameter) → 0 < length bytes → attributes parameter.attribute_at bytes ≡ Ok ps
    → 0 < length ps
at_least_one bytes [] some is = absurd (read_none (is_checked bytes) bytes refl some is)
at_least_one bytes (p ∷ ps) some is = omega arith

parameters-read-if : (b : Bool) (bytes : List ℕ) (ps : List NeighbourTableParameter) → AreBytes bytes → (length bytes == 0) ≡ b
    → (if b then Err BadAttribute else attributes parameter.attribute_at bytes) ≡ Ok ps → ParametersReadBack ps
parameters-read-if true bytes ps are e is = absurd cc
parameters-read-if false bytes ps are e is =
    let some = eqb-false (length bytes) 0 e in
    record {
      some = at_least_one bytes ps (omega (arith, some)) is;
      each = each-read parameter.ReadsBack parameter.attribute_at (parameter_laws.attribute-read tt) ps bytes are is;
    }

parameters-read : (bytes : List ℕ) (ps : List NeighbourTableParameter) → AreBytes bytes → parameters_at bytes ≡ Ok ps → ParametersReadBack ps
parameters-read bytes ps are is = parameters-read-if (length bytes == 0) bytes ps are refl is

-- ---- attributes

again : (x : NeighbourTableAttribute) → kind x < 65536 → length (value x) ≤ 65531
    → ((o : NeighbourTableAttribute) → read_by rows (kind x % 16384) (value x) o ≡ Ok x) → ReadsAgain kind value attribute_at x
again x fits short is = row-again rows (λ n. Other n) kind value x fits short is

-- An attribute that reads back does so, where its length fits its field.
pub attribute-again : (p : Unit {0}) (x : NeighbourTableAttribute) → ReadsBack x → length (value x) ≤ 65531
    → ReadsAgain kind value attribute_at x
attribute-again p (Name name) h short = again (Name name) (omega arith) short (λ o. rw (name-again name h) refl)
attribute-again p (Threshold1 n) h short = again (Threshold1 n) (omega arith) short (λ o. rw (number32-le32 n h) refl)
attribute-again p (Threshold2 n) h short = again (Threshold2 n) (omega arith) short (λ o. rw (number32-le32 n h) refl)
attribute-again p (Threshold3 n) h short = again (Threshold3 n) (omega arith) short (λ o. rw (number32-le32 n h) refl)
attribute-again p (Config c) h short = again (Config c) (omega arith) short (λ o. rw (config-value-again c h) refl)
attribute-again p (Parms ps) h short = again (Parms ps) (omega arith) short (λ o. rw (parameters-again ps h short) refl)
attribute-again p (Stats s) h short = again (Stats s) (omega arith) short (λ o. rw (stats-value-again s h) refl)
attribute-again p (GcInterval n) h short = again (GcInterval n) (omega arith) short (λ o. rw (number64-le64 n h) refl)
attribute-again p (Other n) h short = other-again rows (λ n. Other n) kind value n refl refl h short

threshold : (k : ℕ) (make : ℕ → NeighbourTableAttribute) → ((n : ℕ) → n < 2 ^ 32 → ReadsBack (make n)) → RowReads ReadsBack (row k number32 make)
threshold k make makes = row-reads (λ n. n < 2 ^ 32) ReadsBack number32 make k number32-below makes

-- An attribute that was read from bytes reads back.
pub attribute-read : (p : Unit {0}) (bytes : List ℕ) (x : NeighbourTableAttribute) → AreBytes bytes → is_checked bytes ≡ true
    → attribute_at bytes ≡ Ok x → ReadsBack x
attribute-read p bytes x are checked is =
    attribute-reads ReadsBack rows (λ n. Other n) bytes x are (
    row-reads (λ name. is_utf8 name ≡ true) ReadsBack name_of (λ name. Name name) 1 name-read (λ name fits. fits)
    & threshold 2 (λ n. Threshold1 n) (λ n fits. fits)
    & threshold 3 (λ n. Threshold2 n) (λ n fits. fits)
    & threshold 4 (λ n. Threshold3 n) (λ n fits. fits)
    & row-reads (λ c. config.ReadsBack c) ReadsBack config_at (λ c. Config c) 5 config-value-read (λ c fits. fits)
    & row-reads (λ ps. ParametersReadBack ps) ReadsBack parameters_at (λ ps. Parms ps) 6 parameters-read (λ ps fits. fits)
    & row-reads (λ s. stats.ReadsBack s) ReadsBack stats_at (λ s. Stats s) 7 stats-value-read (λ s fits. fits)
    & row-reads (λ n. n < 2 ^ 64) ReadsBack number64 (λ n. GcInterval n) 8 number64-below (λ n fits. fits)
    & tt
    ) (λ n none. none) is
