-- Statistics by address family: what is read and what is written.
use Rattle.std.specs.Prelude.{◌≡◌, ◌==◌, ℕ, zero, suc, List, [], ◌∷◌, ◌++◌, length, if◌then◌else◌, Result, Ok, Err}
use Rattle.std.specs.List.{AllByRecursion}
use Rattle.nl_core.specs.declared.error.DecodeError.{DecodeError}
use Rattle.nl_core.specs.declared.error.DecodeError.TheVariants.{BadAttribute}
use Rattle.nl_core.specs.Reading.{◌>>=◌, sized}
use Rattle.nl_core.specs.Attribute.{is_checked, kind_of, value_of, after, attribute_text, attributes}
use Rattle.rt_layout.specs.Rows.{Row, row, attribute_by, IsOfNoRow}
use Rattle.rt_stats.specs.MplsLink as mpls
use Rattle.rt_stats.specs.declared.stats.mpls.MplsLinkStats.{MplsLinkStats}
use Rattle.rt_stats.specs.declared.stats.af_spec.AfSpecStat.{AfSpecStat}
use Rattle.rt_stats.specs.declared.stats.af_spec.AfSpecStat.TheVariants.{Mpls, Other}
use Rattle.rt_stats.specs.declared.stats.af_spec.AfSpecStats.{AfSpecStats}

-- ---- entries of MPLS

-- The counters at the front of 72 or more bytes.
abbrev pub mpls_at : List ℕ → Result MplsLinkStats DecodeError
mpls_at bytes = sized 72 bytes (mpls.mpls_at bytes)

-- Counters of zero.
abbrev pub zeros : MplsLinkStats
zeros = record {
  rx_packets = 0;
  tx_packets = 0;
  rx_bytes = 0;
  tx_bytes = 0;
  rx_errors = 0;
  tx_errors = 0;
  rx_dropped = 0;
  tx_dropped = 0;
  rx_noroute = 0;
}

-- The counters of the first attribute of type 1 among at most so many; what follows it is not looked at.
unfoldable pub first_among : ℕ → List ℕ → Result MplsLinkStats DecodeError
first_among fuel [] = Ok zeros
first_among zero (b ∷ bytes) = Err BadAttribute
first_among (suc fuel) (b ∷ bytes) =
    if is_checked (b ∷ bytes)
    then (if kind_of (b ∷ bytes) == 1 then mpls_at (value_of (b ∷ bytes)) else first_among fuel (after (b ∷ bytes)))
    else Err BadAttribute

-- The counters of an entry: those of its first attribute of type 1, zeros where there is none; there are fewer attributes
-- than bytes.
unfoldable pub entry_at : List ℕ → Result MplsLinkStats DecodeError
entry_at bytes = first_among (length bytes) bytes

-- The bytes of an entry.
abbrev pub entry_text : MplsLinkStats → List ℕ
entry_text s = attribute_text 1 (mpls.mpls_text s)

-- ---- attributes

-- The type and the value as they are written.
abbrev pub written : AfSpecStat → ℕ × List ℕ
written (Mpls s) = (28, entry_text s)
written (Other n) = (n.kind, n.value)

-- What values are read as, by their types.
abbrev pub rows : List (Row AfSpecStat)
rows = row 28 entry_at (λ s. Mpls s) ∷ []

-- The type as it is written.
abbrev pub kind : AfSpecStat → ℕ
kind x = (written x).0

-- The bytes of the value.
abbrev pub value : AfSpecStat → List ℕ
value x = (written x).1

-- What the attribute at the front of bytes is read as.
abbrev pub attribute_at : List ℕ → Result AfSpecStat DecodeError
attribute_at bytes = attribute_by rows (λ n. Other n) bytes

-- The statistics that bytes are.
abbrev pub stats_at : List ℕ → Result AfSpecStats DecodeError
stats_at bytes = attributes attribute_at bytes >>= λ xs. Ok (record { 0 = xs })

-- ---- what reads back

-- An attribute reads back: its counters fit their fields, and another one has a type that no row has.
abbrev pub ReadsBack : AfSpecStat → Type 0
ReadsBack (Mpls s) = mpls.ReadsBack s
ReadsBack (Other n) = IsOfNoRow rows n

-- Statistics read back: each of them does.
abbrev pub AllReadBack : AfSpecStats → Type 0
AllReadBack s = AllByRecursion ReadsBack s.0

-- The counters of an entry read back, whatever follows them in it.
abbrev pub EntriesReadBack : Type 0
EntriesReadBack = (s : MplsLinkStats) (more : List ℕ) → mpls.ReadsBack s → entry_at (entry_text s ++ more) ≡ Ok s
