-- States of neighbours: their numbers and their names.
use Rattle.std.specs.Prelude.{◌≢◌, ◌<◌, ◌^◌, ◌==◌, ◌++◌, ℕ, List, [], ◌∷◌, codes, nat_eq, if◌then◌else◌, Option, Some, None as Nothing, Result, Ok, Err}
use Rattle.std.specs.Cmp.Lexicographic.{pointwise}
use Rattle.std.specs.Fmt.{decimal}
use Rattle.std.specs.List.{AllByRecursion}
use Rattle.nl_core.specs.declared.error.DecodeError.{DecodeError}
use Rattle.nl_core.specs.declared.error.DecodeError.TheVariants.{BadText}
use Rattle.rt_neighbour.specs.declared.state.NeighbourState.{NeighbourState}
use Rattle.rt_neighbour.specs.declared.state.NeighbourState.TheVariants.{Incomplete, Reachable, Stale, Delay, Probe, Failed, Noarp, Permanent, None, Other}

-- ---- the table

-- A state that has a name, and its number and its name.
pub record StateRow : Type 0 where
  pub number : ℕ
  pub name : List ℕ
  pub state : NeighbourState

abbrev state_row : ℕ → List ℕ → NeighbourState → StateRow
state_row number name state = record { number = number; name = name; state = state }

-- The nine states that have names.
abbrev pub states : List StateRow
states =
    state_row 1 (codes "incomplete") Incomplete ∷ state_row 2 (codes "reachable") Reachable ∷ state_row 4 (codes "stale") Stale
    ∷ state_row 8 (codes "delay") Delay ∷ state_row 16 (codes "probe") Probe ∷ state_row 32 (codes "failed") Failed
    ∷ state_row 64 (codes "noarp") Noarp ∷ state_row 128 (codes "permanent") Permanent ∷ state_row 0 (codes "none") None ∷ []

-- ---- numbers

-- The state of a number among some.
abbrev pub numbered : List StateRow → ℕ → NeighbourState
numbered [] n = Other n
numbered (row ∷ rows) n = if n == row.number then row.state else numbered rows n

-- The state that a number stands for.
abbrev pub state_of : ℕ → NeighbourState
state_of n = numbered states n

-- The number of a state.
abbrev pub state_number : NeighbourState → ℕ
state_number Incomplete = 1
state_number Reachable = 2
state_number Stale = 4
state_number Delay = 8
state_number Probe = 16
state_number Failed = 32
state_number Noarp = 64
state_number Permanent = 128
state_number None = 0
state_number (Other n) = n

-- ---- names

-- The name of a state, or its number.
abbrev pub state_name : NeighbourState → List ℕ
state_name Incomplete = codes "incomplete"
state_name Reachable = codes "reachable"
state_name Stale = codes "stale"
state_name Delay = codes "delay"
state_name Probe = codes "probe"
state_name Failed = codes "failed"
state_name Noarp = codes "noarp"
state_name Permanent = codes "permanent"
state_name None = codes "none"
state_name (Other n) = codes "other(" ++ decimal n ++ codes ")"

-- The state of a name among some.
abbrev pub named_in : List StateRow → List ℕ → Option NeighbourState
named_in [] text = Nothing
named_in (row ∷ rows) text = if pointwise nat_eq text row.name then Some row.state else named_in rows text

-- The state that a text names, if it is one of the nine names.
abbrev pub named : List ℕ → Option NeighbourState
named text = named_in states text

-- What is read of a state that may have a name.
abbrev pub or_bad_text : Option NeighbourState → Result NeighbourState DecodeError
or_bad_text (Some state) = Ok state
or_bad_text Nothing = Err BadText

-- The state that a text names; refused where it is none of the nine names.
abbrev pub state_at : List ℕ → Result NeighbourState DecodeError
state_at text = or_bad_text (named text)

-- ---- what reads back

-- A state reads back from its number: another one is two bytes, and none of the nine numbers.
abbrev pub ReadsBack : NeighbourState → Type 0
ReadsBack (Other n) = (n < 2 ^ 16) × AllByRecursion (λ row. n ≢ row.number) states
ReadsBack _ = Unit {0}
