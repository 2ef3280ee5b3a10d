-- A state is read again from its number.
use Rattle.std.proofs.Common.{◌≡◌, ◌≢◌, ◌==◌, ◌<◌, ◌^◌, ℕ, Bool, true, false, List, [], ◌∷◌, refl, arith}
use Rattle.std.specs.Prelude.{if◌then◌else◌}
use Rattle.std.specs.List.{AllByRecursion}
use Rattle.std.proofs.lemmas.Bool.{ne_eqb, eqb-false}
use Rattle.rt_neighbour.specs.declared.state.NeighbourState.{NeighbourState}
use Rattle.rt_neighbour.specs.declared.state.NeighbourState.TheVariants.{Incomplete, Reachable, Stale, Delay, Probe, Failed, Noarp, Permanent, None, Other}
use Rattle.rt_neighbour.specs.State.{StateRow, states, numbered, state_of, state_number, ReadsBack}

-- ---- written and read

unnumbered : (rows : List StateRow) (n : ℕ) → AllByRecursion (λ row. n ≢ row.number) rows → numbered rows n ≡ Other n
unnumbered [] n none = refl
unnumbered (row ∷ rows) n none = rw (ne_eqb n row.number none.0) (unnumbered rows n none.1)

-- A state that reads back does so from its number.
pub state-again : (s : NeighbourState) → ReadsBack s → state_of (state_number s) ≡ s
state-again Incomplete h = refl
state-again Reachable h = refl
state-again Stale h = refl
state-again Delay h = refl
state-again Probe h = refl
state-again Failed h = refl
state-again Noarp h = refl
state-again Permanent h = refl
state-again None h = refl
state-again (Other n) h = unnumbered states n h.1

-- The number of a state that reads back is two bytes.
pub state-fits : (s : NeighbourState) → ReadsBack s → state_number s < 2 ^ 16
state-fits Incomplete h = omega arith
state-fits Reachable h = omega arith
state-fits Stale h = omega arith
state-fits Delay h = omega arith
state-fits Probe h = omega arith
state-fits Failed h = omega arith
state-fits Noarp h = omega arith
state-fits Permanent h = omega arith
state-fits None h = omega arith
state-fits (Other n) h = h.0

-- ---- read

chosen : (b : Bool) (n m : ℕ) (first rest : NeighbourState) → (n == m) ≡ b → ReadsBack first → (n ≢ m → ReadsBack rest)
    → ReadsBack (if b then first else rest)
chosen true n m first rest e this others = this
chosen false n m first rest e this others = others (eqb-false n m e)

numbered-read : (rows : List StateRow) (n : ℕ) → AllByRecursion (λ row. ReadsBack row.state) rows
    → (AllByRecursion (λ row. n ≢ row.number) rows → ReadsBack (Other n)) → ReadsBack (numbered rows n)
numbered-read [] n each none = none tt
numbered-read (row ∷ rows) n each none =
    chosen (n == row.number) n row.number row.state (numbered rows n) refl each.0
    (λ ne. numbered-read rows n each.1 (λ nes. none (ne, nes)))

-- The state of two bytes reads back.
pub state-read : (n : ℕ) → n < 2 ^ 16 → ReadsBack (state_of n)
state-read n lt = numbered-read states n (tt, (tt, (tt, (tt, (tt, (tt, (tt, (tt, (tt, tt))))))))) (λ none. (lt, none))
