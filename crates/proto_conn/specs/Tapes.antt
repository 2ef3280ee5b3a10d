-- What a tape is, what it stands for as a link, and what its plan makes of a call.
use Rattle.std.specs.Prelude.{◌≡◌, ◌+◌, ◌-◌, ◌≤◌, ◌^◌, ◌==◌, ◌⊎◌, ℕ, zero, suc, if◌then◌else◌, List, [], ◌∷◌, length, min, Some}
use Rattle.std.specs.List.{list_any}
use Rattle.proto_conn.specs.declared.link.Arrival.{Arrival}
use Rattle.proto_conn.specs.declared.link.Arrival.TheVariants as arrival
use Rattle.proto_conn.specs.declared.link.Posted.{Posted}
use Rattle.proto_conn.specs.declared.link.Received.{Received}
use Rattle.proto_conn.specs.declared.link.Received.TheVariants as received
use Rattle.proto_conn.specs.declared.link.Sent.{Sent}
use Rattle.proto_conn.specs.declared.link.Sent.TheVariants as sent
use Rattle.proto_conn.specs.declared.tape.Planned.{Planned}
use Rattle.proto_conn.specs.declared.tape.Planned.TheVariants as planned
use Rattle.proto_conn.specs.Links.{Manners, Prompt, Free, Meaning}

-- What waits, oldest first; what was sent, oldest first; the calls that fail and those that aren't ready; and how many calls, faults, answers
-- that it isn't ready, and answers that it is closed there were.
pub record Tape : Type 0 where
  pub waits : List Arrival
  pub posted : List Posted
  pub fail : List ℕ
  pub stall : List ℕ
  pub calls : ℕ
  pub faults : ℕ
  pub stalls : ℕ
  pub closings : ℕ

-- A datagram has at most 65,536 bytes.
abbrev pub IsSmall : Arrival → Type 0
IsSmall (arrival.Datagram source bytes) = length bytes ≤ 65536
IsSmall arrival.Overrun = Unit {0}
IsSmall arrival.Closed = Unit {0}

-- A tape whose plan is empty is prompt.
abbrev pub manners_of : List ℕ → List ℕ → Manners
manners_of [] [] = Prompt
manners_of [] (n ∷ stall) = Free
manners_of (n ∷ fail) stall = Free

abbrev pub means : Tape → Meaning
means t = record {
  waits = Some t.waits;
  posted = Some t.posted;
  faults = t.faults;
  stalls = t.stalls;
  closings = t.closings;
  backlog = length t.waits;
  manners = manners_of t.fail t.stall;
}

abbrev pub fresh_tape : List ℕ → List ℕ → Tape
fresh_tape fail stall = record { waits = []; posted = []; fail = fail; stall = stall; calls = 0; faults = 0; stalls = 0; closings = 0 }

-- One more, up to the greatest number that a count holds.
abbrev pub one_more : ℕ → ℕ
one_more n = min (n + 1) (2 ^ 64 - 1)

-- What the plan says of the call with a number.
abbrev pub plan_at : ℕ → List ℕ → List ℕ → Planned
plan_at n fail stall = if list_any (λ k. k == n) fail then planned.Fails else (if list_any (λ k. k == n) stall then planned.Stalls else planned.Works)

-- The plan of the next call; the calls are numbered from 1.
abbrev pub plan_of : Tape → Planned
plan_of t = plan_at (one_more t.calls) t.fail t.stall

-- A tape after a call was planned: the call is counted, and what the plan makes of it.
abbrev pub counted : Planned → Tape → Tape
counted planned.Works t = record t { calls = one_more t.calls }
counted planned.Fails t = record t { calls = one_more t.calls; faults = one_more t.faults }
counted planned.Stalls t = record t { calls = one_more t.calls; stalls = one_more t.stalls }

-- What a read that the plan leaves alone answers: the oldest arrival, until `Closed` was given.
abbrev pub oldest : List Arrival → Received
oldest [] = received.NotReady
oldest (arrival.Datagram source bytes ∷ waits) = received.Datagram source
oldest (arrival.Overrun ∷ waits) = received.Overrun
oldest (arrival.Closed ∷ waits) = received.Closed

abbrev pub given : ℕ → List Arrival → Received
given zero waits = oldest waits
given (suc n) waits = received.Closed

abbrev pub read_by : Planned → Tape → Received
read_by planned.Works t = given t.closings t.waits
read_by planned.Fails t = received.Failed
read_by planned.Stalls t = received.NotReady

-- What a send answers: by the plan, else all the bytes, unless memory is wanting.
abbrev pub SentBy : Planned → Sent → ℕ → Type 0
SentBy planned.Works answer len = (answer ≡ sent.Sent len) ⊎ (answer ≡ sent.NoMemory)
SentBy planned.Fails answer len = answer ≡ sent.Failed
SentBy planned.Stalls answer len = answer ≡ sent.NotReady
