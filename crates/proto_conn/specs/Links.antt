-- What a link stands for, and what its answers say.
use Rattle.std.specs.Prelude.{◌≡◌, ◌≢◌, ◌+◌, ◌==◌, if◌then◌else◌, ◌<◌, ◌≤◌, ◌^◌, ◌⊎◌, ℕ, Bool, true, false}
use Rattle.std.specs.Prelude.{List, [], ◌∷◌, ◌++◌, length, take, Option, Some, None, IfSome}
use Rattle.session_model.specs.declared.address.SocketAddr.{SocketAddr}
use Rattle.proto_conn.specs.declared.link.Arrival.{Arrival}
use Rattle.proto_conn.specs.declared.link.Arrival.TheVariants as arrival
use Rattle.proto_conn.specs.declared.link.Posted.{Posted}
use Rattle.proto_conn.specs.declared.link.Received.{Received}
use Rattle.proto_conn.specs.declared.link.Received.TheVariants as received
use Rattle.proto_conn.specs.declared.link.Sent.{Sent}
use Rattle.proto_conn.specs.declared.link.Sent.TheVariants as sent

-- How far a link can be relied on. A sure sender takes all bytes of a datagram, unless memory is wanting. A prompt link is one, never fails, and is
-- not ready only where nothing waits.
pub data Manners : Type 0 where
  Prompt : Manners
  SureSender : Manners
  Free : Manners

abbrev pub is_prompt : Manners → Bool
is_prompt Prompt = true
is_prompt SureSender = false
is_prompt Free = false

abbrev pub is_sure : Manners → Bool
is_sure Prompt = true
is_sure SureSender = true
is_sure Free = false

-- What waits and what was sent, each where the link tells it; how often it failed, wasn't ready, and said that it is closed; a bound on the
-- datagrams and overruns before another answer; its manners.
pub record Meaning : Type 0 where
  pub waits : Option (List Arrival)
  pub posted : Option (List Posted)
  pub faults : ℕ
  pub stalls : ℕ
  pub closings : ℕ
  pub backlog : ℕ
  pub manners : Manners

-- A count rose. One that has reached the greatest number stays there, and counts as risen from then on.
abbrev pub HasRisen : ℕ → ℕ → Type 0
HasRisen before now = (before < now) ⊎ (2 ^ 64 ≤ now + 1)

abbrev pub with_front : {X : Type 0} → List X → Option (List X) → Option (List X)
with_front front None = None
with_front front (Some xs) = Some (front ++ xs)

abbrev pub with_back : {X : Type 0} → Option (List X) → List X → Option (List X)
with_back None back = None
with_back (Some xs) back = Some (xs ++ back)

-- No count falls, a prompt link stays prompt, and a sure sender stays one.
pub record IsLater (before now : Meaning) : Type 0 where
  pub faults : before.faults ≤ now.faults
  pub stalls : before.stalls ≤ now.stalls
  pub closings : before.closings ≤ now.closings
  pub prompt : is_prompt before.manners ≡ true → is_prompt now.manners ≡ true
  pub sure : is_sure before.manners ≡ true → is_sure now.manners ≡ true

-- The arrival that an answer takes away, if it takes one: only the first `Closed` does.
abbrev pub closing : ℕ → List Arrival
closing n = if n == 0 then arrival.Closed ∷ [] else []

abbrev pub taken_by : ℕ → Received → List ℕ → List Arrival
taken_by closings (received.Datagram source) bytes = arrival.Datagram source bytes ∷ []
taken_by closings received.Overrun bytes = arrival.Overrun ∷ []
taken_by closings received.Closed bytes = closing closings
taken_by closings received.NotReady bytes = []
taken_by closings received.Failed bytes = []

-- When an answer of `recv` comes.
abbrev pub ReceiveCause : Meaning → Received → List ℕ → Meaning → Type 0
ReceiveCause before (received.Datagram source) bytes now = (length bytes ≤ 65536) × (now.backlog < before.backlog)
ReceiveCause before received.Overrun bytes now = (bytes ≡ []) × (now.backlog < before.backlog)
ReceiveCause before received.Closed bytes now = bytes ≡ []
ReceiveCause before received.NotReady bytes now = (bytes ≡ []) × HasRisen before.stalls now.stalls × (is_prompt before.manners ≡ true
    → IfSome before.waits (λ waits. waits ≡ []))
ReceiveCause before received.Failed bytes now = (bytes ≡ []) × HasRisen before.faults now.faults × (is_prompt before.manners ≡ false)

-- The count of answers that the link is closed rises with such an answer alone.
abbrev pub ClosingsAfter : Received → ℕ → ℕ → Type 0
ClosingsAfter (received.Datagram source) before now = now ≡ before
ClosingsAfter received.Overrun before now = now ≡ before
ClosingsAfter received.Closed before now = HasRisen before now
ClosingsAfter received.NotReady before now = now ≡ before
ClosingsAfter received.Failed before now = now ≡ before

pub record DidReceive (before : Meaning) (answer : Received) (bytes : List ℕ) (now : Meaning) : Type 0 where
  pub later : IsLater before now
  pub posted : now.posted ≡ before.posted
  pub waits : before.waits ≡ with_front (taken_by before.closings answer bytes) now.waits
  pub closings : ClosingsAfter answer before.closings now.closings
  pub cause : ReceiveCause before answer bytes now

-- When an answer of `send` comes.
abbrev pub SendCause : Meaning → Sent → List ℕ → Meaning → Type 0
SendCause before (sent.Sent n) bytes now = (n ≤ length bytes) × (n ≢ length bytes → HasRisen before.faults now.faults × (is_sure before.manners ≡ false))
SendCause before sent.NotReady bytes now = HasRisen before.stalls now.stalls × (is_sure before.manners ≡ false)
SendCause before sent.Failed bytes now = HasRisen before.faults now.faults × (is_sure before.manners ≡ false)
SendCause before sent.NoMemory bytes now = Unit {0}

abbrev pub posted_by : Sent → List ℕ → SocketAddr → List Posted
posted_by (sent.Sent n) bytes to = record { bytes = take n bytes; to = to } ∷ []
posted_by sent.NotReady bytes to = []
posted_by sent.Failed bytes to = []
posted_by sent.NoMemory bytes to = []

pub record DidSend (before : Meaning) (answer : Sent) (bytes : List ℕ) (to : SocketAddr) (now : Meaning) : Type 0 where
  pub later : IsLater before now
  pub waits : now.waits ≡ before.waits
  pub posted : now.posted ≡ with_back before.posted (posted_by answer bytes to)
  pub closings : now.closings ≡ before.closings
  pub cause : SendCause before answer bytes now
