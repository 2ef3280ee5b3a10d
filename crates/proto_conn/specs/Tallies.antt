-- What is kept of each stream, so that a question about one looks at no other.
use Rattle.std.specs.Prelude.{◌≡◌, ◌+◌, ◌-◌, ◌<◌, ◌≤◌, ◌==◌, ◌&&◌, if◌then◌else◌, ℕ, Bool, List, [], ◌∷◌, length, nat_lt, slice_index_or, slice_set}
use Rattle.std.specs.List.{AllByRecursion, count_by, list_any}
use Rattle.session_model.specs.declared.awaited.Awaited.{Awaited}
use Rattle.proto_core.specs.declared.messages.Handled.{Handled}
use Rattle.proto_core.specs.declared.messages.Place.{Place}
use Rattle.proto_core.specs.declared.messages.Place.TheVariants.{Reply, Unsolicited}
use Rattle.proto_core.specs.declared.messages.Response.{Response}
use Rattle.proto_core.specs.declared.request.Request.{Request}
use Rattle.proto_conn.specs.declared.tally.Tally.{Tally}

-- By stream, from 1, how many of its numbers are awaited and the place of its newest reply among the arrivals; and the place up to which all replies
-- were handed on.
pub record Tallied : Type 0 where
  pub streams : List Tally
  pub handed : ℕ

-- A stream of which nothing is awaited, and that had no reply.
abbrev pub no_tally : Tally
no_tally = record { awaited = 0; newest = 0 }

abbrev pub tally_at : List Tally → ℕ → Tally
tally_at streams k = slice_index_or streams k no_tally

-- A stream after a reply, which ended its number or didn't.
abbrev pub after_reply : Bool → ℕ → Tally → Tally
after_reply done arrival t = record { awaited = t.awaited - (if done then 1 else 0); newest = arrival }

abbrev pub with_reply : ℕ → Bool → ℕ → Tallied → Tallied
with_reply stream done arrival t =
    record t { streams = slice_set t.streams (stream - 1) (after_reply done arrival (tally_at t.streams (stream - 1))) }

-- The stream of a reply was given.
abbrev pub IsGiven : ℕ → Place ℕ → Type 0
IsGiven given (Reply stream done) = (0 < stream) × (stream ≤ given)
IsGiven given Unsolicited = Unit {0}

-- What is kept once a message was taken in.
abbrev pub with_place : Place ℕ → ℕ → Tallied → Tallied
with_place (Reply stream done) arrival t = with_reply stream done arrival t
with_place Unsolicited arrival t = t

abbrev pub with_handled : Handled ℕ → Tallied → Tallied
with_handled h t = with_place h.to h.arrival t

-- A stream after a request, of which so many numbers are awaited.
abbrev pub after_request : ℕ → Tally → Tally
after_request n t = record t { awaited = t.awaited + n }

abbrev pub with_request : ℕ → ℕ → Tallied → Tallied
with_request stream n t = record t { streams = slice_set t.streams (stream - 1) (after_request n (tally_at t.streams (stream - 1))) }

-- What is kept says whether a number of a stream is awaited, and whether a reply of it waits.
abbrev pub says_awaited : ℕ → Tallied → Bool
says_awaited stream t = nat_lt 0 stream && nat_lt 0 (tally_at t.streams (stream - 1)).awaited

abbrev pub says_reply : ℕ → Tallied → Bool
says_reply stream t = nat_lt 0 stream && nat_lt t.handed (tally_at t.streams (stream - 1)).newest

-- A number of a stream is awaited.
abbrev pub awaits_of : ℕ → List (Awaited ℕ) → Bool
awaits_of stream ws = list_any (λ (w : Awaited ℕ). w.stream == stream) ws

-- How many numbers of a stream are awaited.
abbrev pub count_of : ℕ → List (Awaited ℕ) → ℕ
count_of stream ws = count_by (λ (w : Awaited ℕ). w.stream == stream) ws

module _ {T : Type 0} where
  -- A reply of a stream waits in a session.
  abbrev pub replies_of : ℕ → List (Response T ℕ) → Bool
  replies_of stream rs = list_any (λ (r : Response T ℕ). r.metadata == stream) rs

  -- What is kept of the streams is so in a session with this awaited, these replies, and so many arrivals.
  pub record IsTallied (ws : List (Awaited ℕ)) (rs : List (Response T ℕ)) (arrived : ℕ) (t : Tallied) : Type 0 where
    pub numbers : (k : ℕ) → (tally_at t.streams k).awaited ≡ count_of (k + 1) ws
    pub replies : (k : ℕ) → nat_lt t.handed (tally_at t.streams k).newest ≡ replies_of (k + 1) rs
    pub newest : (k : ℕ) → (tally_at t.streams k).newest ≤ arrived
    pub handed : t.handed ≤ arrived
    pub named : AllByRecursion (λ (w : Awaited ℕ). 0 < w.stream) ws
    pub answered : AllByRecursion (λ (r : Response T ℕ). 0 < r.metadata) rs

  -- The streams of replies are below a number.
  abbrev pub AreBelow : ℕ → List (Response T ℕ) → Type 0
  AreBelow n rs = AllByRecursion (λ (r : Response T ℕ). r.metadata < n) rs

  -- The requests of a queue are those of the newest streams, in order.
  abbrev pub AreNewest : ℕ → List (Request T ℕ) → Type 0
  AreNewest given [] = Unit {0}
  AreNewest given (r ∷ rs) = (0 < r.metadata) × (r.metadata + length rs ≡ given) × AreNewest given rs
