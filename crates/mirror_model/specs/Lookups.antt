-- What a lookup answers at a place of a session.
use Rattle.std.specs.Prelude.{◌&&◌, ◌||◌, ℕ, Bool, if◌then◌else◌, not, List, length, Option, Some}
use Rattle.std.specs.FinMap.{empty}
use Rattle.std.specs.Ordering.{nat_cmp}
use Rattle.session_model.specs.Events.{Event}
use Rattle.session_model.specs.Streams.{is_shut}
use Rattle.session_model.specs.declared.network.Address.{Address}
use Rattle.session_model.specs.declared.network.Network.{Network}
use Rattle.mirror_model.specs.declared.answer.Answer.{Answer}
use Rattle.mirror_model.specs.declared.answer.Answer.TheVariants.{Stale}
use Rattle.mirror_model.specs.MirrorState.{MirrorState, fresh, state_after}
use Rattle.mirror_model.specs.Clean.{is_in_step_at, table_at}
use Rattle.mirror_model.specs.FiniteTables.{finite}
use Rattle.mirror_model.specs.Sessions.{Reader, table_events}
use Rattle.mirror_model.specs.Routes.{RouteKey, NextHop, RouteTable, LinkTable, key_cmp, lookup}
use Rattle.mirror_model.specs.Blocked.{blocked_at}

-- How a mirror reads its session: for routes, for links, and whether links count.
pub record Readers (M : Type 0) : Type 0 where
  pub routes : Reader M RouteKey NextHop
  pub links : Reader M ℕ Bool
  pub links_count : Bool

-- The answer of a mirror by its state for routes, what it knows of links, and what is blocked.
abbrev pub lookup_in : MirrorState RouteTable → Option LinkTable → List Network → Address → Answer
lookup_in m links blocked a = if m.closed then Stale else lookup a blocked m.in_force links

module _ {M : Type 0} (r : Readers M) where
  -- The tables in force at a place.
  abbrev pub routes_at : ℕ → List (Event M) → Option RouteTable
  routes_at start es = table_at (finite key_cmp) (table_events r.routes start es)

  -- Where links don't count, nothing is known of them.
  abbrev pub links_at : ℕ → List (Event M) → Option LinkTable
  links_at start es = if r.links_count then table_at (finite nat_cmp) (table_events r.links start es) else Some empty

  -- The answer for an address at a place: stale once the link has closed, and where a table isn't in force.
  abbrev pub lookup_at : ℕ → List (Event M) → Address → Answer
  lookup_at start es a = if is_shut es then Stale else lookup a (blocked_at es) (routes_at start es) (links_at start es)

  -- Whether a mirror is in step at a place: for routes, and for links where they count.
  abbrev pub is_in_step_for : ℕ → List (Event M) → Bool
  is_in_step_for start es =
      is_in_step_at (table_events r.routes start es) && (not r.links_count || is_in_step_at (table_events r.links start es))

  -- The answer for an address by the peer's own tables at a place, which are given for each place; stale where a mirror
  -- isn't in step.
  abbrev pub peer_answer : ℕ → (ℕ → RouteTable) → (ℕ → LinkTable) → List (Event M) → Address → Answer
  peer_answer start routes links es a =
      if is_in_step_for start es then lookup a (blocked_at es) (Some (routes (length es))) (Some (links (length es))) else Stale

  -- The state of a mirror for routes that took the events one after another.
  abbrev pub routes_state : ℕ → List (Event M) → MirrorState RouteTable
  routes_state start es = state_after (finite key_cmp) (table_events r.routes start es) fresh

  -- The same for links.
  abbrev pub links_state : ℕ → List (Event M) → MirrorState LinkTable
  links_state start es = state_after (finite nat_cmp) (table_events r.links start es) fresh

  -- What is in force of links, where they count.
  abbrev pub links_in_force : MirrorState LinkTable → Option LinkTable
  links_in_force m = if r.links_count then m.in_force else Some empty
