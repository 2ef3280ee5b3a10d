-- Networks, routes, and which route answers for an address.
use Rattle.std.specs.Prelude.{◌≡◌, ◌++◌, ◌==◌, ◌&&◌, ◌||◌, ℕ, Bool, true, false, not, if◌then◌else◌, List, [], ◌∷◌, nat_lt, Option, Some, None}
use Rattle.std.specs.List.{filter, list_any, AllByRecursion}
use Rattle.std.specs.FinMap.{FinMap, entries, get}
use Rattle.std.specs.Ordering.{nat_cmp, on, then_cmp}
use Rattle.std.specs.declared.cmp.Ordering.{Ordering}
use Rattle.session_model.specs.Networks.{length_of}
use Rattle.trie_model.specs.Nets.{Net, masked, covers}
use Rattle.session_model.specs.declared.network.Address.{Address}
use Rattle.session_model.specs.declared.network.Address.TheVariants as address
use Rattle.session_model.specs.declared.network.Network.{Network}
use Rattle.session_model.specs.declared.network.Network.TheVariants as network
use Rattle.mirror_model.specs.declared.route.Route.{Route}
use Rattle.mirror_model.specs.declared.answer.Answer.{Answer}
use Rattle.mirror_model.specs.declared.answer.Answer.TheVariants.{Stale, Absent, Found}

-- ---- networks

-- How many bits the addresses of an address's family have.
abbrev pub address_width : Address → ℕ
address_width (address.V4 number) = 32
address_width (address.V6 number) = 128

-- The same of a network.
abbrev pub width_of : Network → ℕ
width_of (network.V4 n) = 32
width_of (network.V6 n) = 128

-- The number of a network as it is given.
abbrev pub number_of : Network → ℕ
number_of (network.V4 n) = n.0
number_of (network.V6 n) = n.0

-- A network as a prefix of its family, without host bits.
abbrev pub net_of : Network → Net
net_of n = record { bits = masked (width_of n) (number_of n) (length_of n); len = length_of n }

-- An address as a prefix, all of whose bits count.
abbrev pub address_net : Address → Net
address_net (address.V4 number) = record { bits = number; len = 32 }
address_net (address.V6 number) = record { bits = number; len = 128 }

-- A network without its host bits.
abbrev pub without_host_bits : Network → Network
without_host_bits (network.V4 n) = network.V4 (masked 32 n.0 n.1, n.1)
without_host_bits (network.V6 n) = network.V6 (masked 128 n.0 n.1, n.1)

-- Whether a network contains an address.
abbrev pub contains : Network → Address → Bool
contains n a = (width_of n == address_width a) && covers (width_of n) (net_of n) (address_net a)

-- Whether a network contains another one, or is it.
abbrev pub contains_network : Network → Network → Bool
contains_network outer inner = (width_of outer == width_of inner) && covers (width_of outer) (net_of outer) (net_of inner)

-- ---- tables of routes and of links

-- What a peer knows a route by.
pub record RouteKey : Type 0 where
  pub network : Network
  pub priority : ℕ

-- What it does with what takes the route: the route's type, the link that it leaves by, and the gateway.
pub record NextHop : Type 0 where
  pub kind : ℕ
  pub oif : Option ℕ
  pub gateway : Option Address

-- By family, then number, then length, then priority.
abbrev pub key_cmp : RouteKey → RouteKey → Ordering
key_cmp =
    then_cmp (on (λ (k : RouteKey). width_of k.network) nat_cmp)
    (then_cmp (on (λ (k : RouteKey). number_of k.network) nat_cmp)
    (then_cmp (on (λ (k : RouteKey). length_of k.network) nat_cmp) (on (λ (k : RouteKey). k.priority) nat_cmp)))

-- A table of routes.
abbrev pub RouteTable : Type 0
RouteTable = FinMap key_cmp NextHop

-- What is known of links, by index: whether each is up.
abbrev pub LinkTable : Type 0
LinkTable = FinMap nat_cmp Bool

-- An entry of a table as the route that it is.
abbrev pub route_of : RouteKey × NextHop → Route
route_of e = record { network = e.0.network; priority = e.0.priority; kind = e.1.kind; oif = e.1.oif; gateway = e.1.gateway }

-- ---- which route answers

-- A link is down where it is known, and not to be up.
abbrev pub is_down : Option Bool → Bool
is_down None = false
is_down (Some up) = not up

-- Whether a route leaves by a link that is down.
abbrev pub leaves_by_down : LinkTable → Option ℕ → Bool
leaves_by_down links None = false
leaves_by_down links (Some oif) = is_down (get links oif)

-- A route may answer for an address where its network contains it, no blocked network contains its network, and it
-- doesn't leave by a link that is down.
abbrev pub may_answer : LinkTable → List Network → Address → RouteKey × NextHop → Bool
may_answer links blocked a e = contains e.0.network a && not (list_any (λ b. contains_network b e.0.network) blocked) && not (leaves_by_down links e.1.oif)

-- The longest network is preferred, then the least priority.
abbrev pub is_better : RouteKey → RouteKey → Bool
is_better a b = nat_lt (length_of b.network) (length_of a.network) || ((length_of a.network == length_of b.network) && nat_lt a.priority b.priority)

-- The better of two entries.
abbrev pub better : RouteKey × NextHop → Option (RouteKey × NextHop) → RouteKey × NextHop
better a None = a
better a (Some b) = if is_better b.0 a.0 then b else a

-- The best entry of a list.
abbrev pub best_of : List (RouteKey × NextHop) → Option (RouteKey × NextHop)
best_of [] = None
best_of (a ∷ routes) = Some (better a (best_of routes))

-- The best of the routes that pass a test: a search through all.
abbrev pub best_route : (RouteKey × NextHop → Bool) → RouteTable → Option (RouteKey × NextHop)
best_route passes table = best_of (filter passes (entries table))

-- What that means: a route that passes, and none that passes is better; or none passes.
abbrev pub IsBest : (RouteKey × NextHop → Bool) → List (RouteKey × NextHop) → Option (RouteKey × NextHop) → Type 0
IsBest passes routes None = AllByRecursion (λ e. passes e ≡ false) routes
IsBest passes routes (Some a) =
    ((front : List (RouteKey × NextHop)) × (back : List (RouteKey × NextHop)) × (routes ≡ front ++ a ∷ back))
    × (passes a ≡ true)
    × AllByRecursion (λ e. passes e ≡ true → is_better e.0 a.0 ≡ false) routes

-- An entry as an answer.
abbrev pub answer_of : Option (RouteKey × NextHop) → Answer
answer_of None = Absent
answer_of (Some e) = Found (route_of e)

-- The answer for an address by the tables in force, where both are.
abbrev pub lookup : Address → List Network → Option RouteTable → Option LinkTable → Answer
lookup a blocked None links = Stale
lookup a blocked (Some routes) None = Stale
lookup a blocked (Some routes) (Some links) = answer_of (best_route (may_answer links blocked a) routes)
