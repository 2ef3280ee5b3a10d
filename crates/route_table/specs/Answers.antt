-- The route of one family that answers for an address.
use Rattle.std.specs.Prelude.{◌≡◌, ◌<◌, ◌≤◌, ◌⊎◌, ℕ, Bool, true, false, List, Option, Some, None}
use Rattle.std.specs.List.{list_any}
use Rattle.trie_model.specs.Nets.{Net, covers}
use Rattle.route_table.specs.declared.change.Hop.{Hop}
use Rattle.route_table.specs.Lists.{hop_at}

-- A route of a family: its prefix, its priority, and what it does.
pub record FamilyRoute : Type 0 where
  pub net : Net
  pub priority : ℕ
  pub hop : Hop

-- A route that was found, with its prefix.
abbrev pub route_in : {P : Type 0} → (P → Net) → P × ℕ × Hop → FamilyRoute
route_in net r = record { net = net r.0; priority = r.1; hop = r.2 }

-- Whether a blocked prefix contains a prefix.
abbrev pub is_hidden : ℕ → List (Net × Unit {0}) → Net → Bool
is_hidden w blocked n = list_any (λ b. covers w b.0 n) blocked

-- Routes of a family that contain an address, and that no blocked prefix contains.
pub record MayAnswer (w : ℕ) (lists : List (Net × List (ℕ × Hop))) (blocked : List (Net × Unit {0})) (address : Net) (r : FamilyRoute) : Type 0 where
  pub there : hop_at lists r.net r.priority ≡ Some r.hop
  pub contains : covers w r.net address ≡ true
  pub visible : is_hidden w blocked r.net ≡ false

-- None may answer; or this one may, and none that may is longer, or as long with a lesser priority.
abbrev pub IsBestIn : ℕ → List (Net × List (ℕ × Hop)) → List (Net × Unit {0}) → Net → Option FamilyRoute → Type 0
IsBestIn w lists blocked address None = (r : FamilyRoute) → MayAnswer w lists blocked address r → ⊥
IsBestIn w lists blocked address (Some best) =
    MayAnswer w lists blocked address best
    × ((r : FamilyRoute) → MayAnswer w lists blocked address r
    → (r.net.len < best.net.len) ⊎ ((r.net.len ≡ best.net.len) × (best.priority ≤ r.priority)))
