-- The routes of one prefix, and those of the prefixes of one family.
use Rattle.std.specs.Prelude.{◌≡◌, ◌==◌, ◌&&◌, ℕ, if◌then◌else◌, List, Option}
use Rattle.std.specs.Option.{option_and_then}
use Rattle.std.specs.Ordering.{nat_cmp}
use Rattle.std.specs.Map.{lookup}
use Rattle.std.specs.BTreeMap.{is_at}
use Rattle.trie_model.specs.Nets.{Net}
use Rattle.trie_model.specs.Views.{same_net}
use Rattle.trie_model.specs.Maps.{value_at}
use Rattle.route_table.specs.declared.change.Hop.{Hop}

-- What routes of one prefix have under a priority.
abbrev pub hop_under : List (ℕ × Hop) → ℕ → Option Hop
hop_under routes priority = lookup (is_at (nat_cmp priority)) routes

-- What routes of one family have under a prefix and a priority.
abbrev pub hop_at : List (Net × List (ℕ × Hop)) → Net → ℕ → Option Hop
hop_at lists net priority = option_and_then (λ routes. hop_under routes priority) (value_at lists net)

-- The second ones have this under a prefix and a priority, and else what the first ones have.
abbrev pub PutsAt : Net → ℕ → Option Hop → List (Net × List (ℕ × Hop)) → List (Net × List (ℕ × Hop)) → Type 0
PutsAt net priority hop old new = (n : Net) (p : ℕ) → hop_at new n p ≡ (if same_net net n && (p == priority) then hop else hop_at old n p)
