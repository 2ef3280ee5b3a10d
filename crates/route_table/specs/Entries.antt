-- The pairs of a map of prefixes: in order, and of networks.
use Rattle.std.specs.Prelude.{◌≡◌, ◌&&◌, ◌||◌, ℕ, not, is_some, List}
use Rattle.trie_model.specs.Nets.{Net, IsNet}
use Rattle.trie_model.specs.Views.{same_net}
use Rattle.trie_model.specs.Maps.{value_at}
use Rattle.trie_model.specs.Walks.{Ascends, Within}

-- A list of pairs in the order of their prefixes, each without host bits.
pub record AreNets {X : Type 0} (w : ℕ) (ps : List (Net × X)) : Type 0 where
  pub ascends : Ascends w ps
  pub nets : (n : Net) (x : X) → Within ps n x → IsNet w n

-- The second set has the prefixes of the first one, and this one.
abbrev pub AddsNet : Net → List (Net × Unit {0}) → List (Net × Unit {0}) → Type 0
AddsNet net old new = (n : Net) → is_some (value_at new n) ≡ (same_net n net || is_some (value_at old n))

-- The second set has the prefixes of the first one without this one.
abbrev pub DropsNet : Net → List (Net × Unit {0}) → List (Net × Unit {0}) → Type 0
DropsNet net old new = (n : Net) → is_some (value_at new n) ≡ (not (same_net n net) && is_some (value_at old n))
