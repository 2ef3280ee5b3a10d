-- The plain view of a trie, and the walk over one.
use Rattle.std.specs.Prelude.{◌≡◌, ℕ, Bool, List, Option}
use Rattle.std.specs.Borrow.{Bor}
use Rattle.trie_model.specs.Inside.{LiesIn}
use Rattle.trie_model.specs.Maps.{LongestMatch, map_of, pairs}
use Rattle.trie_model.specs.Nets.{Net, net_of}
use Rattle.trie_model.specs.Tries.{RefOk, ref_told}
use Rattle.trie_model.specs.Views.{ViewValue, SamePairs, IsChild, TookChild}
use Rattle.trie_model.specs.Walks.{IsListOf, IsPartFrom, Within, pairs_from}
use Rattle.trie_map.specs.declared.node.Node.{Node}
use Rattle.trie_map.specs.declared.trie_ref.TrieRef.{TrieRef}
use Rattle.trie_map.specs.declared.walk.ViewIter.{ViewIter}
use Rattle.trie_map.specs.Shape.{node_shape}
use Rattle.trie_map.specs.Walking.{CanWalk, IsFrugalWalk, ToCome}

-- The list of a whole trie.
abbrev pub list_of_trie : {T : Type 0} → ℕ → Node T → List (Net × T)
list_of_trie w root = pairs w (map_of node_shape w root)

-- The view may be used: its bits are bits of its node, inside its place.
abbrev pub IsRef : {P T N : Type 0} → (N → ℕ) → ℕ → TrieRef P T N → Type 0
IsRef number w v = RefOk node_shape w (net_of (number v.key) v.len) v.data_bitmap v.child_bitmap v.node.node.now

-- What contracts see of the view.
abbrev pub ref_value : {P T N : Type 0} → (N → ℕ) → ℕ → TrieRef P T N → ViewValue T
ref_value number w v = ref_told node_shape w (net_of (number v.key) v.len) v.data_bitmap v.child_bitmap v.node.node.now

-- The walk over such a view may go on.
abbrev pub CanWalkRef : {P T N : Type 0} → (N → ℕ) → ℕ → ViewIter (TrieRef P T N) → Type 0
CanWalkRef number w walk = CanWalk (IsRef number w) (ref_value number w) w walk

-- The walk over such a view takes no memory.
abbrev pub IsFrugalRefWalk : {P T N : Type 0} → (N → ℕ) → ℕ → ViewIter (TrieRef P T N) → Type 0
IsFrugalRefWalk number w walk = IsFrugalWalk (ref_value number w) walk

-- The pairs that the walk over such a view has still to give.
abbrev pub RefToCome : {P T N : Type 0} → (N → ℕ) → ℕ → ViewIter (TrieRef P T N) → Net → T → Type 0
RefToCome number w walk n x = ToCome (ref_value number w) w walk n x

-- The longest entry of a list whose prefix contains this one, or that there is none.
abbrev pub IsLongestMatch : {P T : Type 0} → ℕ → (P → Net) → List (Net × T) → Net → Option (P × Bor T) → Type 0
IsLongestMatch w net ps n result = LongestMatch w (λ r. net r.0) (λ r. r.1.now) ps n result

-- The view has exactly the pairs of a list.
abbrev pub HasPairsOf : {P T N : Type 0} → (N → ℕ) → ℕ → List (Net × T) → TrieRef P T N → Type 0
HasPairsOf number w ps v = SamePairs (ref_value number w v).at (Within ps)

-- The view has exactly the pairs of a list that lie in a prefix.
abbrev pub HasPairsIn : {P T N : Type 0} → (N → ℕ) → ℕ → Net → List (Net × T) → TrieRef P T N → Type 0
HasPairsIn number w net ps v = SamePairs (ref_value number w v).at (LiesIn w net ps)

-- The view has exactly the pairs of a whole trie that lie in a prefix.
abbrev pub HasPairsInTrie : {P T N : Type 0} → (N → ℕ) → ℕ → Net → Node T → TrieRef P T N → Type 0
HasPairsInTrie number w net root v = HasPairsIn number w net (list_of_trie w root) v

-- The child of a bit of the view, which may be used.
abbrev pub IsRefChild : {P T N : Type 0} → (N → ℕ) → ℕ → ℕ → TrieRef P T N → TrieRef P T N → Type 0
IsRefChild number w bit v child = IsRef number w child × IsChild w bit (ref_value number w v) (ref_value number w child)

-- What is left of the view after the child of a bit was taken out.
abbrev pub TookRefChild : {P T N : Type 0} → (N → ℕ) → ℕ → ℕ → TrieRef P T N → TrieRef P T N → Type 0
TookRefChild number w bit old new = TookChild w bit (ref_value number w old) (ref_value number w new)

-- The walk has exactly the pairs of a list from a prefix on, or after it.
abbrev pub WalksFrom : {P T N : Type 0} → (N → ℕ) → ℕ → Bool → Net → List (Net × T) → ViewIter (TrieRef P T N) → Type 0
WalksFrom number w inclusive net ps walk = IsPartFrom w inclusive net (Within ps) (RefToCome number w walk)

-- The walk gives the list of these pairs.
abbrev pub ListsFrom : {P T N : Type 0} → (N → ℕ) → ℕ → Bool → Net → List (Net × T) → ViewIter (TrieRef P T N) → Type 0
ListsFrom number w inclusive net ps walk = IsListOf w (RefToCome number w walk) (pairs_from w inclusive net ps)

-- The view is at this place.
abbrev pub IsRefAt : {P T N : Type 0} → (N → ℕ) → ℕ → Net → TrieRef P T N → Type 0
IsRefAt number w net v = (ref_value number w v).place ≡ net

-- The walk gives this list.
abbrev pub ListsAll : {P T N : Type 0} → (N → ℕ) → ℕ → List (Net × T) → ViewIter (TrieRef P T N) → Type 0
ListsAll number w ps walk = IsListOf w (RefToCome number w walk) ps
