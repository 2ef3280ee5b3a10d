-- Which JSON is a map or a set of prefixes, and what is wrong with other JSON.
use Rattle.std.specs.Prelude.{◌≡◌, ◌≢◌, ℕ, ◌^◌, ◌<◌, ◌≤◌, ⊤, List, [], ◌∷◌, reverse, take}
use Rattle.std.specs.Prelude.{Option, Some, None, slice_get}
use Rattle.serde_json.specs.Data.{Data}
use Rattle.trie_model.specs.Maps.{pairs, value_at}
use Rattle.trie_model.specs.Nets.{Net}
use Rattle.trie_model.specs.Spots.{prefix_net}
use Rattle.trie_json.specs.Writing.{bits_data, list_data, pair_data, prefix_data}
use Rattle.trie_json.specs.declared.refusal.JsonRefusal.{JsonRefusal}
use Rattle.trie_json.specs.declared.refusal.JsonRefusal.TheVariants.{NotList, NotPair, BadPrefix, BadItem, NoMemory}

-- ---- prefixes

-- These are bits of this width.
pub record IsBits (w : ℕ) (d : Data) (bits : ℕ) : Type 0 where
  pub fit : bits < 2 ^ w
  pub written : d ≡ bits_data w bits

-- No bits of this width are written so.
abbrev pub IsNoBits : ℕ → Data → Type 0
IsNoBits w d = (bits : ℕ) → IsBits w d bits → ⊥

-- This is a prefix: its bits, host bits among them, and its length.
pub record IsPrefix (w : ℕ) (d : Data) (bits len : ℕ) : Type 0 where
  pub bits_fit : bits < 2 ^ w
  pub len_fits : len ≤ w
  pub written : d ≡ prefix_data w bits len

-- No prefix is written so.
abbrev pub IsNoPrefix : ℕ → Data → Type 0
IsNoPrefix w d = (bits len : ℕ) → IsPrefix w d bits len → ⊥

-- This is a prefix, which is that one without its host bits.
pub record ReadsNet (w : ℕ) (d : Data) (n : Net) : Type 0 where
  pub bits : ℕ
  pub len : ℕ
  pub prefix : IsPrefix w d bits len
  pub net : n ≡ prefix_net w bits len

-- ---- elements of a list

-- This is an entry of a map.
pub record ReadsEntry {X : Type 0} (w : ℕ) (read : Data → Option X) (d : Data) (n : Net) (x : X) : Type 0 where
  pub prefix : Data
  pub item : Data
  pub pair : d ≡ pair_data prefix item
  pub net : ReadsNet w prefix n
  pub value : read item ≡ Some x

-- This is a prefix of a set.
abbrev pub ReadsMember : ℕ → Data → Net → Unit {0} → Type 0
ReadsMember w d n x = ReadsNet w d n

-- This is no list.
abbrev pub IsNoList : Data → Type 0
IsNoList d = (ds : List Data) → d ≢ list_data ds

-- This is no list of two.
abbrev pub IsNoPair : Data → Type 0
IsNoPair d = (a b : Data) → d ≢ pair_data a b

-- This is a list of two that doesn't begin with a prefix.
pub record HasBadPrefix (w : ℕ) (d : Data) : Type 0 where
  pub prefix : Data
  pub item : Data
  pub pair : d ≡ pair_data prefix item
  pub bad : IsNoPrefix w prefix

-- This is a prefix, and with it something that isn't read as an item.
pub record HasBadItem {X : Type 0} (w : ℕ) (read : Data → Option X) (d : Data) : Type 0 where
  pub prefix : Data
  pub item : Data
  pub net : Net
  pub pair : d ≡ pair_data prefix item
  pub good : ReadsNet w prefix net
  pub bad : read item ≡ None

-- ---- lists

-- Each element is read as the pair beside it.
unfoldable pub AreRead : {X : Type 0} → (Data → Net → X → Type 0) → List Data → List (Net × X) → Type 0
AreRead reads [] [] = ⊤
AreRead reads [] (p ∷ ps) = ⊥
AreRead reads (d ∷ ds) [] = ⊥
AreRead reads (d ∷ ds) (p ∷ ps) = reads d p.0 p.1 × AreRead reads ds ps

-- Each prefix of some pairs once, with the item of its last pair, in order.
abbrev pub last_of_each : {X : Type 0} → ℕ → List (Net × X) → List (Net × X)
last_of_each w ps = pairs w (value_at (reverse ps))

-- This is a list whose elements are read; a later pair of a prefix wins.
pub record IsListRead {X : Type 0} (reads : Data → Net → X → Type 0) (w : ℕ) (d : Data)
    (ps : List (Net × X)) : Type 0 where
  pub elements : List Data
  pub list : d ≡ list_data elements
  pub pairs : List (Net × X)
  pub each : AreRead reads elements pairs
  pub last : ps ≡ last_of_each w pairs

-- This is a list whose first bad element is this one.
pub record StopsAt {X : Type 0} (reads : Data → Net → X → Type 0) (bad : Data → Type 0) (d : Data)
    (at : ℕ) : Type 0 where
  pub elements : List Data
  pub list : d ≡ list_data elements
  pub pairs : List (Net × X)
  pub before : AreRead reads (take at elements) pairs
  pub element : Data
  pub there : slice_get elements at ≡ Some element
  pub is_bad : bad element

-- ---- maps and sets

-- This is read as the map.
abbrev pub ReadsMap : {X : Type 0} → ℕ → (Data → Option X) → Data → List (Net × X) → Type 0
ReadsMap w read d ps = IsListRead (ReadsEntry w read) w d ps

-- This is read as the set.
abbrev pub ReadsSet : ℕ → Data → List (Net × Unit {0}) → Type 0
ReadsSet w d ps = IsListRead (ReadsMember w) w d ps

-- This isn't read as a map for the reason that the refusal names.
abbrev pub RefusesMap : {X : Type 0} → ℕ → (Data → Option X) → Data → JsonRefusal → Type 0
RefusesMap w read d NotList = IsNoList d
RefusesMap w read d (NotPair at) = StopsAt (ReadsEntry w read) IsNoPair d at
RefusesMap w read d (BadPrefix at) = StopsAt (ReadsEntry w read) (HasBadPrefix w) d at
RefusesMap w read d (BadItem at) = StopsAt (ReadsEntry w read) (HasBadItem w read) d at
RefusesMap w read d NoMemory = ⊤

-- This isn't read as a set for the reason that the refusal names.
abbrev pub RefusesSet : ℕ → Data → JsonRefusal → Type 0
RefusesSet w d NotList = IsNoList d
RefusesSet w d (NotPair at) = ⊥
RefusesSet w d (BadPrefix at) = StopsAt (ReadsMember w) (IsNoPrefix w) d at
RefusesSet w d (BadItem at) = ⊥
RefusesSet w d NoMemory = ⊤

-- What is wrong with the element of a map at a place.
abbrev pub IsBadEntry : {X : Type 0} → ℕ → (Data → Option X) → Data → ℕ → JsonRefusal → Type 0
IsBadEntry w read d at NotList = ⊥
IsBadEntry w read d at (NotPair k) = (k ≡ at) × IsNoPair d
IsBadEntry w read d at (BadPrefix k) = (k ≡ at) × HasBadPrefix w d
IsBadEntry w read d at (BadItem k) = (k ≡ at) × HasBadItem w read d
IsBadEntry w read d at NoMemory = ⊤
