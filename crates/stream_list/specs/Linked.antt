-- How items at their places lead to each other.
use Rattle.std.specs.Prelude.{◌≡◌, ◌==◌, ℕ, zero, suc, if◌then◌else◌, Bool, false, List, [], ◌∷◌, ◌++◌, length, Option, Some, None, slice_index_or}
use Rattle.std.specs.List.{list_any}
use Rattle.slab.specs.Slab.{Slab, get, slab_len}
use Rattle.stream_list.specs.declared.links.Links.{Links}
use Rattle.stream_list.specs.declared.node.Link.{Link}
use Rattle.stream_list.specs.declared.node.Link.TheVariants.{Next, NextOfStream, Previous}
use Rattle.stream_list.specs.declared.node.Node.{Node}
use Rattle.stream_list.specs.Places.{AreApart, ends_of, first_from, last_from, no_ends, of_stream}

module _ {X : Type 0} where
  -- A node that leads to another place.
  abbrev pub linked : Link → Option ℕ → Node X → Node X
  linked Previous to n = record n { previous = to }
  linked Next to n = record n { next = to }
  linked NextOfStream to n = record n { next_of_stream = to }

  -- What is at a place once the node at one place, if any, was changed.
  abbrev pub changed : Option ℕ → (Node X → Node X) → ℕ → Option (Node X) → Option (Node X)
  changed None f k node = node
  changed (Some place) f k None = None
  changed (Some place) f k (Some n) = Some (if k == place then f n else n)

  -- The node at one place, if any, was changed, and nothing else.
  pub record Changes (place : Option ℕ) (f : Node X → Node X) (before now : Slab (Node X)) : Type 0 where
    pub nodes : (k : ℕ) → get now k ≡ changed place f k (get before k)
    pub len : slab_len now ≡ slab_len before
    pub capacity : now.capacity ≡ before.capacity

  -- ---- the items in order of arrival

  -- The item of a node at a place, and the place of the next one.
  abbrev pub entry_at : ℕ → Option (Node X) → List (ℕ × X)
  entry_at place None = []
  entry_at place (Some n) = (place, n.item) ∷ []

  abbrev pub next_of : Option (Node X) → Option ℕ
  next_of None = None
  next_of (Some n) = n.next

  -- So many items from a place on, by the places that they lead to.
  abbrev pub walk : (ℕ → Option (Node X)) → ℕ → Option ℕ → List (ℕ × X)
  walk at zero p = []
  walk at (suc n) None = []
  walk at (suc n) (Some place) = entry_at place (at place) ++ walk at n (next_of (at place))

  -- All items with their places.
  abbrev pub entries_of : Links X → List (ℕ × X)
  entries_of l = walk (get l.nodes) (slab_len l.nodes) l.ends.oldest

module _ {X : Type 0} (stream : X → ℕ) where
  -- The node of an item between those before and after it.
  abbrev pub node_between : List (ℕ × X) → X → List (ℕ × X) → Node X
  node_between before x after = record {
    item = x;
    previous = last_from None before;
    next = first_from after None;
    next_of_stream = first_from (of_stream stream (stream x) after) None;
  }

  -- These are the items in order: no two are at one place, each one's node leads to its neighbours, and the ends of all and of each stream are theirs.
  pub record IsLinked (l : Links X) (es : List (ℕ × X)) : Type 0 where
    pub apart : AreApart es
    pub each : (before : List (ℕ × X)) (e : ℕ × X) (after : List (ℕ × X)) → es ≡ before ++ e ∷ after
        → get l.nodes e.0 ≡ Some (node_between before e.1 after)
    pub whole : l.ends ≡ ends_of es
    pub streams : (s : ℕ) → slice_index_or l.streams.items s no_ends ≡ ends_of (of_stream stream s es)
    pub count : slab_len l.nodes ≡ length es

  -- An item of a stream is among these.
  abbrev pub has_entry_of : ℕ → List (ℕ × X) → Bool
  has_entry_of s es = list_any (λ e. stream e.1 == s) es

  -- The item at a place is the oldest of its stream.
  pub record IsOldestAt (l : Links X) (place : ℕ) : Type 0 where
    pub earlier : List (ℕ × X)
    pub item : X
    pub later : List (ℕ × X)
    pub linked : IsLinked l (earlier ++ (place, item) ∷ later)
    pub first : has_entry_of (stream item) earlier ≡ false

  -- It is taken out, and the others stay in their order.
  abbrev pub TakesOut : Links X → ℕ → X → Links X → Type 0
  TakesOut before place x now =
      (earlier : List (ℕ × X)) (item : X) (later : List (ℕ × X)) → IsLinked before (earlier ++ (place, item) ∷ later)
      → has_entry_of (stream item) earlier ≡ false → (x ≡ item) × IsLinked now (earlier ++ later)
