-- What a list of many streams' items is to its callers.
use Rattle.std.specs.Prelude.{◌≡◌, ◌==◌, ℕ, Bool, false, List, ◌∷◌, ◌++◌}
use Rattle.std.specs.List.{list_any}

-- For how many items there is room, and below which number each stream's.
pub record Room : Type 0 where
  pub items : ℕ
  pub streams : ℕ

-- The items in order of arrival, and the room.
pub record Listed (X : Type 0) : Type 0 where
  pub items : List X
  pub room : Room

module _ {X : Type 0} (stream : X → ℕ) (id : ℕ) where
  -- An item of a stream is in a list.
  abbrev pub has_of : List X → Bool
  has_of xs = list_any (λ x. stream x == id) xs

  -- The oldest item of a stream is taken out; the others stay in their order.
  pub record TakesOldest (before : Listed X) (x : X) (now : Listed X) : Type 0 where
    pub earlier : List X
    pub later : List X
    pub among : before.items ≡ earlier ++ x ∷ later
    pub own : stream x ≡ id
    pub others : has_of earlier ≡ false
    pub stays : now ≡ record before { items = earlier ++ later }

  -- None of a stream is in the list, and nothing changes.
  pub record HasNone (before now : Listed X) : Type 0 where
    pub none : has_of before.items ≡ false
    pub same : now ≡ before
