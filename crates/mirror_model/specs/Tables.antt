-- Tables, and what changes them.
use Rattle.std.specs.Prelude.{◌≡◌, Bool, false, ◌&&◌, if◌then◌else◌, Option, Some, None}
use Rattle.std.specs.Option.{is_some}

-- What a change puts under a key; without a value it deletes the key.
pub record Change (K V : Type 0) : Type 0 where
  pub key : K
  pub value : Option V

-- Tables of some kind: which keys are the same, the empty table, a table after a change, and what stands under a key.
pub record Tables (T K V : Type 0) : Type 0 where
  pub same : K → K → Bool
  pub empty : T
  pub changed : Change K V → T → T
  pub get : T → K → Option V

module _ {T K V : Type 0} (o : Tables T K V) where
  -- A table after a change, if there is one.
  abbrev pub changed_maybe : Option (Change K V) → T → T
  changed_maybe None table = table
  changed_maybe (Some c) table = o.changed c table

  -- Whether a change is of a key.
  abbrev pub names : Option (Change K V) → K → Bool
  names None key = false
  names (Some c) key = o.same key c.key

  -- Whether a change puts something under a key.
  abbrev pub puts : Option (Change K V) → K → Bool
  puts None key = false
  puts (Some c) key = o.same key c.key && is_some c.value

  -- Two tables have the same under each key.
  abbrev pub Alike : T → T → Type 0
  Alike a b = (key : K) → o.get a key ≡ o.get b key

  -- The tables are finite maps: nothing is in the empty one, and a change is felt under its own key alone.
  pub record AreMaps : Type 0 where
    pub of_empty : (key : K) → o.get o.empty key ≡ None
    pub of_change : (c : Change K V) (table : T) (key : K) → o.get (o.changed c table) key ≡ (if o.same key c.key then c.value else o.get table key)
