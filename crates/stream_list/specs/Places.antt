-- Places of items, in order of arrival.
use Rattle.std.specs.Prelude.{◌≢◌, ◌==◌, ℕ, List, [], ◌∷◌, Option, Some, None}
use Rattle.std.specs.List.{filter}
use Rattle.stream_list.specs.declared.ends.Ends.{Ends}

-- The first of two places that is there.
abbrev pub first_of : Option ℕ → ℕ → Option ℕ
first_of None place = Some place
first_of (Some p) place = Some p

-- The first where there is a place to tell by, else the other.
abbrev pub chosen : Option ℕ → Option ℕ → Option ℕ → Option ℕ
chosen None there else_ = else_
chosen (Some p) there else_ = there

-- Ends with one item more, the newest, and without the item between two places.
abbrev pub ends_with : ℕ → Ends → Ends
ends_with place ends = record { oldest = first_of ends.oldest place; newest = Some place }

abbrev pub ends_without : Option ℕ → Option ℕ → Ends → Ends
ends_without previous next ends = record { oldest = chosen previous ends.oldest next; newest = chosen next ends.newest previous }

abbrev pub no_ends : Ends
no_ends = record { oldest = None; newest = None }

module _ {X : Type 0} where
  -- The place of the first of a list, and of its last; another place where the list is empty.
  abbrev pub first_from : List (ℕ × X) → Option ℕ → Option ℕ
  first_from [] p = p
  first_from (e ∷ es) p = Some e.0

  abbrev pub last_from : Option ℕ → List (ℕ × X) → Option ℕ
  last_from p [] = p
  last_from p (e ∷ es) = last_from (Some e.0) es

  -- The places of the oldest and the newest.
  abbrev pub ends_of : List (ℕ × X) → Ends
  ends_of es = record { oldest = first_from es None; newest = last_from None es }

  -- No item of a list is at this place.
  abbrev pub IsFree : ℕ → List (ℕ × X) → Type 0
  IsFree place [] = Unit {0}
  IsFree place (e ∷ es) = (e.0 ≢ place) × IsFree place es

  -- No two items of a list are at one place.
  abbrev pub AreApart : List (ℕ × X) → Type 0
  AreApart [] = Unit {0}
  AreApart (e ∷ es) = IsFree e.0 es × AreApart es

  -- Those of a stream.
  abbrev pub of_stream : (X → ℕ) → ℕ → List (ℕ × X) → List (ℕ × X)
  of_stream stream s es = filter (λ e. stream e.1 == s) es
