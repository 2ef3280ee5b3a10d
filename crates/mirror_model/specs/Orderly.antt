-- What the events of a session keep to: no dump that was asked is asked again, and none that has ended gets a reply.
use Rattle.std.specs.Prelude.{◌≡◌, ◌&&◌, ◌||◌, ◌++◌, false, List, [], ◌∷◌}
use Rattle.std.specs.List.{AllByRecursion}
use Rattle.mirror_model.specs.TableEvents.{TableEvent, replies_to, asks_dump}
use Rattle.mirror_model.specs.Clean.{Dump, dumps, has_ended}

module _ {K V : Type 0} where
  -- An event keeps to that beside a dump that was asked before it.
  abbrev pub MayFollow : TableEvent K V → Dump K V → Type 0
  MayFollow e d = ((replies_to d.stream e && has_ended d) || asks_dump d.stream e) ≡ false

  -- Each event after a place keeps to it beside all dumps before the event.
  abbrev pub OrderlyFrom : List (TableEvent K V) → List (TableEvent K V) → Type 0
  OrderlyFrom before [] = Unit {0}
  OrderlyFrom before (e ∷ es) = AllByRecursion (MayFollow e) (dumps before) × OrderlyFrom (before ++ e ∷ []) es

  -- Events from the first on.
  abbrev pub AreOrderly : List (TableEvent K V) → Type 0
  AreOrderly es = OrderlyFrom [] es
