-- Tables as finite maps whose keys have an order.
use Rattle.std.specs.Prelude.{Option, Some, None}
use Rattle.std.specs.FinMap.{FinMap, empty, get, insert, remove}
use Rattle.std.specs.Ordering.{eq_by_cmp}
use Rattle.std.specs.declared.cmp.Ordering.{Ordering}
use Rattle.mirror_model.specs.Tables.{Tables, Change}

module _ {K V : Type 0} {order : K → K → Ordering} where
  -- A map with a value under a key, or without the key.
  abbrev pub put_or_removed : FinMap order V → K → Option V → FinMap order V
  put_or_removed m k None = remove m k
  put_or_removed m k (Some v) = insert m k v

-- The finite maps by an order: keys are the same where the order doesn't tell them apart.
abbrev pub finite : {K V : Type 0} (order : K → K → Ordering) → Tables (FinMap order V) K V
finite {K = K} {V = V} order = record {
  same = eq_by_cmp order;
  empty = empty;
  changed = λ (c : Change K V) m. put_or_removed m c.key c.value;
  get = get;
}
