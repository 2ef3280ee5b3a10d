-- Finite maps are tables.
use Rattle.std.proofs.Common.{◌≡◌, cond, Option, Some, None}
use Rattle.std.specs.FinMap.{FinMap, get, get-empty, get-insert, get-remove}
use Rattle.std.specs.Ordering.{eq_by_cmp}
use Rattle.std.specs.Cmp.{IsTotalOrder}
use Rattle.std.specs.declared.cmp.Ordering.{Ordering}
use Rattle.mirror_model.specs.Tables.{AreMaps}
use Rattle.mirror_model.specs.FiniteTables.{put_or_removed, finite}

module _ {K V : Type 0} (R : K → K → Ordering) (total : IsTotalOrder R) where
  changed_get : (m : FinMap R V) (k : K) (v : Option V) (q : K) → get (put_or_removed m k v) q ≡ cond (eq_by_cmp R q k) v (get m q)
  changed_get m k None q = get-remove total m k q
  changed_get m k (Some v) q = get-insert total m k v q

  -- Finite maps are tables.
  pub finite_maps : AreMaps {V = V} (finite R)
  finite_maps = record {
    of_empty = λ q. get-empty R q;
    of_change = λ c m q. changed_get m c.key c.value q;
  }
