-- A lookup answers by the peer's own tables.
use Rattle.std.proofs.Common.{◌≡◌, ◌≢◌, ℕ, Bool, true, false, cond, List, [], ◌++◌, length, Option, Some, None, refl, sym, ◌∙◌, ap}
use Rattle.std.specs.List.{AllByRecursion}
use Rattle.std.specs.FinMap.{empty, nat_cmp-IsAntisymmetric}
use Rattle.std.specs.Ordering.{nat_cmp}
use Rattle.std.proofs.lemmas.Cmp.{nat_cmp_total}
use Rattle.session_model.specs.Events.{Event}
use Rattle.session_model.specs.Streams.{is_shut}
use Rattle.session_model.specs.declared.network.Address.{Address}
use Rattle.mirror_model.specs.declared.answer.Answer.TheVariants.{Stale}
use Rattle.mirror_model.specs.Clean.{table_at}
use Rattle.mirror_model.specs.FiniteTables.{finite}
use Rattle.mirror_model.specs.Routes.{RouteTable, LinkTable, key_cmp, lookup}
use Rattle.mirror_model.specs.Sessions.{table_events, AsksAlone}
use Rattle.mirror_model.specs.Blocked.{blocked_at}
use Rattle.mirror_model.specs.Lookups.{Readers, routes_at, links_at, lookup_at, lookup_in, routes_state, links_state, links_in_force}
use Rattle.mirror_model.specs.Laws.{AreHonest}
use Rattle.mirror_model.proofs.BestRoutes.{key_total, key_antisymmetric}
use Rattle.mirror_model.proofs.StateOfEvents.{afresh}
use Rattle.mirror_model.proofs.Orderly.{orderly}
use Rattle.mirror_model.proofs.SessionEvents.{closed_as_shut}
use Rattle.mirror_model.proofs.InSessions.{table_in_sessions}

module _ {M : Type 0} (r : Readers M) (start : ℕ) (routes : ℕ → RouteTable) (links : ℕ → LinkTable) (before later : List (Event M)) where
  -- An answer that isn't Stale is the one in the peer's own tables.
  pub as_peer : AllByRecursion (AsksAlone r.routes) before → AllByRecursion (AsksAlone r.links) before
      → AreHonest r start routes links (before ++ later)
      → (address : Address) → lookup_at r start before address ≢ Stale
      → lookup_at r start before address ≡ lookup address (blocked_at before) (Some (routes (length before))) (Some (links (length before)))
  as_peer alone alone_links honest address fresh = by_shut (is_shut before) refl fresh
    where
      route_table : (t : RouteTable) → routes_at r start before ≡ Some t → t ≡ routes (length before)
      route_table t is = table_in_sessions r.routes key_cmp start routes before later t key_total key_antisymmetric alone honest.of_routes is

      link_table : (b : Bool) → r.links_count ≡ b → (t : LinkTable)
          → cond b (table_at (finite nat_cmp) (table_events r.links start before)) (Some empty) ≡ Some t → t ≡ links (length before)
      link_table true counts t is =
          table_in_sessions r.links nat_cmp start links before later t nat_cmp_total nat_cmp-IsAntisymmetric alone_links (honest.of_links counts) is
      link_table false counts t is = sym (inside empty t is) ∙ sym (honest.no_links counts (length before))
        where
          inside : {A : Type 0} (x y : A) → Some x ≡ Some y → x ≡ y
          inside x y h = ap (λ o. elim o [ None ↦ x | Some z ↦ z ]) h

      by_links : (t : RouteTable) → t ≡ routes (length before) → (l : Option LinkTable) → links_at r start before ≡ l
          → lookup address (blocked_at before) (Some t) l ≢ Stale
          → lookup address (blocked_at before) (Some t) l ≡ lookup address (blocked_at before) (Some (routes (length before))) (Some (links (length before)))
      by_links t same None is fresh = absurd (fresh refl)
      by_links t same (Some l) is fresh =
          ap (λ x. lookup address (blocked_at before) (Some x) (Some l)) same
          ∙ ap (λ x. lookup address (blocked_at before) (Some (routes (length before))) (Some x)) (link_table r.links_count refl l is)

      by_routes : (t : Option (RouteTable)) → routes_at r start before ≡ t → lookup address (blocked_at before) t (links_at r start before) ≢ Stale
          → lookup address (blocked_at before) t (links_at r start before)
          ≡ lookup address (blocked_at before) (Some (routes (length before))) (Some (links (length before)))
      by_routes None is fresh = absurd (fresh refl)
      by_routes (Some t) is fresh = by_links t (route_table t is) (links_at r start before) refl fresh

      by_shut : (b : Bool) → is_shut before ≡ b
          → cond b Stale (lookup address (blocked_at before) (routes_at r start before) (links_at r start before)) ≢ Stale
          → cond b Stale (lookup address (blocked_at before) (routes_at r start before) (links_at r start before))
          ≡ lookup address (blocked_at before) (Some (routes (length before))) (Some (links (length before)))
      by_shut true is fresh = absurd (fresh refl)
      by_shut false is fresh = by_routes (routes_at r start before) refl fresh

module _ {M : Type 0} (r : Readers M) (start : ℕ) (es : List (Event M)) where
  -- The answer by a mirror's state is that at the place.
  pub by_state : AllByRecursion (AsksAlone r.routes) es → AllByRecursion (AsksAlone r.links) es → (a : Address)
      → lookup_in (routes_state r start es) (links_in_force r (links_state r start es)) (blocked_at es) a ≡ lookup_at r start es a
  by_state alone alone_links a =
      let routes = afresh (finite key_cmp) (table_events r.routes start es) (orderly r.routes start es alone) in
      let links = afresh (finite nat_cmp) (table_events r.links start es) (orderly r.links start es alone_links) in
      let shut : (routes_state r start es).closed ≡ is_shut es = routes.closed ∙ closed_as_shut r.routes start [] es in
      ap (λ b. cond b Stale (lookup a (blocked_at es) (routes_state r start es).in_force (links_in_force r (links_state r start es)))) shut
      ∙ ap (λ t. cond (is_shut es) Stale (lookup a (blocked_at es) t (links_in_force r (links_state r start es)))) routes.in_force
      ∙ ap (λ t. cond (is_shut es) Stale (lookup a (blocked_at es) (routes_at r start es) (cond r.links_count t (Some empty)))) links.in_force
