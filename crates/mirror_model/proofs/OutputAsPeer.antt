-- The text of records is that in which the peer's own tables answer.
use Rattle.std.proofs.Common.{◌≡◌, ◌&&◌, ◌||◌, ℕ, Bool, true, false, not, cond, List, [], ◌∷◌, ◌++◌, length, Option, Some, None, refl, sym, ◌∙◌, ap, subst, append_assoc}
use Rattle.std.specs.List.{AllByRecursion, list_any}
use Rattle.std.specs.Option.{is_some}
use Rattle.std.specs.FinMap.{empty, nat_cmp-IsAntisymmetric}
use Rattle.std.specs.Ordering.{nat_cmp}
use Rattle.std.specs.declared.cmp.Ordering.{Ordering}
use Rattle.std.proofs.lemmas.Cmp.{nat_cmp_total}
use Rattle.nl_core.specs.Frames.{Format}
use Rattle.session_model.specs.declared.network.Address.{Address}
use Rattle.session_model.specs.declared.network.Network.{Network}
use Rattle.session_model.specs.declared.settings.Settings.{Settings}
use Rattle.session_model.specs.declared.transcript.Record.{Record}
use Rattle.session_model.specs.declared.transcript.Record.TheVariants.{Recv, Overrun, Close, Batch, Resync, Block, Unblock, Lookup}
use Rattle.session_model.specs.Events.{Event, events_of, record_events}
use Rattle.session_model.specs.SessionText.{text_of_events}
use Rattle.session_model.specs.Streams.{is_shut}
use Rattle.mirror_model.specs.declared.answer.Answer.TheVariants.{Stale}
use Rattle.mirror_model.specs.Clean.{dumps, is_clean, is_in_step_at, table_at}
use Rattle.mirror_model.specs.FiniteTables.{finite}
use Rattle.mirror_model.specs.Routes.{RouteTable, LinkTable, key_cmp, lookup}
use Rattle.mirror_model.specs.Sessions.{Reader, table_events, AsksAlone}
use Rattle.mirror_model.specs.Blocked.{blocked_at}
use Rattle.mirror_model.specs.Lookups.{Readers, lookup_at, peer_answer}
use Rattle.mirror_model.specs.OutputText.{answer_line, lookup_line, record_text, text_from, output_text}
use Rattle.mirror_model.specs.Laws.{AreHonest}
use Rattle.mirror_model.proofs.BestRoutes.{key_total, key_antisymmetric}
use Rattle.mirror_model.proofs.StateOfEvents.{some_clean}
use Rattle.mirror_model.proofs.SessionEvents.{closed_as_shut}
use Rattle.mirror_model.proofs.InSessions.{table_in_sessions}
use Rattle.mirror_model.proofs.Lists.{all_append}
use Rattle.mirror_model.proofs.Records.{record_alone}

-- A table is in step where the link hasn't closed and a table is in force.
in_step : {M K V : Type 0} (r : Reader M K V) (order : K → K → Ordering) (start : ℕ) (es : List (Event M))
    → is_in_step_at (table_events r start es) ≡ (not (is_shut es) && is_some (table_at (finite order) (table_events r start es)))
in_step r order start es =
    ap (λ b. not b && list_any is_clean (dumps (table_events r start es))) (closed_as_shut r start [] es)
    ∙ ap (λ b. not (is_shut es) && b) (sym (some_clean (finite order) (dumps (table_events r start es))))

-- The answer by the tables in force, where these are the peer's own.
by_tables : (a : Address) (blocked : List Network) (routes : RouteTable) (links : LinkTable) (shut counts : Bool)
    (t : Option RouteTable) (l : Option LinkTable)
    → ((x : RouteTable) → t ≡ Some x → x ≡ routes) → ((x : LinkTable) → cond counts l (Some empty) ≡ Some x → x ≡ links)
    → cond shut Stale (lookup a blocked t (cond counts l (Some empty)))
    ≡ cond ((not shut && is_some t) && (not counts || (not shut && is_some l))) (lookup a blocked (Some routes) (Some links)) Stale
by_tables a blocked routes links true counts t l same same_links = refl
by_tables a blocked routes links false counts None l same same_links = refl
by_tables a blocked routes links false true (Some x) None same same_links = refl
by_tables a blocked routes links false true (Some x) (Some y) same same_links =
    ap (λ t. lookup a blocked (Some t) (Some y)) (same x refl) ∙ ap (λ l. lookup a blocked (Some routes) (Some l)) (same_links y refl)
by_tables a blocked routes links false false (Some x) l same same_links =
    ap (λ t. lookup a blocked (Some t) (Some empty)) (same x refl)
    ∙ ap (λ l. lookup a blocked (Some routes) (Some l)) (same_links empty refl)

module _ {M : Type 0} (r : Readers M) (start : ℕ) (routes : ℕ → RouteTable) (links : ℕ → LinkTable) where
  -- The answer at a place is that of the peer's own tables there.
  pub answer_as_peer : (before later : List (Event M)) → AllByRecursion (AsksAlone r.routes) before → AllByRecursion (AsksAlone r.links) before
      → AreHonest r start routes links (before ++ later) → (a : Address)
      → lookup_at r start before a ≡ peer_answer r start routes links before a
  answer_as_peer before later alone alone_links honest a =
      let n = length before in
      let shut = is_shut before in
      let answer = lookup a (blocked_at before) (Some (routes n)) (Some (links n)) in
      let table = table_at (finite key_cmp) (table_events r.routes start before) in
      let link_table = table_at (finite nat_cmp) (table_events r.links start before) in
      by_tables a (blocked_at before) (routes n) (links n) shut r.links_count table link_table
      (λ t is. table_in_sessions r.routes key_cmp start routes before later t key_total key_antisymmetric alone honest.of_routes is)
      (same_links r.links_count refl)
      ∙ ap (λ b. cond (b && (not r.links_count || (not shut && is_some link_table))) answer Stale) (sym (in_step r.routes key_cmp start before))
      ∙ ap (λ b. cond (is_in_step_at (table_events r.routes start before) && (not r.links_count || b)) answer Stale)
      (sym (in_step r.links nat_cmp start before))
    where
      same_links : (counts : Bool) → r.links_count ≡ counts → (t : LinkTable)
          → cond counts (table_at (finite nat_cmp) (table_events r.links start before)) (Some empty) ≡ Some t → t ≡ links (length before)
      same_links true counts t is =
          table_in_sessions r.links nat_cmp start links before later t nat_cmp_total nat_cmp-IsAntisymmetric alone_links (honest.of_links counts) is
      same_links false counts t is = let same : t ≡ empty = cc in same ∙ sym (honest.no_links counts (length before))

module _ {M : Type 0} (f : Format M) (s : Settings) (r : Readers M) (routes : ℕ → RouteTable) (links : ℕ → LinkTable) where
  -- The line of a look-up by the same answer is the same.
  same_line : (before : List (Event M)) (entry : Record)
      → ((a : Address) → lookup_at r s.start before a ≡ peer_answer r s.start routes links before a)
      → lookup_line f s (lookup_at r s.start) before entry ≡ lookup_line f s (peer_answer r s.start routes links) before entry
  same_line before (Recv source bytes) h = refl
  same_line before Overrun h = refl
  same_line before Close h = refl
  same_line before (Batch to frames) h = refl
  same_line before Resync h = refl
  same_line before (Block n) h = refl
  same_line before (Unblock n) h = refl
  same_line before (Lookup a) h = ap (answer_line a) (h a)

  -- The text after events is that of the peer's own tables.
  text_as_peer : (before : List (Event M)) (rs : List Record) → AllByRecursion (AsksAlone r.routes) before → AllByRecursion (AsksAlone r.links) before
      → AreHonest r s.start routes links (before ++ events_of f s rs)
      → text_from f s (lookup_at r s.start) before rs ≡ text_from f s (peer_answer r s.start routes links) before rs
  text_as_peer before [] alone alone_links honest = refl
  text_as_peer before (x ∷ rs) alone alone_links honest =
      let es = record_events f s x in
      let after = events_of f s rs in
      let answers = answer_as_peer r s.start routes links before (es ++ after) alone alone_links honest in
      let honest_after = subst (AreHonest r s.start routes links) (sym (append_assoc before es after)) honest in
      let rest = text_as_peer (before ++ es) rs (all_append _ before es alone (record_alone r.routes f s x))
      (all_append _ before es alone_links (record_alone r.links f s x)) honest_after in
      ap (λ z. (text_of_events f s before es ++ z) ++ text_from f s (lookup_at r s.start) (before ++ es) rs) (same_line before x answers)
      ∙ ap (λ z. record_text f s (peer_answer r s.start routes links) before x ++ z) rest

  -- The text of records is that of the peer's own tables.
  pub output_as_peer : (rs : List Record) → AreHonest r s.start routes links (events_of f s rs)
      → output_text f s r rs ≡ text_from f s (peer_answer r s.start routes links) [] rs
  output_as_peer rs honest = text_as_peer [] rs tt tt honest
