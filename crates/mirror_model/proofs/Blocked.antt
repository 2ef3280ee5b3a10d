-- What is blocked after one event more.
use Rattle.std.proofs.Common.{◌≡◌, true, not, List, [], ◌∷◌, ◌++◌, sym, ◌∙◌, ap, append_assoc}
use Rattle.std.specs.List.{filter, list_any}
use Rattle.session_model.specs.Events.{Event}
use Rattle.session_model.specs.declared.network.Network.{Network}
use Rattle.mirror_model.specs.Blocked.{newly_blocked, unblocks, blocked_at}
use Rattle.session_model.proofs.Places.{append-nil, filter-all, filter-append, filter-filter, filter-same, not-or}
use Rattle.mirror_model.proofs.Tests.{any_more}

-- One event more unblocks what it unblocks, and then blocks what it blocks.
pub blocked_at-more : {M : Type 0} (es : List (Event M)) (e : Event M)
    → blocked_at (es ++ e ∷ []) ≡ filter (λ n. not (unblocks n e)) (blocked_at es) ++ newly_blocked e
blocked_at-more [] e = append-nil (filter (λ n. true) (newly_blocked e)) ∙ filter-all (newly_blocked e)
blocked_at-more (f ∷ es) e =
    let stays = λ (n : Network). not (list_any (λ later. unblocks n later) es) in
    let now = λ (n : Network). not (unblocks n e) in
    let mine = filter stays (newly_blocked f) in
    ap (λ ns. ns ++ blocked_at (es ++ e ∷ []))
    (filter-same _ _ (λ n. ap not (any_more (λ later. unblocks n later) es e)
    ∙ not-or (list_any (λ later. unblocks n later) es) (unblocks n e)) (newly_blocked f)
    ∙ sym (filter-filter now stays (newly_blocked f)))
    ∙ ap (λ ns. filter now mine ++ ns) (blocked_at-more es e)
    ∙ sym (append_assoc (filter now mine) (filter now (blocked_at es)) (newly_blocked e))
    ∙ ap (λ ns. ns ++ newly_blocked e) (sym (filter-append now mine (blocked_at es)))
