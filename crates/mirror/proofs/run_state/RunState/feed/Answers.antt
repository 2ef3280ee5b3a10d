use Rattle.std.proofs.Common.{rules, sym, ap}
use Rattle.std.proofs.lemmas.Bool.{eqb-true}
use Rattle.session_model.specs.declared.settings.Settings.{Settings}
use Rattle.mirror.proofs.Errors.{err_from}
use Rattle.mirror.proofs.Halts.{above_none, fed_whole, halts_in_front, halts_past}
use Rattle.mirror.proofs.run_state.RunState.feed.Goals as goal

pub returns-in_err-feed_lines-clause-fault : goal.returns-in_err-feed_lines-clause-fault
returns-in_err-feed_lines-clause-fault c =
    let e = c.in_err-feed_lines in
    let cut = c.split_at.ensures in
    err_from c.from_residual.result e.field-0.0 _ c.from_residual.ensures.1
    (halts_in_front c.args.self.now c.args.piece.now _ _ _ cut.front cut.back _ e.field-0.0 e.ensures.fault)

pub returns-then-is_empty-clause-step : goal.returns-then-is_empty-clause-step
returns-then-is_empty-clause-step c =
    let cut = c.split_at.ensures in
    fed_whole c.args.self.now c.args.piece.now _ _ _ cut.front cut.back c.feed_lines.new.self c.in_ok-feed_lines.ensures.step
    (eqb-true _ 0 (sym c.if-is_empty.ensures))

pub returns-else-is_empty-clause-fault : goal.returns-else-is_empty-clause-fault
returns-else-is_empty-clause-fault c =
    let cut = c.split_at.ensures in
    let fed = c.in_ok-feed_lines.ensures in
    let some = above_none _ (sym c.if-is_empty.ensures) in
    let limit = ap (λ (s : Settings). s.limit) c.feed_lines.ensures.settings in
    halts_past c.args.self.now c.args.piece.now _ _ _ cut.front cut.back c.feed_lines.new.self fed.step
    (search (rules, some, limit, fed.taken, cut.front_len, cut.back_len, c.min-count.ensures, c.requires.limit)) some
