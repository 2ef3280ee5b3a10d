use Rattle.std.proofs.Common.{IfOk, Some, None, ◌∙◌, ap, subst}
use Rattle.session_model.specs.declared.settings.Settings.{Settings}
use Rattle.transcript_io.specs.Io.{HasRisen, between}
use Rattle.transcript_io.specs.Plain.{bytes_after}
use Rattle.mirror.specs.Outcome.{IsComplete, WasRun}
use Rattle.mirror.proofs.Generating.{only_memory, reports}
use Rattle.mirror.proofs.generated.run_generated.Goals as goal

pub returns-clause-report : goal.returns-clause-report
returns-clause-report c =
    let r = c.run in
    let io = between (Some (bytes_after c.new-input.result)) (Some (bytes_after r.new.input)) None None in
    let told = c.new-input.ensures ∙ ap Some (c.into_vec.ensures ∙ c.in_ok-text.ensures) in
    reports c.args.count c.requires io told r.result
    (subst (λ (s : Settings). IfOk r.result (WasRun s io)) c.usual-settings.ensures r.ensures.ok) r.ensures.end

pub returns-clause-only : goal.returns-clause-only
returns-clause-only c =
    let r = c.run in
    let io = between (Some (bytes_after c.new-input.result)) (Some (bytes_after r.new.input)) None None in
    let told = c.new-input.ensures ∙ ap Some (c.into_vec.ensures ∙ c.in_ok-text.ensures) in
    only_memory c.args.count c.requires io told r.result
    (subst (λ (s : Settings). IsComplete s io.left_before r.result (HasRisen 0 0) (HasRisen 0 0)) c.usual-settings.ensures r.ensures.complete)
