-- What a run wrote is the text in which the peer's own table answers.
use Rattle.std.proofs.Common.{◌≡◌, true, false, Result, Ok, Err, IfOk, refl, ◌∙◌, ap}
use Rattle.std.specs.FinMap.{empty}
use Rattle.session_model.specs.declared.settings.Settings.{Settings}
use Rattle.session_model.specs.declared.outcome.Report.{Report}
use Rattle.session_model.specs.declared.outcome.RunFault.{RunFault}
use Rattle.mirror_model.proofs.OutputAsPeer.{output_as_peer}
use Rattle.transcript_io.specs.Io.{Traffic, with_back}
use Rattle.mirror.specs.Format.{format}
use Rattle.mirror.specs.Outcome.{WasRun}
use Rattle.mirror.specs.Peer.{HasConverged}
use Rattle.mirror.specs.Runner.{readers}

converged : (s : Settings) (io : Traffic) (report : Report) → WasRun s io report → HasConverged s io report
converged s io report h = record {
  run = h;
  as_peer = λ history honest.
      let same = output_as_peer format s (readers s) history (λ n. empty) h.records
      (record { of_routes = honest; of_links = λ counts. let never : false ≡ true = counts in cc; no_links = λ none n. refl }) in
      h.wrote ∙ ap (with_back io.written_before) same;
}

-- A run that is done has converged.
pub converged_from : (s : Settings) (io : Traffic) (r : Result Report RunFault) → IfOk r (WasRun s io) → IfOk r (HasConverged s io)
converged_from s io (Ok report) h = converged s io report h
converged_from s io (Err e) h = tt
