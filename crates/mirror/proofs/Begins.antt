-- A run that has read nothing.
use Rattle.std.proofs.Common.{◌≡◌, ℕ, List, [], Option, refl, sym, ◌∙◌, ap, subst, arith}
use Rattle.session_model.specs.declared.settings.Settings.{Settings}
use Rattle.transcript_io.specs.Io.{between}
use Rattle.transcript_io.proofs.Gains.{back_none, front_none}
use Rattle.transcript_lines.specs.LineDecoder.{Stands}
use Rattle.mirror.specs.declared.run_state.RunState.{RunState}
use Rattle.mirror.specs.declared.runner.Runner.{Runner}
use Rattle.mirror.specs.Outcome.{Running}
use Rattle.mirror.specs.Runner.{Tracks}

-- It goes on, whatever its source and its sink tell.
pub begins : (s : Settings) (left written : Option (List ℕ)) (p : RunState) (runner : Runner) → Tracks s [] runner → p.runner ≡ runner
    → Stands [] p.decoder → p.line_start ≡ 0 → p.taken ≡ 0 → p.text.items ≡ []
    → Running p.runner.settings (between left left written written) p
begins s left written p runner tracks is line start taken text =
    subst (λ (q : Settings). Running q (between left left written written) p) (sym (ap (λ (r : Runner). r.settings) is ∙ tracks.settings)) (record {
      bytes = [];
      text = [];
      read = front_none left;
      limit = omega (arith, taken);
      reached = record {
        records = [];
        line = [];
        spelled = refl;
        part = refl;
        decoded = line;
        start = start;
        count = taken;
        tracks = subst (Tracks s []) (sym is) tracks;
        told = refl;
      };
      gained = record { shown = []; wrote = back_none written; parts = sym text };
    })
