use Rattle.std.proofs.Common.{◌∙◌}
use Rattle.mirror.proofs.TrackLaws.{Took, counted_again, has_grown, has_taken}
use Rattle.mirror.proofs.runner.Runner.take_exchange.Goals as goal
use Rattle.mirror.proofs.runner.Runner.take_exchange.Goals.{In_ok-tell}

took : (c : In_ok-tell) → Took c.args.entry c.args.self.now c.bring.new.self c.tell.new.self c.in_ok-tell.field-0.items
took c =
    let brought = c.in_ok-bring.ensures in
    let told = c.in_ok-tell.ensures in
    record {
      allowed = c.requires.entry;
      counted = c.requires.counted;
      space = c.requires.space;
      open_still = brought.unshut;
      brings = brought.step;
      shows = brought.shown;
      settings = brought.settings;
      lines = brought.lines;
      settings_told = told.settings;
      lines_told = told.lines;
      text = told.text.text;
      connection = told.text.connection;
      ledger = told.text.ledger;
      mirror = told.text.mirror;
    }

pub returns : goal.returns
returns c =
    let all = took c in
    let settings = all.settings_told ∙ all.settings in
    record {
      settings = settings;
      counted = counted_again _ _ _ _ _ all;
      grows = has_grown _ _ _ _ _ all;
      step = has_taken _ _ _ _ _ all;
      cause = tt;
    }
