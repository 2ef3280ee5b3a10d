use Rattle.std.proofs.Common.{◌+◌, refl, ap}
use Rattle.session_model.specs.declared.transcript.Record.TheVariants.{Block}
use Rattle.session_model.specs.Events.{Blocked}
use Rattle.route_mirror.specs.Values.{MirrorValue}
use Rattle.mirror.specs.declared.runner.Runner.{Runner}
use Rattle.mirror.proofs.AsideLaws.{TookAside, aside_taken, blocks_one}
use Rattle.mirror.proofs.runner.Runner.take_block.Goals as goal

pub returns-clause-step : goal.returns-clause-step
returns-clause-step c =
    let old = c.args.self.now in
    let new : Runner = record old { observers = record old.observers { mirror = c.block.new.self }; lines = old.lines + 1 } in
    let took : TookAside (Block c.args.network) (Blocked c.args.network) old new c.new.result.items = record {
      allowed = (c.requires.network, tt);
      aside = refl;
      event = λ s. refl;
      none = refl;
      fits = refl;
      counted = c.requires.counted;
      settings = refl;
      connection = refl;
      ledger = refl;
      lines = refl;
      peer = ap (λ (v : MirrorValue). v.peer) c.block.ensures.rest;
      mirror = λ s es h. blocks_one s es old.observers.mirror c.block.new.self c.block.ensures.rest h c.args.network c.in_ok-block.ensures.added;
      told = λ s rs h. c.new.ensures.items;
    } in
    aside_taken (Block c.args.network) (Blocked c.args.network) old new c.new.result.items took
