use Rattle.std.proofs.Common.{refl}
use Rattle.transcript_lines.proofs.Cuts.{no_newline}
use Rattle.transcript_lines.proofs.decoder.LineDecoder.feed.Goals as goal

pub returns-in_default-clause-part : goal.returns-in_default-clause-part
returns-in_default-clause-part g c = record { part = no_newline c.args.piece.now c.in_default.ensures; all = refl; goes_on = c.in_ok-take.ensures }

pub returns-clause-line : goal.returns-clause-line
returns-clause-line g c = record {
  front = c.in-Some.front.now;
  rest = c.in-Some.field-0-1.now;
  cut = c.in-Some.ensures.1;
  first = no_newline c.in-Some.front.now c.in-Some.ensures.0;
  count = refl;
  told = c.in_ok-line.ensures.told;
  fresh = c.in_ok-line.ensures.fresh;
}
