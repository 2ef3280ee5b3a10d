use Rattle.std.proofs.Common.{[]}
use Rattle.mirror_model.specs.Lookups.{lookup_at}
use Rattle.mirror_model.proofs.OutputGrowth.{session_text_from, text_from-more}
use Rattle.mirror_model.proofs.laws.output_grows.Goals as goal

pub returns : goal.returns
returns g c = record {
  grows = λ f s r rs entry. text_from-more f s (lookup_at r s.start) [] rs entry;
  session = λ f s r rs h. session_text_from f s (lookup_at r s.start) [] rs h;
}
