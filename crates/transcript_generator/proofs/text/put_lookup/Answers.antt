use Rattle.std.proofs.Common.{◌≡◌, ◌++◌, OnOk, ◌∙◌, ap, subst}
use Rattle.std.specs.Int.{w32, to_be_bytes}
use Rattle.transcript_generator.proofs.Words.{lookup_line}
use Rattle.transcript_generator.proofs.text.put_lookup.Goals as goal

pub returns : goal.returns
returns c =
    let octets = c.to_be_bytes-octets.ensures ∙ ap (to_be_bytes w32) c.address_at.ensures in
    subst (λ l. OnOk c.put_line.result (c.put_line.new.text.items ≡ c.args.text.now.items ++ l)) (lookup_line _ _ octets) c.put_line.ensures
