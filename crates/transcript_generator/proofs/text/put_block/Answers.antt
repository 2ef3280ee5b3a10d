use Rattle.std.proofs.Common.{◌≡◌, ◌++◌, OnOk, ◌∙◌, ap, subst}
use Rattle.std.specs.Int.{w32, to_be_bytes}
use Rattle.transcript_generator.specs.Generated.{leading_bits}
use Rattle.transcript_generator.proofs.Words.{block_line}
use Rattle.transcript_generator.proofs.text.put_block.Goals as goal

pub returns : goal.returns
returns c =
    let number = c.leading_bits.ensures ∙ ap (λ a. leading_bits a 16) c.address_at.ensures in
    let octets = c.to_be_bytes-octets.ensures ∙ ap (to_be_bytes w32) number in
    subst (λ l. OnOk c.put_line.result (c.put_line.new.text.items ≡ c.args.text.now.items ++ l)) (block_line _ _ 16 octets) c.put_line.ensures
