use Rattle.std.proofs.Common.{◌∙◌, sym, get_or, lit<, arith}
use Rattle.std.proofs.lemmas.List.{take_more}
use Rattle.transcript_lines.proofs.Octets.{number_more, octet_more, power_fits}
use Rattle.transcript_lines.proofs.network.number_of.Goals as goal

pub overflow_mul-number : goal.overflow_mul-number
overflow_mul-number c =
    let i = c.loop-octet.octet-index in
    let below = number_more i c.loop-octet.number 0 (lit< tt) c.loop-octet.invariant.fits in
    omega (arith, below, power_fits i _ c.loop-octet-test.true c.requires)

pub overflow_add-number : goal.overflow_add-number
overflow_add-number c =
    let i = c.loop-octet.octet-index in
    let below = number_more i c.loop-octet.number (get_or c.args.octets.now i 0) (omega (arith, c.type_inv.octets i)) c.loop-octet.invariant.fits in
    omega (arith, below, power_fits i _ c.loop-octet-test.true c.requires)

pub loop-octet-preserved : goal.loop-octet-preserved
loop-octet-preserved c =
    let i = c.loop-octet.octet-index in
    let octet = get_or c.args.octets.now i 0 in
    record {
      octets = octet_more _ i c.loop-octet.number octet (omega (arith, c.type_inv.octets i)) c.loop-octet.invariant.octets
          ∙ sym (take_more c.args.octets.now i 0 c.loop-octet-test.true);
      fits = number_more i c.loop-octet.number octet (omega (arith, c.type_inv.octets i)) c.loop-octet.invariant.fits;
    }
