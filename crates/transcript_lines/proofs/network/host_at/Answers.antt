use Rattle.std.proofs.Common.{sym, ◌∙◌}
use Rattle.transcript_lines.proofs.NetworkWords.{host_v4, host_v6, no_host}
use Rattle.transcript_lines.proofs.network.host_at.Goals as goal

pub returns-then-octets-octet_count : goal.returns-then-octets-octet_count
returns-then-octets-octet_count c =
    no_host c.args.family c.args.octets.now (λ e. c.if-octets-octet_count.true (e ∙ sym c.octet_count.ensures))

pub returns-in-V4 : goal.returns-in-V4
returns-in-V4 c =
    host_v4 c.args.family c.args.octets.now c.number_of-number.result c.in-V4.is (c.if-octets-octet_count.false ∙ c.octet_count.ensures)
    c.number_of-number.ensures.octets c.number_of-number.ensures.fits

pub returns-in-V6 : goal.returns-in-V6
returns-in-V6 c =
    host_v6 c.args.family c.args.octets.now c.number_of-number.result c.in-V6.is (c.if-octets-octet_count.false ∙ c.octet_count.ensures)
    c.number_of-number.ensures.octets c.number_of-number.ensures.fits
