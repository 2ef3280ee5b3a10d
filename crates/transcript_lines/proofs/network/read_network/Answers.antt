use Rattle.transcript_lines.specs.Words.{words_left}
use Rattle.transcript_lines.proofs.NetworkWords.{no_slash, no_length, no_base, network_of_parts, pair_of}
use Rattle.transcript_lines.proofs.network.read_network.Goals as goal

pub returns-in_err-digits : goal.returns-in_err-digits
returns-in_err-digits c =
    rw c.from_residual-in_err-digits.ensures (no_slash (words_left c.args.words) _ _ c.in_ok-family.ensures c.in_err-digits.ensures)

pub returns-in_err-length : goal.returns-in_err-length
returns-in_err-length c =
    let pair = pair_of (words_left c.args.words) _ _ _ _ c.in_ok-family.ensures c.in_ok-digits.ensures in
    rw c.from_residual-in_err-length.ensures (no_length (words_left c.args.words) _ _ _ pair c.in_err-length.ensures)

pub returns-in_err-base : goal.returns-in_err-base
returns-in_err-base c =
    let pair = pair_of (words_left c.args.words) _ _ _ _ c.in_ok-family.ensures c.in_ok-digits.ensures in
    rw c.from_residual-in_err-base.ensures (no_base (words_left c.args.words) _ _ _ pair c.in_err-base.ensures)

pub returns : goal.returns
returns c =
    let pair = pair_of (words_left c.args.words) _ _ _ _ c.in_ok-family.ensures c.in_ok-digits.ensures in
    let base = c.in_ok-base.ensures in
    let number = c.in_ok-length.ensures in
    network_of_parts (words_left c.args.words) _ _ _ c.in_ok-base.base c.in_ok-length.length c.network_at.result pair base.0 base.1
    number.0 number.1 c.network_at.ensures
