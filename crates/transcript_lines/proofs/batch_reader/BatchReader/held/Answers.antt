use Rattle.std.proofs.Common.{◌≡◌, ◌+◌, ◌≤◌, length, sym, subst, ap, take_all, arith}
use Rattle.transcript_lines.specs.Decoding.{IsCount, bytes_in, kept_in_word}
use Rattle.transcript_lines.proofs.BatchWords.{at_most_half}
use Rattle.transcript_lines.proofs.batch_reader.BatchReader.held.Goals as goal

pub returns-clause-half : goal.returns-clause-half
returns-clause-half c taken b =
    let frames = c.args.self.now.frames in
    let same : length c.as_slice-frame-items.result.now ≡ length frames = ap length c.as_slice-frame-items.ensures in
    let count = subst (λ fs. IsCount c.loop-frame.held (kept_in_word c.args.self.now.word + bytes_in fs))
    (take_all c.loop-frame.frame-index frames (omega (arith, same))) c.loop-frame.invariant in
    let low : c.loop-frame.held ≤ kept_in_word c.args.self.now.word + bytes_in frames = omega (arith, count) in
    let word : kept_in_word c.args.self.now.word ≡ c.held-held.result = sym c.held-held.ensures.count in
    at_most_half c.args.self.now taken c.held-held.result c.loop-frame.held (kept_in_word c.args.self.now.word) c.held-held.ensures.half word low b

pub returns-clause-count : goal.returns-clause-count
returns-clause-count c =
    let frames = c.args.self.now.frames in
    let same : length c.as_slice-frame-items.result.now ≡ length frames = ap length c.as_slice-frame-items.ensures in
    subst (λ fs. IsCount c.loop-frame.held (kept_in_word c.args.self.now.word + bytes_in fs))
    (take_all c.loop-frame.frame-index frames (omega (arith, same))) c.loop-frame.invariant
