use Rattle.std.proofs.Common.{subst}
use Rattle.transcript_lines.specs.BytesReader.{ReadsBytes}
use Rattle.transcript_lines.proofs.Pieces.{three_parts}
use Rattle.transcript_lines.proofs.bytes.BytesReader.feed.Goals as goal

pub returns : goal.returns
returns c fed r =
    let front = c.split_at.ensures in
    let back = c.split_at-2.ensures in
    subst (λ z. ReadsBytes z c.take_each-2.new.self) (three_parts fed c.args.piece.now _ _ _ _ _ _ front.front front.back back.front back.back)
    (c.in_ok-take_each-2.ensures _ (c.in_ok-take_pairs.ensures _ (c.in_ok-take_each.ensures fed r)))
