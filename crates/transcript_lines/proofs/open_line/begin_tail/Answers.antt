use Rattle.transcript_lines.proofs.HeadWords.{no_address, no_fourth, no_keyword}
use Rattle.transcript_lines.proofs.open_line.begin_tail.Goals as goal

pub returns-in_default : goal.returns-in_default
returns-in_default c = no_keyword c.args.first.now c.args.second.now c.args.third.now c.requires c.in_default.ensures

pub returns-in_default-address_of : goal.returns-in_default-address_of
returns-in_default-address_of c =
    no_address c.args.first.now c.args.second.now c.args.third.now c.requires c.in_default-address_of.ensures

pub returns-in_default-kind : goal.returns-in_default-kind
returns-in_default-kind c =
    no_fourth c.args.first.now c.args.second.now c.args.third.now c.in-Some.kind c.requires c.in-Some.ensures
    c.in_default-kind.not-Recv c.in_default-kind.not-Batch
