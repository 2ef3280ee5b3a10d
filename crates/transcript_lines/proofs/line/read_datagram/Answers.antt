use Rattle.std.proofs.Common.{◌≡◌, sym}
use Rattle.session_model.specs.Lines.{hex_word}
use Rattle.transcript_lines.specs.Words.{words_left}
use Rattle.transcript_lines.proofs.RecordWords.{no_datagram, no_more, long_word, short_bytes, datagram_words}
use Rattle.transcript_lines.proofs.line.read_datagram.Goals as goal

pub returns-then-word : goal.returns-then-word
returns-then-word c =
    let steps = c.in-Some-next.ensures.steps in
    no_datagram (words_left c.args.words) (words_left c.read_address.new.words) c.in-Some.source c.in-Some.ensures.1
    (λ bytes each short is. let same : c.in-Some-next.word.now ≡ hex_word bytes = cc in long_word c.in-Some-next.word.now bytes c.if-word.true short same)

pub returns-in-Some-2 : goal.returns-in-Some-2
returns-in-Some-2 c =
    let read = rw c.in-Some-2.is at c.in_ok-bytes.ensures in
    let last = no_more c.next-2.result (words_left c.next.new.self) (words_left c.next-2.new.self) c.next-2.ensures.steps (sym c.if-is_some.ensures) in (
      (c.in-Some.ensures.0, read.0, short_bytes c.in-Some-next.word.now c.in-Some-2.bytes c.if-word.false read.1),
      datagram_words _ _ _ _ _ _ _ c.in-Some.ensures.1 c.in-Some-next.ensures.steps last read.1,
    )
