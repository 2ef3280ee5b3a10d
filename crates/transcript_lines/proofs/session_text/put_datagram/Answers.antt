use Rattle.std.proofs.Common.{◌∷◌, ◌++◌, [], map, ◌∙◌, ap}
use Rattle.std.specs.List.{join_with_byte}
use Rattle.nl_core.specs.Frames.{message_text}
use Rattle.session_model.specs.Lines.{hex_word}
use Rattle.session_model.specs.SessionText.{joined}
use Rattle.transcript_lines.specs.Spelling.{spelled}
use Rattle.transcript_lines.proofs.Joined.{line_by_last}
use Rattle.transcript_lines.proofs.session_text.put_datagram.Goals as goal

pub returns : goal.returns
returns g c fits =
    let words = map spelled c.args.more.now in
    let last = hex_word (joined (map (message_text g.T.NetlinkSerializable.text) c.args.messages.now)) in
    let put = c.in_ok-put_words.ensures ∙ ap (λ z. z ++ join_with_byte 32 (c.args.first.now ∷ words)) c.make_room.ensures in
    c.in_ok-push-2.ensures.items ∙ ap (λ z. z ++ 10 ∷ []) (c.in_ok-put_joined.ensures fits
    ∙ ap (λ z. z ++ last) (c.in_ok-push.ensures.items ∙ ap (λ z. z ++ 32 ∷ []) put))
    ∙ line_by_last c.args.text.now.items c.args.first.now last words
