use Rattle.std.proofs.Common.{◌≡◌, ◌≤◌, ◌++◌, true, drop, length, map}
use Rattle.std.specs.List.{list_all}
use Rattle.nl_core.specs.Frames.{message_text, message_fits}
use Rattle.session_model.specs.SessionText.{joined}
use Rattle.transcript_lines.proofs.session_text.put_frames.Given as goal

abbrev pub invariant-loop-message : goal.invariant-loop-message
invariant-loop-message g l =
    let fits = message_fits g.T.NetlinkSerializable.text g.T.NetlinkSerializable.fitting in
    let text = message_text g.T.NetlinkSerializable.text in
    let rest = drop l.message-index l.messages in
    (length l.initial.text.items ≤ length l.text.items)
    × (list_all fits l.messages ≡ true
    → (list_all fits rest ≡ true) × (l.text.items ++ joined (map text rest) ≡ l.initial.text.items ++ joined (map text l.messages)))
