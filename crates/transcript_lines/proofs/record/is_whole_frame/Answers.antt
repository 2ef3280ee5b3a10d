use Rattle.std.proofs.Common.{◌≡◌, ◌↔◌, IsTrue, nat_eq, ℕ, List, length, Some, Result, Ok, Err, sym, ◌∙◌, rules}
use Rattle.nl_core.specs.declared.error.DecodeError.{DecodeError}
use Rattle.nl_core.specs.declared.message.NetlinkMessage.{NetlinkMessage}
use Rattle.nl_core.specs.Frames.{frame_at}
use Rattle.proto_core.specs.Walk.{if_read}
use Rattle.session_model.specs.Transcript.{IsWholeFrame}
use Rattle.transcript_lines.proofs.record.is_whole_frame.Goals as goal

-- What was read is what the frame reads as.
read-some : {X : Type 0} (r : Result X DecodeError) (x : X) → if_read r ≡ Some x → r ≡ Ok x
read-some (Ok y) x is = cc
read-some (Err e) x is = absurd cc

-- A message is that of a whole frame where its length is the count of bytes.
whole-frame : {M : Type 0} (reads : ℕ → List ℕ → Result M DecodeError) (bytes : List ℕ) (m : NetlinkMessage M)
    → frame_at reads bytes ≡ Ok m → IsTrue (nat_eq m.header.length (length bytes)) ↔ IsWholeFrame reads bytes
whole-frame reads bytes m is = search rules

pub returns-in-Some : goal.returns-in-Some
returns-in-Some g c =
    let reads = g.T.NetlinkDeserializable.reads in
    let bytes = c.args.bytes.now in
    let m = c.in-Some.message in
    whole-frame reads bytes m (read-some (frame_at reads bytes) m (sym c.in_ok-message.ensures ∙ c.in-Some.is))
