-- Why a batch isn't taken, and the stream that it opens.
use Rattle.std.proofs.Common.{◌≡◌, ◌+◌, ◌<◌, ◌≤◌, ◌^◌, ◌==◌, ◌||◌, ℕ, Bool, true, false, cond, List, length, get_or, sym, ◌∙◌, ap, subst, add-zero}
use Rattle.std.specs.BTreeSet.{insert_key}
use Rattle.std.specs.Ordering.{nat_cmp}
use Rattle.nl_core.specs.Frames.{message_fits}
use Rattle.nl_core.specs.declared.message.NetlinkMessage.{NetlinkMessage}
use Rattle.session_model.specs.declared.transcript.BatchFrame.{BatchFrame}
use Rattle.proto_core.specs.declared.error.NetlinkProtoError.{NetlinkProtoError}
use Rattle.proto_core.specs.declared.error.NetlinkProtoError.TheVariants as error
use Rattle.proto_conn.specs.Conn.{used}
use Rattle.proto_conn.specs.Conn.{messages_in as requests_in}
use Rattle.proto_conn.specs.Handling.{IsRefused}
use Rattle.session_laws.specs.Requests.{marked, marks_in, messages_in, Opens}
use Rattle.mirror.specs.declared.ledger.Ledger.{Ledger}
use Rattle.mirror.specs.Format.{Message, format}
use Rattle.mirror.specs.Ledger.{awaited_at}
use Rattle.mirror.specs.Polled.{AtRest, OpensBatch, RouteConn}
use Rattle.mirror.specs.Refusals.{IsRequestRefusal, RefusesBatch, fault_of}

-- Why the handle of a connection at rest refuses a batch.
pub refuses_batch : (old : RouteConn) (frames : List BatchFrame) (messages : List (NetlinkMessage Message)) (e : NetlinkProtoError)
    → AtRest old → old.closed ≡ false → messages ≡ messages_in format frames → IsRefused format.text format.fits old messages e
    → IsRequestRefusal e × RefusesBatch old frames (fault_of e)
refuses_batch old frames messages e rest open_still is h = by e h
  where
    used_is : used old ≡ old.session.last
    used_is = ap (λ rs. old.session.last + requests_in rs) rest.queue ∙ add-zero old.session.last

    takes : (old.closed || old.requests_closed) ≡ false
    takes = ap (λ b. b || old.requests_closed) open_still ∙ rest.takes_requests

    both : (b : Bool) → b ≡ true → b ≡ false → ⊥
    both true x y = cc
    both false x y = cc

    count : used old + length messages ≡ old.session.last + length (messages_in format frames)
    count = ap (λ n. n + length messages) used_is ∙ ap (λ ms. old.session.last + length ms) is

    by : (e : NetlinkProtoError) → IsRefused format.text format.fits old messages e → IsRequestRefusal e × RefusesBatch old frames (fault_of e)
    by error.ConnectionClosed g = absurd (both (old.closed || old.requests_closed) g takes)
    by (error.NetlinkError message) g = absurd g
    by (error.SocketIo fault) g = absurd g
    by (error.SequenceExhausted n asked) g = (tt, subst (λ k. 2 ^ 32 ≤ k) count g.1.2)
    by (error.Unfit index) g = (
      tt,
      (
        index,
        subst (λ k. k < 2 ^ 32) count g.1.0,
        subst (λ ms. index < length ms) is g.1.2,
        λ d. ap (λ ms. message_fits format.text format.fits (get_or ms index d)) (sym is) ∙ g.1.3 d,
      ),
    )
    by error.NoMemory g = (tt, tt)

-- The stream of a batch that was queued, in a ledger.
pub opens_batch : (frames : List BatchFrame) (stream n k count : ℕ) (before mid now : Ledger) → k ≡ stream → count ≡ n
    → n ≡ marked (marks_in format frames)
    → Opens k count (awaited_at before) (awaited_at mid)
    → mid.closing.keys ≡ cond (count == 0) (insert_key nat_cmp before.closing.keys k) before.closing.keys
    → mid.dropped ≡ before.dropped → now ≡ mid → OpensBatch stream frames before now
opens_batch frames stream n k count before mid now stream_is count_is n_is opens closing dropped same =
    let number = count_is ∙ n_is in
    subst (OpensBatch stream frames before) (sym same) (record {
      opens = subst (λ i. Opens i (marked (marks_in format frames)) (awaited_at before) (awaited_at mid)) stream_is
          (subst (λ i. Opens k i (awaited_at before) (awaited_at mid)) number opens);
      closing = closing ∙ ap (λ i. cond (i == 0) (insert_key nat_cmp before.closing.keys k) before.closing.keys) number
          ∙ ap (λ i. cond (marked (marks_in format frames) == 0) (insert_key nat_cmp before.closing.keys i) before.closing.keys) stream_is;
      dropped = dropped;
    })
