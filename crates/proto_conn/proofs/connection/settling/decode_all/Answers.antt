use Rattle.std.proofs.Common.{◌∷◌, [], List, ap, length, length-append, refl, subst, sym, ◌∙◌, arith}
use Rattle.nl_core.specs.declared.message.NetlinkMessage.{NetlinkMessage}
use Rattle.proto_core.specs.declared.codec.Decoded.TheVariants as decoded
use Rattle.proto_conn.proofs.Decodings.{GoOn, fewer, go_on_message, go_on_nothing, go_on_rest, go_on_unreadable, sixteen}
use Rattle.proto_conn.proofs.connection.settling.decode_all.Goals as goal

pub frames-preserved-in-Continue-branch-5 : goal.frames-preserved-in-Continue-branch-5
frames-preserved-in-Continue-branch-5 g c =
    let is = sym c.in-Message.is ∙ c.in_ok-message.ensures.front in
    let more = sixteen g.T.NetlinkDeserializable.reads (length c.frames.messages.items) c.args.bytes.now c.frames.buffer.items
    c.decode_next.new.src.items c.in-Message.message is c.in_ok-message.ensures.rest c.frames.invariant.few in
    let len = ap length c.in_ok-push-in-Message.ensures.items in
    let sum = length-append c.frames.messages.items (c.in-Message.message ∷ []) in
    record {
      read = subst (λ (ms : List (NetlinkMessage g.row.T.Denot)). GoOn g.T.NetlinkDeserializable.reads ms c.decode_next.new.src.items c.args.bytes.now)
          (sym c.in_ok-push-in-Message.ensures.items)
          (go_on_message g.T.NetlinkDeserializable.reads c.frames.messages.items c.in-Message.message c.frames.buffer.items _ c.args.bytes.now
          is c.in_ok-message.ensures.rest c.frames.invariant.read);
      few = omega (arith, more, len, sum);
    }

pub frames-preserved-in-Unreadable : goal.frames-preserved-in-Unreadable
frames-preserved-in-Unreadable g c =
    let is = sym c.in-Unreadable.is ∙ c.in_ok-message.ensures.front in
    let less = fewer g.T.NetlinkDeserializable.reads c.frames.buffer.items c.decode_next.new.src.items
    (decoded.Unreadable c.in-Unreadable.message_type c.in-Unreadable.sequence_number) is refl c.in_ok-message.ensures.rest in
    record {
      read = go_on_unreadable g.T.NetlinkDeserializable.reads c.frames.messages.items _ _ c.frames.buffer.items _ c.args.bytes.now is
          c.in_ok-message.ensures.rest c.frames.invariant.read;
      few = omega (arith, less, c.frames.invariant.few);
    }

pub frames-preserved : goal.frames-preserved
frames-preserved g c =
    let is = sym c.in-Rest.is ∙ c.in_ok-message.ensures.front in
    let less = fewer g.T.NetlinkDeserializable.reads c.frames.buffer.items c.decode_next.new.src.items (decoded.Rest c.in-Rest.bytes) is refl
    c.in_ok-message.ensures.rest in
    record {
      read = go_on_rest g.T.NetlinkDeserializable.reads c.frames.messages.items _ c.frames.buffer.items _ c.args.bytes.now is
          c.in_ok-message.ensures.rest c.frames.invariant.read;
      few = omega (arith, less, c.frames.invariant.few);
    }

pub returns-in-Empty-clause-messages : goal.returns-in-Empty-clause-messages
returns-in-Empty-clause-messages g c =
    go_on_nothing g.T.NetlinkDeserializable.reads c.frames.messages.items c.frames.buffer.items c.args.bytes.now
    (sym c.in-Empty.is ∙ c.in_ok-message.ensures.front) c.frames.invariant.read
