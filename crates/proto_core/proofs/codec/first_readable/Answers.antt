use Rattle.std.proofs.Common.{rules, List, ℕ, ◌≡◌, length, drop, Some, None, sym, ◌∙◌, ap, arith}
use Rattle.nl_core.specs.Frames.{frame_at}
use Rattle.proto_core.specs.Codec.{readable, left}
use Rattle.proto_core.specs.Walk.{front_header, if_read}
use Rattle.std.proofs.lemmas.List.{drop_all}
use Rattle.proto_core.proofs.Walks.{readable_ends, readable_skips, left_skips, readable_finds, left_finds, at_next}
use Rattle.proto_core.proofs.codec.first_readable.Goals as goal

pub returns-in-None-clause-place : goal.returns-in-None-clause-place
returns-in-None-clause-place g c =
    let place : c.split_at.result.1.now ≡ drop c.walk.at c.args.bytes.now = search rules in
    let none : front_header (drop c.walk.at c.args.bytes.now) ≡ None = ap front_header (sym place) ∙ sym c.header_in_front.ensures ∙ c.in-None.is in
    let ends = readable_ends g.T.NetlinkDeserializable.reads (drop c.walk.at c.args.bytes.now) none in
    (omega arith, drop_all (length c.args.bytes.now) c.args.bytes.now (omega arith) ∙ sym (sym c.walk.invariant.left ∙ ends.1))

pub returns-in-Some-found-clause-message : goal.returns-in-Some-found-clause-message
returns-in-Some-found-clause-message g c =
    let place : c.split_at.result.1.now ≡ drop c.walk.at c.args.bytes.now = search rules in
    let is : front_header (drop c.walk.at c.args.bytes.now) ≡ Some c.in-Some.header = ap front_header (sym place) ∙ sym c.header_in_front.ensures ∙ c.in-Some.is in
    let found : if_read (frame_at g.T.NetlinkDeserializable.reads (drop c.walk.at c.args.bytes.now)) ≡ Some c.in-Some-found.message = ap (λ (b : List ℕ). if_read (frame_at g.T.NetlinkDeserializable.reads b)) (sym place) ∙ sym c.in_ok-found-in-Some.ensures ∙ c.in-Some-found.is in
    sym (readable_finds g.T.NetlinkDeserializable.reads (drop c.walk.at c.args.bytes.now) c.in-Some.header c.in-Some-found.message is found) ∙ c.walk.invariant.message

pub returns-in-Some-found-clause-place : goal.returns-in-Some-found-clause-place
returns-in-Some-found-clause-place g c =
    let place : c.split_at.result.1.now ≡ drop c.walk.at c.args.bytes.now = search rules in
    let is : front_header (drop c.walk.at c.args.bytes.now) ≡ Some c.in-Some.header = ap front_header (sym place) ∙ sym c.header_in_front.ensures ∙ c.in-Some.is in
    let found : if_read (frame_at g.T.NetlinkDeserializable.reads (drop c.walk.at c.args.bytes.now)) ≡ Some c.in-Some-found.message = ap (λ (b : List ℕ). if_read (frame_at g.T.NetlinkDeserializable.reads b)) (sym place) ∙ sym c.in_ok-found-in-Some.ensures ∙ c.in-Some-found.is in
    let n = at_next c.args.bytes.now c.walk.at c.in-Some.header c.walk.invariant.within is in
    (n.0, sym n.2 ∙ sym (left_finds g.T.NetlinkDeserializable.reads (drop c.walk.at c.args.bytes.now) c.in-Some.header c.in-Some-found.message is found) ∙ c.walk.invariant.left)

pub walk-smaller : goal.walk-smaller
walk-smaller g c =
    let place : c.split_at.result.1.now ≡ drop c.walk.at c.args.bytes.now = search rules in
    let is : front_header (drop c.walk.at c.args.bytes.now) ≡ Some c.in-Some.header = ap front_header (sym place) ∙ sym c.header_in_front.ensures ∙ c.in-Some.is in
    let n = at_next c.args.bytes.now c.walk.at c.in-Some.header c.walk.invariant.within is in
    omega (arith, n.0, n.1)

pub walk-preserved : goal.walk-preserved
walk-preserved g c =
    let place : c.split_at.result.1.now ≡ drop c.walk.at c.args.bytes.now = search rules in
    let is : front_header (drop c.walk.at c.args.bytes.now) ≡ Some c.in-Some.header = ap front_header (sym place) ∙ sym c.header_in_front.ensures ∙ c.in-Some.is in
    let unread : if_read (frame_at g.T.NetlinkDeserializable.reads (drop c.walk.at c.args.bytes.now)) ≡ None = ap (λ (b : List ℕ). if_read (frame_at g.T.NetlinkDeserializable.reads b)) (sym place) ∙ sym c.in_ok-found-in-Some.ensures ∙ c.in-None-found.is in
    let n = at_next c.args.bytes.now c.walk.at c.in-Some.header c.walk.invariant.within is in
    record {
      within = n.0;
      message = ap (readable g.T.NetlinkDeserializable.reads) (sym n.2) ∙ readable_skips g.T.NetlinkDeserializable.reads (drop c.walk.at c.args.bytes.now) c.in-Some.header is unread ∙ c.walk.invariant.message;
      left = ap (left g.T.NetlinkDeserializable.reads) (sym n.2) ∙ left_skips g.T.NetlinkDeserializable.reads (drop c.walk.at c.args.bytes.now) c.in-Some.header is unread ∙ c.walk.invariant.left;
    }
