-- A request more in the queue.
use Rattle.std.proofs.Common.{◌≡◌, ◌+◌, ◌<◌, ◌^◌, ℕ, Bool, true, List, [], ◌∷◌, ◌++◌, length, ap, sym, subst, ◌∙◌, arith, length-append}
use Rattle.std.specs.List.{list_all}
use Rattle.nl_core.specs.Frames.{message_fits}
use Rattle.stream_list.specs.Listed.{Room}
use Rattle.proto_core.specs.Session.{Session}
use Rattle.proto_core.specs.declared.request.Request.{Request}
use Rattle.proto_conn.specs.declared.parts.Held.{Held}
use Rattle.proto_conn.specs.Conn.{IsSound, messages_in}
use Rattle.proto_conn.specs.Fitting.{RequestsFit}
use Rattle.proto_conn.specs.Tallies.{AreNewest, IsTallied, Tallied, no_tally}
use Rattle.proto_conn.proofs.Counts.{all-append, tallied_more}
use Rattle.proto_conn.proofs.Numbering.{newest_more}

messages_in-push : {T : Type 0} (q : List (Request T ℕ)) (r : Request T ℕ) → messages_in (q ++ r ∷ []) ≡ messages_in q + length r.messages
messages_in-push [] r = omega arith
messages_in-push (p ∷ q) r = let h = messages_in-push q r in omega (arith, h)

pub sound_queued : {T : Type 0} {text : T → List ℕ} {fits : T → Bool} (s : Session T ℕ) (q now : List (Request T ℕ)) (r : Request T ℕ) (count n a : ℕ) (b : Room) (c d : ℕ) (h : Held)
    (reader : List ℕ) (given given2 : ℕ) (t t2 : Tallied)
    → given2 ≡ given + 1 → t2 ≡ record t { streams = t.streams ++ no_tally ∷ [] } → r.metadata ≡ given2 → now ≡ q ++ r ∷ [] → n ≡ length r.messages
    → given2 < b.streams → (s.last + count) + length r.messages < 2 ^ 32 → list_all (message_fits text fits) r.messages ≡ true
    → IsSound text fits s q count a b c d h reader given t → IsSound text fits s now (count + n) a b c d h reader given2 t2
sound_queued {T} {text} {fits} s q now r count n a b c d h reader given given2 t t2 one more next is len known room fit i = record {
  counted = let p = messages_in-push q r in let k = ap messages_in is in omega (arith, i.counted, len, p, k);
  numbers = omega (arith, room, len);
  fit = subst (λ x. RequestsFit text fits x) (sym is)
      (all-append (λ (x : Request T ℕ). list_all (message_fits text fits) x.messages ≡ true) q (r ∷ []) i.fit (fit, tt));
  batches = i.batches;
  replies = i.replies;
  known = λ _. known;
  unsolicited = i.unsolicited;
  held = i.held;
  streams = let e : length t2.streams ≡ length (t.streams ++ no_tally ∷ []) = ap (λ (x : Tallied). length x.streams) more in
      let l = length-append t.streams (no_tally ∷ []) in let k = i.streams in omega (arith, e, l, k, one);
  newest = subst (λ n. AreNewest n now) (sym one) (subst (λ q. AreNewest (given + 1) q) (sym is) (newest_more given q r (next ∙ one) i.newest));
  tallied = subst (λ (x : Tallied). IsTallied s.awaited s.responses s.arrived x) (sym more) (tallied_more s.awaited s.responses s.arrived t i.tallied);
}
