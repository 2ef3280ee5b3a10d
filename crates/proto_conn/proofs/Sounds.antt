-- What a connection keeps.
use Rattle.std.proofs.Common.{◌≡◌, ◌+◌, ◌-◌, ◌<◌, ◌≤◌, ◌^◌, ◌&&◌, ℕ, Bool, true, false, cond, set, nat_le, List, [], length, nat_lt, refl, sym, ◌∙◌, ap, subst, arith}
use Rattle.std.proofs.Math.ListN.{length-set}
use Rattle.std.proofs.lemmas.List.{get_or_past}
use Rattle.stream_list.specs.Listed.{Listed, Room}
use Rattle.proto_core.specs.Session.{Session, fresh}
use Rattle.proto_core.specs.declared.request.Request.{Request}
use Rattle.proto_conn.specs.declared.parts.Held.{Held}
use Rattle.proto_conn.specs.declared.parts.Held.TheVariants as held
use Rattle.proto_conn.specs.declared.tally.Tally.{Tally}
use Rattle.proto_conn.specs.Conn.{IsHeld, IsSound, messages_in}
use Rattle.proto_conn.specs.Fitting.{BatchesFit, RequestsFit}
use Rattle.proto_conn.specs.Streaming.{marked_at}
use Rattle.proto_conn.specs.Tallies.{AreNewest, IsTallied, Tallied, no_tally, tally_at}
use Rattle.proto_conn.proofs.Counts.{tallied_handed, tallied_same}

no_streams : (k : ℕ) → tally_at [] k ≡ no_tally
no_streams k = get_or_past [] k no_tally (omega arith)

-- At first.
tallied_fresh : {T : Type 0} → IsTallied {T = T} [] [] 0 (record { streams = []; handed = 0 })
tallied_fresh = record {
  numbers = λ k. ap (λ (t : Tally). t.awaited) (no_streams k);
  replies = λ k. ap (λ (t : Tally). nat_lt 0 t.newest) (no_streams k);
  newest = λ k. let e = ap (λ (t : Tally). t.newest) (no_streams k) in omega (arith, e);
  handed = omega arith;
  named = tt;
  answered = tt;
}

pub sound_fresh : {T : Type 0} {text : T → List ℕ} {fits : T → Bool} (s : Session T ℕ) (q : List (Request T ℕ)) (start a : ℕ) (b : Room) (c d : ℕ) (reader : List ℕ) (marks : List Bool) (t : Tallied)
    → s ≡ fresh start → q ≡ [] → start < 2 ^ 32
    → a ≡ 0 → c ≡ 0 → marks ≡ [] → t ≡ record { streams = []; handed = 0 } → IsSound text fits s q 0 a b c d held.Nothing reader (length marks) t
sound_fresh {T} {text} {fits} s q start a b c d reader marks t is none small ea ec unmarked new =
    subst (λ (x : Session T ℕ). IsSound text fits x q 0 a b c d held.Nothing reader (length marks) t) (sym is)
    (subst (λ (x : List (Request T ℕ)). IsSound text fits (fresh start) x 0 a b c d held.Nothing reader (length marks) t) (sym none)
    (subst (λ (x : List Bool). IsSound text fits (fresh start) [] 0 a b c d held.Nothing reader (length x) t) (sym unmarked)
    (subst (λ (x : Tallied). IsSound text fits (fresh start) [] 0 a b c d held.Nothing reader 0 x) (sym new)
    (record {
      counted = refl;
      numbers = omega (arith, small);
      fit = tt;
      batches = tt;
      replies = omega (arith, ea);
      known = λ p. absurd (omega (arith, p));
      unsolicited = omega
          (arith, ec);
      held = tt;
      streams = refl;
      newest = tt;
      tallied = tallied_fresh;
    }))))

-- Once the replies are handed on.
pub sound_forwarded : {T : Type 0} {text : T → List ℕ} {fits : T → Bool} (s s2 : Session T ℕ) (q : List (Request T ℕ)) (count a : ℕ) (b : Room) (c d a2 : ℕ) (b2 : Room) (h : Held) (reader : List ℕ)
    (given : ℕ) (t t2 : Tallied) (n : ℕ)
    → s2 ≡ record s { responses = [] } → n ≡ s2.arrived → t2 ≡ record t { handed = n } → a2 ≤ b2.items → b2 ≡ b → IsSound text fits s q count a b c d h reader given t
    → IsSound text fits s2 q count a2 b2 c d h reader given t2
sound_forwarded {T} {text} {fits} s s2 q count a b c d a2 b2 h reader given t t2 n is arrived new within room i =
    let same : t2 ≡ record t { handed = s.arrived } = new ∙ ap (λ k. record t { handed = k }) (arrived ∙ ap (λ (x : Session T ℕ). x.arrived) is) in
    subst (λ (x : Session T ℕ). IsSound text fits x q count a2 b2 c d h reader given t2) (sym is)
    (subst (λ (x : Tallied). IsSound text fits (record s { responses = [] }) q count a2 b2 c d h reader given x) (sym same)
    (record {
      counted = i.counted;
      numbers = i.numbers;
      fit = i.fit;
      batches = i.batches;
      replies = omega (arith, within);
      known = subst (λ (x : Room). 0 < given → given < x.streams) (sym room) i.known;
      unsolicited = i.unsolicited;
      held = i.held;
      streams = i.streams;
      newest = i.newest;
      tallied = tallied_handed s.awaited s.responses s.arrived t i.tallied;
    }))

-- Once requests are taken.
pub sound_taken : {T : Type 0} {text : T → List ℕ} {fits : T → Bool} (s s2 : Session T ℕ) (q q2 : List (Request T ℕ)) (count count2 a : ℕ) (b : Room) (c d : ℕ) (h : Held) (reader : List ℕ)
    (given : ℕ) (t t2 : Tallied)
    → count2 ≡ messages_in q2 → s2.last + count2 ≡ s.last + count → s2.responses ≡ s.responses → s2.incoming ≡ s.incoming → length t2.streams ≡ length t.streams
    → RequestsFit text fits q2 → BatchesFit text fits s2.outgoing
    → AreNewest (length t2.streams) q2 → IsTallied s2.awaited s2.responses s2.arrived t2 → IsSound text fits s q count a b c d h reader given t
    → IsSound text fits s2 q2 count2 a b c d h reader given t2
sound_taken s s2 q q2 count count2 a b c d h reader given t t2 counted last responses incoming len fit batches newest tallied i = record {
  counted = counted;
  numbers = let n = i.numbers in omega (arith, n, last);
  fit = fit;
  batches = batches;
  replies = subst (λ rs. length rs + a ≤ b.items) (sym responses) i.replies;
  known = i.known;
  unsolicited = subst (λ rs. length rs + c ≤ d) (sym incoming) i.unsolicited;
  held = i.held;
  streams = len ∙ i.streams;
  newest = subst (λ n. AreNewest n q2) (len ∙ i.streams) newest;
  tallied = tallied;
}

-- Where a batch left the session.
pub sound_sent : {T : Type 0} {text : T → List ℕ} {fits : T → Bool} (s s2 : Session T ℕ) (q : List (Request T ℕ)) (count a : ℕ) (b : Room) (c d : ℕ) (h : Held) (reader reader2 : List ℕ) (given : ℕ) (t : Tallied)
    → s2.last ≡ s.last → s2.responses ≡ s.responses → s2.incoming ≡ s.incoming → s2.awaited ≡ s.awaited → s2.arrived ≡ s.arrived → reader2 ≡ reader
    → BatchesFit text fits s2.outgoing
    → IsSound text fits s q count a b c d h reader given t → IsSound text fits s2 q count a b c d h reader2 given t
sound_sent s s2 q count a b c d h reader reader2 given t last responses incoming awaited arrived same batches i = record {
  counted = i.counted;
  numbers = let n = i.numbers in omega (arith, n, last);
  fit = i.fit;
  batches = batches;
  replies = subst (λ rs. length rs + a ≤ b.items) (sym responses) i.replies;
  known = i.known;
  unsolicited = subst (λ rs. length rs + c ≤ d) (sym incoming) i.unsolicited;
  held = subst (λ r. IsHeld h r) (sym same) i.held;
  streams = i.streams;
  newest = i.newest;
  tallied = rw (awaited, responses, arrived) i.tallied;
}

-- Where room was made, and what waits is held otherwise.
pub sound_roomy : {T : Type 0} {text : T → List ℕ} {fits : T → Bool} (s s2 : Session T ℕ) (q : List (Request T ℕ)) (count a : ℕ) (b : Room) (c d a2 : ℕ) (b2 : Room) (c2 d2 : ℕ) (h h2 : Held)
    (reader reader2 : List ℕ) (given : ℕ) (t : Tallied)
    → s2 ≡ s → b2.streams ≡ b.streams → length s2.responses + a2 ≤ b2.items → length s2.incoming + c2 ≤ d2 → IsHeld h2 reader2
    → IsSound text fits s q count a b c d h reader given t → IsSound text fits s2 q count a2 b2 c2 d2 h2 reader2 given t
sound_roomy {T} {text} {fits} s s2 q count a b c d a2 b2 c2 d2 h h2 reader reader2 given t is streams replies unsolicited held i = record {
  counted = i.counted;
  numbers = let n = i.numbers in let e = ap (λ (x : Session T ℕ). x.last) is in omega (arith, n, e);
  fit = i.fit;
  batches = subst (λ (x : Session T ℕ). BatchesFit text fits x.outgoing) (sym is) i.batches;
  replies = replies;
  known = λ p. let k = i.known p in omega (arith, k, streams);
  unsolicited = unsolicited;
  held = held;
  streams = i.streams;
  newest = i.newest;
  tallied = tallied_same s s2 t is i.tallied;
}

-- Where a message was taken in, into room for one more.
pub sound_more : {T : Type 0} {text : T → List ℕ} {fits : T → Bool} (s s2 s3 : Session T ℕ) (q : List (Request T ℕ)) (count a : ℕ) (b : Room) (c d a2 : ℕ) (b2 : Room) (c2 d2 : ℕ) (h h2 : Held)
    (reader reader2 : List ℕ) (given : ℕ) (t t3 : Tallied) (n : ℕ)
    → s2 ≡ s → b2.streams ≡ b.streams → length s2.responses + n + a2 ≤ b2.items → length s2.incoming + n + c2 ≤ d2 → IsHeld h2 reader2
    → s3.last ≡ s2.last → length s3.responses ≤ length s2.responses + n → length s3.incoming ≤ length s2.incoming + n → s3.outgoing ≡ s2.outgoing
    → length t3.streams ≡ length t.streams → IsTallied s3.awaited s3.responses s3.arrived t3
    → IsSound text fits s q count a b c d h reader given t → IsSound text fits s3 q count a2 b2 c2 d2 h2 reader2 given t3
sound_more {T} {text} {fits} s s2 s3 q count a b c d a2 b2 c2 d2 h h2 reader reader2 given t t3 n is streams room rest held last responses incoming outgoing len tallied i = record {
  counted = i.counted;
  numbers = let k = i.numbers in let e = ap (λ (x : Session T ℕ). x.last) is in omega (arith, k, e, last);
  fit = i.fit;
  batches = subst (λ os. BatchesFit text fits os) (sym (outgoing ∙ ap (λ (x : Session T ℕ). x.outgoing) is)) i.batches;
  replies = omega (arith, room, responses);
  known = λ p. let k = i.known p in omega (arith, k, streams);
  unsolicited = omega (arith, rest, incoming);
  held = held;
  streams = len ∙ i.streams;
  newest = i.newest;
  tallied = tallied;
}

-- Where there is room for replies of more streams.
pub sound_known : {T : Type 0} {text : T → List ℕ} {fits : T → Bool} (s : Session T ℕ) (q : List (Request T ℕ)) (count a : ℕ) (b : Room) (c d a2 : ℕ) (b2 : Room) (h : Held)
    (reader : List ℕ) (given : ℕ) (t : Tallied)
    → a2 ≡ a → b2.items ≡ b.items → b.streams ≤ b2.streams → IsSound text fits s q count a b c d h reader given t
    → IsSound text fits s q count a2 b2 c d h reader given t
sound_known s q count a b c d a2 b2 h reader given t same items more i = record {
  counted = i.counted;
  numbers = i.numbers;
  fit = i.fit;
  batches = i.batches;
  replies = let r = i.replies in omega (arith, r, same, items);
  known = λ p. let k = i.known p in omega (arith, k, more);
  unsolicited = i.unsolicited;
  held = i.held;
  streams = i.streams;
  newest = i.newest;
  tallied = i.tallied;
}

-- The same of a list of replies itself.
pub sound_reserved : {T X : Type 0} {text : T → List ℕ} {fits : T → Bool} (s : Session T ℕ) (q : List (Request T ℕ)) (count : ℕ) (old now : Listed X) (c d : ℕ) (h : Held)
    (reader : List ℕ) (given : ℕ) (t : Tallied)
    → now.items ≡ old.items → now.room.items ≡ old.room.items → old.room.streams ≤ now.room.streams
    → IsSound text fits s q count (length old.items) old.room c d h reader given t
    → IsSound text fits s q count (length now.items) now.room c d h reader given t
sound_reserved {T} {X} s q count old now c d h reader given t same capacity more i =
    sound_known s q count (length old.items) old.room c d (length now.items) now.room h reader given t
    (ap length same) capacity more i

-- The same for a queue, a count of streams and what is kept of them that are these.
pub sound_same : {T : Type 0} {text : T → List ℕ} {fits : T → Bool} (s : Session T ℕ) (q q2 : List (Request T ℕ)) (count a : ℕ) (b : Room) (c d : ℕ)
    (h : Held) (reader : List ℕ) (given given2 : ℕ) (t t2 : Tallied)
    → q2 ≡ q → given2 ≡ given → t2 ≡ t → IsSound text fits s q count a b c d h reader given t
    → IsSound text fits s q2 count a b c d h reader given2 t2
sound_same {T} {text} {fits} s q q2 count a b c d h reader given given2 t t2 queue marks kept i =
    subst (λ (x : List (Request T ℕ)). IsSound text fits s x count a b c d h reader given2 t2) (sym queue)
    (subst (λ n. IsSound text fits s q count a b c d h reader n t2) (sym marks)
    (subst (λ (x : Tallied). IsSound text fits s q count a b c d h reader given x) (sym kept) i))

-- Where the list of replies is shorter.
pub sound_fewer : {T : Type 0} {text : T → List ℕ} {fits : T → Bool} (s : Session T ℕ) (q : List (Request T ℕ)) (count a : ℕ) (b : Room) (c d a2 : ℕ) (b2 : Room) (h : Held) (reader : List ℕ)
    (given given2 : ℕ) (t : Tallied)
    → a2 ≤ a → b2 ≡ b → given2 ≡ given → IsSound text fits s q count a b c d h reader given t → IsSound text fits s q count a2 b2 c d h reader given2 t
sound_fewer s q count a b c d a2 b2 h reader given given2 t less same as_many i = record {
  counted = i.counted;
  numbers = i.numbers;
  fit = i.fit;
  batches = i.batches;
  replies = let r = i.replies in let e = ap (λ (x : Room). x.items) same in omega (arith, r, less, e);
  known = λ p. let k = i.known (omega (arith, p, as_many)) in let e = ap (λ (x : Room). x.streams) same in omega (arith, k, e, as_many);
  unsolicited = i.unsolicited;
  held = i.held;
  streams = i.streams ∙ sym as_many;
  newest = subst (λ n. AreNewest n q) (sym as_many) i.newest;
  tallied = i.tallied;
}

-- Once the messages that nothing awaited are handed on.
pub sound_unsolicited : {T : Type 0} {text : T → List ℕ} {fits : T → Bool} (s s2 : Session T ℕ) (q : List (Request T ℕ)) (count a : ℕ) (b : Room) (c d c2 d2 : ℕ) (h : Held) (reader : List ℕ)
    (given : ℕ) (t : Tallied)
    → s2 ≡ record s { incoming = [] } → c2 ≤ d2 → IsSound text fits s q count a b c d h reader given t → IsSound text fits s2 q count a b c2 d2 h reader given t
sound_unsolicited {T} {text} {fits} s s2 q count a b c d c2 d2 h reader given t is room i =
    subst (λ (x : Session T ℕ). IsSound text fits x q count a b c2 d2 h reader given t) (sym is)
    (record {
      counted = i.counted;
      numbers = i.numbers;
      fit = i.fit;
      batches = i.batches;
      replies = i.replies;
      known = i.known;
      unsolicited = omega
          (arith, room);
      held = i.held;
      streams = i.streams;
      newest = i.newest;
      tallied = i.tallied;
    })

-- Where what waits is held otherwise.
pub sound_held : {T : Type 0} {text : T → List ℕ} {fits : T → Bool} (s : Session T ℕ) (q : List (Request T ℕ)) (count a : ℕ) (b : Room) (c d : ℕ) (h h2 : Held) (reader reader2 : List ℕ) (given : ℕ) (t : Tallied)
    → IsHeld h2 reader2 → IsSound text fits s q count a b c d h reader given t → IsSound text fits s q count a b c d h2 reader2 given t
sound_held s q count a b c d h h2 reader reader2 given t held i = record {
  counted = i.counted;
  numbers = i.numbers;
  fit = i.fit;
  batches = i.batches;
  replies = i.replies;
  known = i.known;
  unsolicited = i.unsolicited;
  held = held;
  streams = i.streams;
  newest = i.newest;
  tallied = i.tallied;
}

-- A mark changes no length.
pub as_many_marks : (id : ℕ) (marks : List Bool) → length (marked_at id marks) ≡ length marks
as_many_marks id marks = elim (nat_lt 0 id && nat_le id (length marks)) as (λ b. length (cond b (set marks (id - 1) true) marks) ≡ length marks) [
  | true ↦ length-set marks (id - 1) true
  | false ↦ refl
]
