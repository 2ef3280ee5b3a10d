-- The oldest reply of a stream is taken out of a list; and whether more of it comes.
use Rattle.std.proofs.Common.{◌≡◌, ◌+◌, ◌==◌, ◌||◌, ◌≤◌, ℕ, Bool, true, false, not, [], ◌∷◌, ◌++◌, length, Option, Some, None, IfNone, IfSome, ◌&&◌, sym, ◌∙◌, ap, arith, length-append}
use Rattle.std.specs.List.{filter, list_any}
use Rattle.std.proofs.lemmas.List.Sums.{count_by-le-length, length-filter}
use Rattle.stream_list.specs.Listed.{HasNone as ListHasNone, Listed, TakesOldest}
use Rattle.proto_conn.specs.declared.parts.Reply.{Reply}
use Rattle.proto_conn.specs.Conn.{Conn, shuts_down}
use Rattle.proto_conn.specs.Streaming.{HasNone, TakesReply, awaits, is_asking, is_ended}
use Rattle.proto_conn.specs.Tallies.{awaits_of, replies_of}

module _ {T S : Type 0} (id : ℕ) (opened s : Conn T S) (view : opened ≡ s) (old now : Listed (Reply T)) (own : opened.replies ≡ old.items) where
  -- None of the stream is taken out of a list, or its oldest.
  pub none_taken : (r : Option (Reply T)) → IfNone r (ListHasNone (λ (x : Reply T). x.stream) id old now)
      → IfNone r (HasNone id s (record opened { replies = now.items }))
  none_taken None h = record {
    none = ap (λ (c : Conn T S). list_any (λ (x : Reply T). x.stream == id) c.replies) (sym view) ∙ ap (list_any (λ (x : Reply T). x.stream == id)) own ∙ h.none;
    same = ap (λ (l : Listed (Reply T)). record opened { replies = l.items }) h.same ∙ ap (λ rs. record opened { replies = rs }) (sym own) ∙ view;
  }
  none_taken (Some r) h = tt

  pub one_taken : (r : Option (Reply T)) → IfSome r (λ x. TakesOldest (λ (y : Reply T). y.stream) id old x now)
      → IfSome r (λ x. TakesReply id s x (record opened { replies = now.items }))
  one_taken None h = tt
  one_taken (Some r) h = record {
    earlier = h.earlier;
    later = h.later;
    among = ap (λ (c : Conn T S). c.replies) (sym view) ∙ own ∙ h.among;
    own = h.own;
    others = h.others;
    stays = ap (λ (l : Listed (Reply T)). record opened { replies = l.items }) h.stays
        ∙ ap (λ (c : Conn T S). record c { replies = h.earlier ++ h.later }) view;
  }

-- ---- a shorter list

-- No more items are in a list, and the room stays.
pub record IsShorter {X : Type 0} (old now : Listed X) : Type 0 where
  pub less : length now.items ≤ length old.items
  pub room : now.room ≡ old.room

shorter_same : {X : Type 0} (old now : Listed X) → now ≡ old → IsShorter old now
shorter_same {X} old now same = let e = ap (λ (l : Listed X). length l.items) same in record { less = omega (arith, e); room = ap (λ (l : Listed X). l.room) same }

pub shorter_popped : {X : Type 0} (old now : Listed X) (r : Option X) → IfNone r ((old.items ≡ []) × (now ≡ old))
    → IfSome r (λ x. old ≡ record now { items = x ∷ now.items }) → IsShorter old now
shorter_popped {X} old now None none some = shorter_same old now none.1
shorter_popped {X} old now (Some x) none some =
    let e = ap (λ (l : Listed X). length l.items) some in
    record { less = omega (arith, e); room = sym (ap (λ (l : Listed X). l.room) some) }

pub shorter_taken : {X : Type 0} (stream : X → ℕ) (id : ℕ) (old now : Listed X) (r : Option X) → IfNone r (ListHasNone stream id old now)
    → IfSome r (λ x. TakesOldest stream id old x now) → IsShorter old now
shorter_taken {X} stream id old now None none some = shorter_same old now none.same
shorter_taken {X} stream id old now (Some x) none some =
    let all = ap length some.among in
    let sum = length-append some.earlier (x ∷ some.later) in
    let e = ap (λ (l : Listed X). length l.items) some.stays in
    let rest = length-append some.earlier some.later in
    record { less = omega (arith, all, sum, e, rest); room = ap (λ (l : Listed X). l.room) some.stays }

pub shorter_cleared : {X : Type 0} (p : X → Bool) (old now : Listed X) → now ≡ record old { items = filter p old.items } → IsShorter old now
shorter_cleared {X} p old now is =
    let e = ap (λ (l : Listed X). length l.items) is in
    let n = length-filter p old.items in
    let le = count_by-le-length p old.items in
    record { less = omega (arith, e, n, le); room = ap (λ (l : Listed X). l.room) is }

-- ---- whether more comes

module _ {T S : Type 0} (id : ℕ) (c : Conn T S) where
  pub awaits_asking : (d a : Bool) → d ≡ false → a ≡ true → d ≡ shuts_down c → a ≡ is_asking id c → a ≡ awaits id c
  awaits_asking d a e f g h =
      f ∙ sym (ap (λ b. not b && (is_asking id c || awaits_of id c.session.awaited)) (sym g ∙ e) ∙ ap (λ b. b || awaits_of id c.session.awaited) (sym h ∙ f))

  pub awaits_number : (d a w : Bool) → d ≡ false → a ≡ false → d ≡ shuts_down c → a ≡ is_asking id c → w ≡ awaits_of id c.session.awaited → w ≡ awaits id c
  awaits_number d a w e f g h k =
      k ∙ sym (ap (λ b. not b && (is_asking id c || awaits_of id c.session.awaited)) (sym g ∙ e) ∙ ap (λ b. b || awaits_of id c.session.awaited) (sym h ∙ f))

  pub awaits_nothing : (d : Bool) → d ≡ true → d ≡ shuts_down c → not d ≡ awaits id c
  awaits_nothing d e g = ap not e ∙ sym (ap (λ b. not b && (is_asking id c || awaits_of id c.session.awaited)) (sym g ∙ e))

  pub ended_quiet : (r a : Bool) → r ≡ false → r ≡ replies_of id c.session.responses → a ≡ awaits id c → not a ≡ is_ended id c
  ended_quiet r a e f g = ap not g ∙ sym (ap (λ b. not b && not (awaits id c)) (sym f ∙ e))

  pub ended_waits : (r : Bool) → r ≡ true → r ≡ replies_of id c.session.responses → not r ≡ is_ended id c
  ended_waits r e f = ap not e ∙ sym (ap (λ b. not b && not (awaits id c)) (sym f ∙ e))
