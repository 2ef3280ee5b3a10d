-- The oldest of a list is taken out of a connection.
use Rattle.std.proofs.Common.{◌≡◌, ◌++◌, List, [], ◌∷◌, drop, length, Option, Some, None, IfSome, IfNone, refl, sym, ◌∙◌, ap, arith}
use Rattle.std.specs.Option.{option_to_list}
use Rattle.stream_list.specs.Listed.{Listed}
use Rattle.proto_core.specs.declared.messages.Incoming.{Incoming}
use Rattle.proto_conn.specs.declared.parts.Reply.{Reply}
use Rattle.proto_conn.specs.Conn.{Conn}

empty_from_drop : {A : Type 0} (xs : List A) → xs ≡ drop 1 xs → xs ≡ []
empty_from_drop [] h = refl
empty_from_drop (x ∷ xs) h = let never : length (x ∷ xs) ≡ length xs = ap length h in absurd (omega arith)

none_popped : {A S : Type 0} (put : List A → S) (queue : List A) (now : S) (r : Option A) (before after : List A)
    → put before ≡ now → before ≡ queue → before ≡ option_to_list r ++ after → after ≡ drop 1 before → IfNone r ((queue ≡ []) × (put after ≡ now))
none_popped put queue now (Some x) before after view is items rest = tt
none_popped put queue now None before after view is items rest = (sym is ∙ empty_from_drop before (items ∙ rest), ap put (sym items) ∙ view)

some_popped : {A S : Type 0} (put : List A → S) (now : S) (r : Option A) (before after : List A)
    → put before ≡ now → before ≡ option_to_list r ++ after → IfSome r (λ x. now ≡ put (x ∷ after))
some_popped put now None before after view items = tt
some_popped put now (Some x) before after view items = sym view ∙ ap put items

module _ {T S : Type 0} (opened s : Conn T S) (view : opened ≡ s) (old now : Listed (Reply T)) (own : opened.replies ≡ old.items) where
  -- None of the replies, or the oldest, is taken out.
  pub no_reply : (r : Option (Reply T)) → IfNone r ((old.items ≡ []) × (now ≡ old))
      → IfNone r ((s.replies ≡ []) × (record opened { replies = now.items } ≡ s))
  no_reply None h = (
    ap (λ (c : Conn T S). c.replies) (sym view) ∙ own ∙ h.0,
    ap (λ (l : Listed (Reply T)). record opened { replies = l.items }) h.1 ∙ ap (λ rs. record opened { replies = rs }) (sym own) ∙ view,
  )
  no_reply (Some r) h = tt

  pub some_reply : (r : Option (Reply T)) → IfSome r (λ x. old ≡ record now { items = x ∷ now.items })
      → IfSome r (λ x. s ≡ record opened { replies = x ∷ now.items })
  some_reply None h = tt
  some_reply (Some r) h = sym view ∙ ap (λ rs. record opened { replies = rs }) (own ∙ ap (λ (l : Listed (Reply T)). l.items) h)

module _ {T S : Type 0} where
  pub no_incoming : (opened s : Conn T S) (r : Option (Incoming T)) (after : List (Incoming T)) → opened ≡ s
      → opened.unsolicited ≡ option_to_list r ++ after → after ≡ drop 1 opened.unsolicited
      → IfNone r ((s.unsolicited ≡ []) × (record opened { unsolicited = after } ≡ s))
  no_incoming opened s r after view items rest = none_popped
      (λ queue. record opened { unsolicited = queue }) s.unsolicited s r opened.unsolicited after view (ap (λ
      (o : Conn T S). o.unsolicited) view) items rest

  pub some_incoming : (opened s : Conn T S) (r : Option (Incoming T)) (after : List (Incoming T)) → opened ≡ s
      → opened.unsolicited ≡ option_to_list r ++ after → IfSome r (λ x. s ≡ record opened { unsolicited = x ∷ after })
  some_incoming opened s r after view items = some_popped (λ queue. record opened { unsolicited = queue }) s r opened.unsolicited after view items
