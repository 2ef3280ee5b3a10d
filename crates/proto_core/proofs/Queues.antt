-- The oldest of a queue is taken out.
use Rattle.std.proofs.Common.{◌≡◌, ◌++◌, List, [], ◌∷◌, drop, length, Option, Some, None, IfSome, IfNone, refl, sym, ◌∙◌, ap, arith}
use Rattle.std.specs.Option.{option_to_list}
use Rattle.proto_core.specs.Session.{Session}
use Rattle.proto_core.specs.declared.messages.Incoming.{Incoming}
use Rattle.proto_core.specs.declared.messages.Outgoing.{Outgoing}
use Rattle.proto_core.specs.declared.messages.Response.{Response}

empty_from_drop : {A : Type 0} (xs : List A) → xs ≡ drop 1 xs → xs ≡ []
empty_from_drop [] h = refl
empty_from_drop (x ∷ xs) h = let never : length (x ∷ xs) ≡ length xs = ap length h in absurd (omega arith)

-- `put` is the state with a queue in its place.
none_popped : {A S : Type 0} (put : List A → S) (queue : List A) (now : S) (r : Option A) (before after : List A)
    → put before ≡ now → before ≡ queue → before ≡ option_to_list r ++ after → after ≡ drop 1 before → IfNone r ((queue ≡ []) × (put after ≡ now))
none_popped put queue now (Some x) before after view is items rest = tt
none_popped put queue now None before after view is items rest = (sym is ∙ empty_from_drop before (items ∙ rest), ap put (sym items) ∙ view)

some_popped : {A S : Type 0} (put : List A → S) (now : S) (r : Option A) (before after : List A)
    → put before ≡ now → before ≡ option_to_list r ++ after → IfSome r (λ x. now ≡ put (x ∷ after))
some_popped put now None before after view items = tt
some_popped put now (Some x) before after view items = sym view ∙ ap put items

-- ---- for a session as it was opened
module _ {T M : Type 0} where
  -- No reply is taken out of an empty queue.
  pub no_response : (opened s : Session T M) (r : Option (Response T M)) (after : List (Response T M)) → opened ≡ s → opened.responses ≡ option_to_list r ++ after → after ≡ drop 1 opened.responses
      → IfNone r ((s.responses ≡ []) × (record opened { responses = after } ≡ s))
  no_response opened s r after view items rest =
      none_popped (λ queue. record opened { responses = queue }) s.responses s r opened.responses after view (ap (λ (o : Session T M). o.responses) view) items rest

  -- The oldest reply is taken out.
  pub some_response : (opened s : Session T M) (r : Option (Response T M)) (after : List (Response T M)) → opened ≡ s → opened.responses ≡ option_to_list r ++ after
      → IfSome r (λ x. s ≡ record opened { responses = x ∷ after })
  some_response opened s r after view items = some_popped (λ queue. record opened { responses = queue }) s r opened.responses after view items

  -- No unsolicited message is taken out of an empty queue.
  pub no_incoming : (opened s : Session T M) (r : Option (Incoming T)) (after : List (Incoming T)) → opened ≡ s → opened.incoming ≡ option_to_list r ++ after → after ≡ drop 1 opened.incoming
      → IfNone r ((s.incoming ≡ []) × (record opened { incoming = after } ≡ s))
  no_incoming opened s r after view items rest =
      none_popped (λ queue. record opened { incoming = queue }) s.incoming s r opened.incoming after view (ap (λ (o : Session T M). o.incoming) view) items rest

  -- The oldest unsolicited message is taken out.
  pub some_incoming : (opened s : Session T M) (r : Option (Incoming T)) (after : List (Incoming T)) → opened ≡ s → opened.incoming ≡ option_to_list r ++ after
      → IfSome r (λ x. s ≡ record opened { incoming = x ∷ after })
  some_incoming opened s r after view items = some_popped (λ queue. record opened { incoming = queue }) s r opened.incoming after view items

  -- No datagram is taken out of an empty queue.
  pub no_outgoing : (opened s : Session T M) (r : Option (Outgoing T)) (after : List (Outgoing T)) → opened ≡ s → opened.outgoing ≡ option_to_list r ++ after → after ≡ drop 1 opened.outgoing
      → IfNone r ((s.outgoing ≡ []) × (record opened { outgoing = after } ≡ s))
  no_outgoing opened s r after view items rest =
      none_popped (λ queue. record opened { outgoing = queue }) s.outgoing s r opened.outgoing after view (ap (λ (o : Session T M). o.outgoing) view) items rest

  -- The oldest datagram is taken out.
  pub some_outgoing : (opened s : Session T M) (r : Option (Outgoing T)) (after : List (Outgoing T)) → opened ≡ s → opened.outgoing ≡ option_to_list r ++ after
      → IfSome r (λ x. s ≡ record opened { outgoing = x ∷ after })
  some_outgoing opened s r after view items = some_popped (λ queue. record opened { outgoing = queue }) s r opened.outgoing after view items
