-- Items that lead to each other: nodes that are changed, the walk over them, and the items of a stream.
use Rattle.std.proofs.Common.{◌≡◌, ◌≢◌, ◌==◌, ◌+◌, ℕ, true, false, cond, List, [], ◌∷◌, ◌++◌, length, Option}
use Rattle.std.proofs.Common.{Some, None, refl, sym, ap, subst, ◌∙◌, append_assoc}
use Rattle.std.proofs.lemmas.List.{append-nil}
use Rattle.std.proofs.lemmas.List.Elements.{filter-append}
use Rattle.slab.specs.Slab.{get, slab_len}
use Rattle.stream_list.specs.declared.ends.Ends.{Ends}
use Rattle.stream_list.specs.declared.links.Links.{Links}
use Rattle.stream_list.specs.declared.node.Node.{Node}
use Rattle.stream_list.specs.Places.{IsFree, first_from, of_stream}
use Rattle.stream_list.specs.Linked.{IsLinked, changed, entry_at, linked, next_of, node_between, walk}
use Rattle.stream_list.proofs.Splits.{apart_is, filter_dropped, filter_kept, same_is}

module _ {X : Type 0} where
  -- ---- a node that is changed

  pub changed_other : (p : Option ℕ) (f : Node X → Node X) (k : ℕ) (o : Option (Node X)) → p ≢ Some k → changed p f k o ≡ o
  changed_other None f k o n = refl
  changed_other (Some q) f k None n = refl
  changed_other (Some q) f k (Some m) n = ap (λ b. Some (cond b (f m) m)) (apart_is k q (λ is. n (ap Some (sym is))))

  pub changed_at : (p : Option ℕ) (f : Node X → Node X) (k : ℕ) (m : Node X) → p ≡ Some k → changed p f k (Some m) ≡ Some (f m)
  changed_at p f k m is =
      subst (λ q. changed q f k (Some m) ≡ Some (f m)) (sym is) (ap (λ b. Some (cond b (f m) m)) (same_is k))

  -- ---- the walk

  -- A walk over items whose nodes lead to each other gives them.
  walk_from : (at : ℕ → Option (Node X)) (node : List (ℕ × X) → X → List (ℕ × X) → Node X)
      → ((a : List (ℕ × X)) (x : X) (b : List (ℕ × X)) → (node a x b).item ≡ x)
      → ((a : List (ℕ × X)) (x : X) (b : List (ℕ × X)) → (node a x b).next ≡ first_from b None)
      → (a b : List (ℕ × X)) → ((c : List (ℕ × X)) (e : ℕ × X) (d : List (ℕ × X)) → a ++ b ≡ c ++ e ∷ d → at e.0 ≡ Some (node c e.1 d))
      → walk at (length b) (first_from b None) ≡ b
  walk_from at node item next a [] each = refl
  walk_from at node item next a (e ∷ b) each =
      ap (λ o. entry_at e.0 o ++ walk at (length b) (next_of o)) (each a e b refl)
      ∙ ap (λ x. (e.0, x) ∷ walk at (length b) (node a e.1 b).next) (item a e.1 b)
      ∙ ap (λ t. e ∷ walk at (length b) t) (next a e.1 b)
      ∙ ap (λ t. e ∷ t) (walk_from at node item next (a ++ e ∷ []) b (λ c f d h. each c f d (sym (append_assoc a (e ∷ []) b) ∙ h)))

  -- A place with no node is free.
  free_from : (at : ℕ → Option (Node X)) (q : ℕ) → at q ≡ None → (node : List (ℕ × X) → X → List (ℕ × X) → Node X)
      → (a b : List (ℕ × X)) → ((c : List (ℕ × X)) (e : ℕ × X) (d : List (ℕ × X)) → a ++ b ≡ c ++ e ∷ d → at e.0 ≡ Some (node c e.1 d))
      → IsFree q b
  free_from at q vacant node a [] each = tt
  free_from at q vacant node a (e ∷ b) each = (
    λ is. let here : at e.0 ≡ None = ap at is ∙ vacant in let there = each a e b refl in cc,
    free_from at q vacant node (a ++ e ∷ []) b (λ c f d h. each c f d (sym (append_assoc a (e ∷ []) b) ∙ h)),
  )

module _ {X : Type 0} (stream : X → ℕ) where
  -- The items of linked ones, as they are walked over.
  pub walk_is : (l : Links X) (es : List (ℕ × X)) → IsLinked stream l es → walk (get l.nodes) (slab_len l.nodes) l.ends.oldest ≡ es
  walk_is l es h =
      ap (λ n. walk (get l.nodes) n l.ends.oldest) h.count
      ∙ ap (λ (p : Ends). walk (get l.nodes) (length es) p.oldest) h.whole
      ∙ walk_from (get l.nodes) (node_between stream) (λ a x b. refl) (λ a x b. refl) [] es h.each

  pub free_vacant : (l : Links X) (es : List (ℕ × X)) (q : ℕ) → IsLinked stream l es → get l.nodes q ≡ None → IsFree q es
  free_vacant l es q h vacant = free_from (get l.nodes) q vacant (node_between stream) [] es h.each

  -- ---- the items of a stream

  -- The items of a stream, with one item more, less, or apart.
  pub of-append : (s : ℕ) (a b : List (ℕ × X)) → of_stream stream s (a ++ b) ≡ of_stream stream s a ++ of_stream stream s b
  of-append s a b = filter-append (λ (e : ℕ × X). stream e.1 == s) a b

  pub of_dropped : (s : ℕ) (a : List (ℕ × X)) (e : ℕ × X) (b : List (ℕ × X)) → (stream e.1 == s) ≡ false
      → of_stream stream s (a ++ e ∷ b) ≡ of_stream stream s (a ++ b)
  of_dropped s a e b h = filter_dropped (λ (x : ℕ × X). stream x.1 == s) a b e h

  pub of_kept : (s : ℕ) (e : ℕ × X) (b : List (ℕ × X)) → (stream e.1 == s) ≡ true → of_stream stream s (e ∷ b) ≡ e ∷ of_stream stream s b
  of_kept s e b h = filter_kept (λ (x : ℕ × X). stream x.1 == s) b e h

  pub of_apart : (s : ℕ) (a : List (ℕ × X)) (e : ℕ × X) → (stream e.1 == s) ≡ false → of_stream stream s (a ++ e ∷ []) ≡ of_stream stream s a
  of_apart s a e h = of_dropped s a e [] h ∙ ap (of_stream stream s) (append-nil a)

  pub of_pushed : (s : ℕ) (a : List (ℕ × X)) (e : ℕ × X) → (stream e.1 == s) ≡ true → of_stream stream s (a ++ e ∷ []) ≡ of_stream stream s a ++ e ∷ []
  of_pushed s a e h = of-append s a (e ∷ []) ∙ ap (λ t. of_stream stream s a ++ t) (of_kept s e [] h)
