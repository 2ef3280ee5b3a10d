-- Items that lead to each other, once one more is pushed.
use Rattle.std.proofs.Common.{◌≡◌, ◌≢◌, ◌==◌, ◌+◌, ◌<◌, inl, inr, ℕ, true, false, List, [], ◌∷◌, ◌++◌, length, get_or, set, Option}
use Rattle.std.proofs.Common.{Some, None, refl, sym, ap, subst, ◌∙◌, arith, length-append}
use Rattle.std.proofs.lemmas.List.{append-nil, get_or-set_other, get_or-set_same, get_or_read}
use Rattle.slab.specs.Slab.{Slab, Updates, get, slab_len}
use Rattle.stream_list.specs.declared.ends.Ends.{Ends}
use Rattle.stream_list.specs.declared.links.Links.{Links}
use Rattle.stream_list.specs.declared.node.Link.TheVariants.{Next, NextOfStream}
use Rattle.stream_list.specs.declared.node.Node.{Node}
use Rattle.stream_list.specs.Places.{AreApart, IsFree, ends_of, ends_with, first_from, last_from, no_ends, of_stream}
use Rattle.stream_list.specs.Linked.{Changes, IsLinked, changed, linked, node_between}
use Rattle.stream_list.proofs.Splits.{same_is, same_number, split-append, swapped}
use Rattle.stream_list.proofs.Places.{apart_after, apart_before, apart_push, ends-push, free-filter, free-right, last-append, last_free, none_last}
use Rattle.stream_list.proofs.Chains.{changed_at, changed_other, free_vacant, of-append, of_apart, of_dropped, of_kept, of_pushed}

module _ {X : Type 0} (stream : X → ℕ) where
  -- ---- one item more

  next_pushed : (c : List (ℕ × X)) (e : ℕ × X) (m : List (ℕ × X)) (q : ℕ) (x : X) (newest : Option ℕ)
      → newest ≡ last_from None (c ++ e ∷ m) → IsFree e.0 m
      → changed newest (linked Next (Some q)) e.0 (Some (node_between stream c e.1 m))
      ≡ Some (linked Next (first_from (m ++ (q, x) ∷ []) None) (node_between stream c e.1 m))
  next_pushed c e [] q x newest is f = changed_at newest (linked Next (Some q)) e.0 _ (is ∙ last-append None c (e ∷ []))
  next_pushed c e (y ∷ m) q x newest is f =
      changed_other newest (linked Next (Some q)) e.0 _
      (λ h. last_free e.0 (Some y.0) m (λ k. let same : y.0 ≡ e.0 = cc in f.0 same) f.1 (sym (is ∙ last-append None c (e ∷ y ∷ m)) ∙ h))

  stream_pushed : (g : List (ℕ × X)) (e : ℕ × X) (q : ℕ) (x : X) (newest : Option ℕ) (n : Node X)
      → newest ≡ last_from (Some e.0) g → IsFree e.0 g → n.next_of_stream ≡ first_from g None
      → changed newest (linked NextOfStream (Some q)) e.0 (Some n) ≡ Some (linked NextOfStream (first_from (g ++ (q, x) ∷ []) None) n)
  stream_pushed [] e q x newest n is f own = changed_at newest (linked NextOfStream (Some q)) e.0 n is
  stream_pushed (y ∷ g) e q x newest n is f own =
      changed_other newest (linked NextOfStream (Some q)) e.0 (Some n)
      (λ h. last_free e.0 (Some y.0) g (λ k. let same : y.0 ≡ e.0 = cc in f.0 same) f.1 (sym is ∙ h))
      ∙ ap (λ t. Some (linked NextOfStream t n)) own

  each_pushed : (c : List (ℕ × X)) (e : ℕ × X) (m : List (ℕ × X)) (q : ℕ) (x : X) (newest newest_of : Option ℕ)
      → newest ≡ last_from None (c ++ e ∷ m) → newest_of ≡ last_from None (of_stream stream (stream x) (c ++ e ∷ m))
      → IsFree e.0 c → IsFree e.0 m
      → changed newest_of (linked NextOfStream (Some q)) e.0 (changed newest (linked Next (Some q)) e.0 (Some (node_between stream c e.1 m)))
      ≡ Some (node_between stream c e.1 (m ++ (q, x) ∷ []))
  each_pushed c e m q x newest newest_of is own fc fm =
      let n1 : Node X = linked Next (first_from (m ++ (q, x) ∷ []) None) (node_between stream c e.1 m) in
      ap (changed newest_of (linked NextOfStream (Some q)) e.0) (next_pushed c e m q x newest is fm)
      ∙ elim (stream e.1 == stream x) as (λ b. (stream e.1 == stream x) ≡ b
      → changed newest_of (linked NextOfStream (Some q)) e.0 (Some n1) ≡ Some (node_between stream c e.1 (m ++ (q, x) ∷ []))) [
        | true ↦ λ same.
            let is_same : stream e.1 ≡ stream x = same_number (stream e.1) (stream x) same in
            let back : (stream x == stream e.1) ≡ true = ap (λ s. stream x == s) is_same ∙ same_is (stream x) in
            let g = of_stream stream (stream e.1) m in
            let ends : newest_of ≡ last_from (Some e.0) g =
            own ∙ ap (λ s. last_from None (of_stream stream s (c ++ e ∷ m))) (sym is_same)
            ∙ ap (last_from None) (of-append stream (stream e.1) c (e ∷ m) ∙ ap (λ t. of_stream stream (stream e.1) c ++ t) (of_kept stream (stream e.1) e m (same_is (stream e.1))))
            ∙ last-append None (of_stream stream (stream e.1) c) (e ∷ g) in
            stream_pushed g e q x newest_of n1 ends (free-filter e.0 (λ (y : ℕ × X). stream y.1 == stream e.1) m fm) refl
            ∙ ap (λ t. Some (linked NextOfStream (first_from t None) n1)) (sym (of_pushed stream (stream e.1) m (q, x) back))
        | false ↦ λ other.
            let back : (stream x == stream e.1) ≡ false = swapped (stream e.1) (stream x) other in
            let rest = of_dropped stream (stream x) c e m other in
            let free = free-filter e.0 (λ (y : ℕ × X). stream y.1 == stream x) (c ++ m) (both e.0 c m fc fm) in
            changed_other newest_of (linked NextOfStream (Some q)) e.0 (Some n1)
            (λ h. none_last e.0 (of_stream stream (stream x) (c ++ m)) free (sym (own ∙ ap (last_from None) rest) ∙ h))
            ∙ ap (λ t. Some (linked NextOfStream (first_from t None) n1)) (sym (of_apart stream (stream e.1) m (q, x) back))
      ] refl
    where
      both : (k : ℕ) (a b : List (ℕ × X)) → IsFree k a → IsFree k b → IsFree k (a ++ b)
      both k [] b f g = g
      both k (y ∷ a) b f g = (f.0, both k a b f.1 g)

  streams_pushed : (streams : List Ends) (es : List (ℕ × X)) (q : ℕ) (x : X) → stream x < length streams
      → ((s : ℕ) → get_or streams s no_ends ≡ ends_of (of_stream stream s es))
      → (s : ℕ) → get_or (set streams (stream x) (ends_with q (get_or streams (stream x) no_ends))) s no_ends
      ≡ ends_of (of_stream stream s (es ++ (q, x) ∷ []))
  streams_pushed streams es q x within each s =
      elim (stream x == s) as (λ b. (stream x == s) ≡ b → get_or (set streams (stream x) (ends_with q (get_or streams (stream x) no_ends))) s no_ends
      ≡ ends_of (of_stream stream s (es ++ (q, x) ∷ []))) [
        | true ↦ λ same.
            let is : stream x ≡ s = same_number (stream x) s same in
            ap (λ k. get_or (set streams (stream x) (ends_with q (get_or streams (stream x) no_ends))) k no_ends) (sym is)
            ∙ get_or-set_same streams (stream x) _ no_ends within
            ∙ ap (λ k. ends_with q (get_or streams k no_ends)) is
            ∙ ap (ends_with q) (each s)
            ∙ sym (ends-push (of_stream stream s es) (q, x))
            ∙ ap ends_of (sym (of_pushed stream s es (q, x) same))
        | false ↦ λ other.
            get_or-set_other streams (stream x) s _ no_ends (λ is. let yes : (stream x == s) ≡ true = ap (λ k. stream x == k) is ∙ same_is (stream x) in cc)
            ∙ each s ∙ ap ends_of (sym (of_apart stream s es (q, x) other))
      ] refl

  -- What one item more leaves.
  pub linked_push : (l : Links X) (es : List (ℕ × X)) (q : ℕ) (x : X) (n1 n2 n3 : Slab (Node X)) (after : Links X) (node : Node X)
      → IsLinked stream l es → get l.nodes q ≡ None → stream x < length l.streams.items
      → node ≡ record { item = x; previous = l.ends.newest; next = None; next_of_stream = None }
      → Updates l.nodes n1 q (Some node) → slab_len n1 ≡ slab_len l.nodes + 1
      → Changes l.ends.newest (linked Next (Some q)) n1 n2
      → Changes (get_or l.streams.items (stream x) no_ends).newest (linked NextOfStream (Some q)) n2 n3
      → after.nodes ≡ n3 → after.ends ≡ ends_with q l.ends
      → after.streams.items ≡ set l.streams.items (stream x) (ends_with q (get_or l.streams.items (stream x) no_ends))
      → IsLinked stream after (es ++ (q, x) ∷ [])
  linked_push l es q x n1 n2 n3 after node h vacant within made put more first second nodes ends streams = record {
    apart = apart_push es (q, x) h.apart free;
    each = each_now;
    whole = ends ∙ ap (ends_with q) h.whole ∙ sym (ends-push es (q, x));
    streams = λ s. ap (λ t. get_or t s no_ends) streams ∙ streams_pushed l.streams.items es q x within h.streams s;
    count = let sum = length-append es ((q, x) ∷ []) in let old = h.count in let a = first.len in let b = second.len in
        let c = ap (slab_len {T = Node X}) nodes in omega (arith, sum, old, a, b, c, more);
  }
    where
      free : IsFree q es
      free = free_vacant stream l es q h vacant

      newest : l.ends.newest ≡ last_from None es
      newest = ap (λ (p : Ends). p.newest) h.whole

      newest_of : (get_or l.streams.items (stream x) no_ends).newest ≡ last_from None (of_stream stream (stream x) es)
      newest_of = ap (λ (p : Ends). p.newest) (h.streams (stream x))

      at_now : (k : ℕ) → get after.nodes k ≡ changed (get_or l.streams.items (stream x) no_ends).newest (linked NextOfStream (Some q)) k
          (changed l.ends.newest (linked Next (Some q)) k (get n1 k))
      at_now k = ap (λ n. get n k) nodes ∙ second.nodes k
          ∙ ap (changed (get_or l.streams.items (stream x) no_ends).newest (linked NextOfStream (Some q)) k) (first.nodes k)

      each_now : (c : List (ℕ × X)) (e : ℕ × X) (d : List (ℕ × X)) → es ++ (q, x) ∷ [] ≡ c ++ e ∷ d → get after.nodes e.0 ≡ Some (node_between stream c e.1 d)
      each_now c e d split = elim (split-append es ((q, x) ∷ []) c d e split) [ inl p ↦ among p.0 p.1 p.2 | inr p ↦ last p.0 p.1 p.2 ]
        where
          among : (m : List (ℕ × X)) → es ≡ c ++ e ∷ m → d ≡ m ++ (q, x) ∷ [] → get after.nodes e.0 ≡ Some (node_between stream c e.1 d)
          among m is rest =
              let apart = subst AreApart is h.apart in
              let there = subst (IsFree q) is free in
              let differs : e.0 ≢ q = (free-right q c (e ∷ m) there).0 in
              at_now e.0
              ∙ ap (λ o. changed (get_or l.streams.items (stream x) no_ends).newest (linked NextOfStream (Some q)) e.0
              (changed l.ends.newest (linked Next (Some q)) e.0 o)) (put.others e.0 differs ∙ h.each c e m is)
              ∙ each_pushed c e m q x l.ends.newest (get_or l.streams.items (stream x) no_ends).newest (newest ∙ ap (last_from None) is)
              (newest_of ∙ ap (λ t. last_from None (of_stream stream (stream x) t)) is) (apart_before c e m apart) (apart_after c e m apart)
              ∙ ap (λ t. Some (node_between stream c e.1 t)) (sym rest)

          last : (m : List (ℕ × X)) → c ≡ es ++ m → (q, x) ∷ [] ≡ m ++ e ∷ d → get after.nodes e.0 ≡ Some (node_between stream c e.1 d)
          last (y ∷ m) is rest = let none : ◌≡◌ {A = List (ℕ × X)} [] (m ++ e ∷ d) = cc in absurd (never m none)
            where
              never : (m : List (ℕ × X)) → [] ≡ m ++ e ∷ d → ⊥
              never [] h = cc
              never (z ∷ m) h = cc
          last [] is rest =
              let own : (q, x) ≡ e = cc in
              let done : ◌≡◌ {A = List (ℕ × X)} [] d = cc in
              let whole : c ≡ es = is ∙ append-nil es in
              subst (λ (f : ℕ × X). get after.nodes f.0 ≡ Some (node_between stream c f.1 d)) own
              (at_now q
              ∙ ap (λ o. changed (get_or l.streams.items (stream x) no_ends).newest (linked NextOfStream (Some q)) q
              (changed l.ends.newest (linked Next (Some q)) q o)) put.changed
              ∙ ap (changed (get_or l.streams.items (stream x) no_ends).newest (linked NextOfStream (Some q)) q)
              (changed_other l.ends.newest (linked Next (Some q)) q (Some node) (λ k. none_last q es free (sym newest ∙ k)))
              ∙ changed_other (get_or l.streams.items (stream x) no_ends).newest (linked NextOfStream (Some q)) q (Some node)
              (λ k. none_last q (of_stream stream (stream x) es) (free-filter q (λ (y : ℕ × X). stream y.1 == stream x) es free) (sym newest_of ∙ k))
              ∙ ap Some (made ∙ ap (λ p. record { item = x; previous = p; next = None; next_of_stream = None }) newest)
              ∙ ap (λ t. Some (node_between stream t x [])) (sym whole) ∙ ap (λ t. Some (node_between stream c x t)) done)

  -- What a push leaves.
  pub linked_more : (l : Links X) (es : List (ℕ × X)) (q v : ℕ) (x : X) (n1 n2 n3 : Slab (Node X)) (after : Links X) (s : ℕ) (own own2 ends : Ends)
      → IsLinked stream l es → get l.nodes q ≡ None → stream x < length l.streams.items → s ≡ stream x
      → own ≡ get_or l.streams.items s own → own2 ≡ get_or l.streams.items s own2
      → Updates l.nodes n1 q (Some (record { item = x; previous = l.ends.newest; next = None; next_of_stream = None }))
      → slab_len n1 ≡ slab_len l.nodes + 1
      → Changes l.ends.newest (linked Next (Some q)) n1 n2 → Changes own.newest (linked NextOfStream (Some q)) n2 n3
      → after.nodes ≡ n3 → after.ends ≡ ends_with q l.ends → ends ≡ ends_with q own2 → after.streams.items ≡ set l.streams.items s ends → q ≡ v
      → IsLinked stream after (es ++ (v, x) ∷ [])
  linked_more l es q v x n1 n2 n3 after s own own2 ends h vacant within is read read2 put more first second nodes whole made streams same =
      subst (λ k. IsLinked stream after (es ++ (k, x) ∷ [])) same
      (linked_push l es q x n1 n2 n3 after _ h vacant within refl put more first
      (subst (λ (o : Ends). Changes o.newest (linked NextOfStream (Some q)) n2 n3) (at own read) second) nodes whole
      (streams ∙ ap (λ k. set l.streams.items k ends) is ∙ ap (λ o. set l.streams.items (stream x) o) (made ∙ ap (ends_with q) (at own2 read2))))
    where
      at : (o : Ends) → o ≡ get_or l.streams.items s o → o ≡ get_or l.streams.items (stream x) no_ends
      at o e = get_or_read l.streams.items s o (omega (arith, within, is)) e no_ends ∙ ap (λ k. get_or l.streams.items k no_ends) is
