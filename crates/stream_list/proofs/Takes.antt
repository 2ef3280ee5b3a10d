-- Items that lead to each other, once one is taken out.
use Rattle.std.proofs.Common.{◌≡◌, ◌≢◌, ◌==◌, ◌+◌, ◌<◌, ◌≤◌, inl, inr, ℕ, true, false, List, [], ◌∷◌, ◌++◌, length, get_or, set, Option}
use Rattle.std.proofs.Common.{Some, None, refl, sym, ap, subst, ◌∙◌, arith, append_assoc, length-append}
use Rattle.std.proofs.lemmas.List.{get_or-set_other, get_or-set_same, get_or_past, get_or_read}
use Rattle.slab.specs.Slab.{Slab, Updates, get, slab_len}
use Rattle.stream_list.specs.declared.ends.Ends.{Ends}
use Rattle.stream_list.specs.declared.links.Links.{Links}
use Rattle.stream_list.specs.declared.node.Link.TheVariants.{Next, NextOfStream, Previous}
use Rattle.stream_list.specs.declared.node.Node.{Node}
use Rattle.stream_list.specs.Places.{AreApart, IsFree, ends_of, ends_without, first_from, last_from, no_ends, of_stream}
use Rattle.stream_list.specs.Linked.{Changes, IsLinked, IsOldestAt, TakesOut, changed, has_entry_of, linked, node_between}
use Rattle.stream_list.proofs.Splits.{filter_none, none_at, same_is, same_number, split-append, swapped}
use Rattle.stream_list.proofs.Places.{apart-without, apart_after, apart_before, ends-without, first_free, free-left, free-right, last-append, last_free}
use Rattle.stream_list.proofs.Places.{none_last}
use Rattle.stream_list.proofs.Chains.{changed_at, changed_other, of-append, of_dropped, of_kept}

module _ {X : Type 0} (stream : X → ℕ) where
  -- ---- one item less

  each_before : (c : List (ℕ × X)) (e : ℕ × X) (m : List (ℕ × X)) (place : ℕ) (x : X) (b : List (ℕ × X)) (previous next : Option ℕ)
      → previous ≡ last_from None (c ++ e ∷ m) → next ≡ first_from b None → IsFree e.0 m → IsFree e.0 b → (stream x == stream e.1) ≡ false
      → changed next (linked Previous previous) e.0 (changed previous (linked Next next) e.0 (Some (node_between stream c e.1 (m ++ (place, x) ∷ b))))
      ≡ Some (node_between stream c e.1 (m ++ b))
  each_before c e m place x b previous next before after fm fb other =
      ap (changed next (linked Previous previous) e.0) (inner m before fm)
      ∙ changed_other next (linked Previous previous) e.0 _ (λ h. first_free e.0 b fb (sym after ∙ h))
    where
      inner : (m : List (ℕ × X)) → previous ≡ last_from None (c ++ e ∷ m) → IsFree e.0 m
          → changed previous (linked Next next) e.0 (Some (node_between stream c e.1 (m ++ (place, x) ∷ b))) ≡ Some (node_between stream c e.1 (m ++ b))
      inner [] before f =
          changed_at previous (linked Next next) e.0 _ (before ∙ last-append None c (e ∷ []))
          ∙ ap (λ t. Some (linked Next t (node_between stream c e.1 ((place, x) ∷ b)))) after
          ∙ ap (λ t. Some (linked Next (first_from b None) (linked NextOfStream (first_from t None) (node_between stream c e.1 ((place, x) ∷ b)))))
          (of_dropped stream (stream e.1) [] (place, x) b other)
      inner (y ∷ m) before f =
          changed_other previous (linked Next next) e.0 _
          (λ h. last_free e.0 (Some y.0) m (λ k. let same : y.0 ≡ e.0 = cc in f.0 same) f.1 (sym (before ∙ last-append None c (e ∷ y ∷ m)) ∙ h))
          ∙ ap (λ t. Some (linked NextOfStream (first_from t None) (node_between stream c e.1 ((y ∷ m) ++ (place, x) ∷ b))))
          (of_dropped stream (stream e.1) (y ∷ m) (place, x) b other)

  each_after : (a m : List (ℕ × X)) (e : ℕ × X) (d : List (ℕ × X)) (place : ℕ) (x : X) (previous next : Option ℕ)
      → previous ≡ last_from None a → next ≡ first_from (m ++ e ∷ d) None → IsFree e.0 a → IsFree e.0 m
      → changed next (linked Previous previous) e.0 (changed previous (linked Next next) e.0 (Some (node_between stream (a ++ (place, x) ∷ m) e.1 d)))
      ≡ Some (node_between stream (a ++ m) e.1 d)
  each_after a m e d place x previous next before after fa fm =
      ap (changed next (linked Previous previous) e.0)
      (changed_other previous (linked Next next) e.0 _ (λ h. none_last e.0 a fa (sym before ∙ h)))
      ∙ outer m after fm
    where
      outer : (m : List (ℕ × X)) → next ≡ first_from (m ++ e ∷ d) None → IsFree e.0 m
          → changed next (linked Previous previous) e.0 (Some (node_between stream (a ++ (place, x) ∷ m) e.1 d)) ≡ Some (node_between stream (a ++ m) e.1 d)
      outer [] after f =
          changed_at next (linked Previous previous) e.0 _ after
          ∙ ap (λ t. Some (linked Previous t (node_between stream a e.1 d))) (before ∙ sym (last-append None a []))
      outer (y ∷ m) after f =
          changed_other next (linked Previous previous) e.0 _ (λ h. let same : Some y.0 ≡ Some e.0 = sym after ∙ h in let at : y.0 ≡ e.0 = cc in f.0 at)
          ∙ ap (λ t. Some (linked Previous t (node_between stream a e.1 d))) (last-append None a ((place, x) ∷ y ∷ m) ∙ sym (last-append None a (y ∷ m)))

  streams_without : (streams : List Ends) (a : List (ℕ × X)) (place : ℕ) (x : X) (b : List (ℕ × X)) → stream x < length streams
      → has_entry_of stream (stream x) a ≡ false
      → ((s : ℕ) → get_or streams s no_ends ≡ ends_of (of_stream stream s (a ++ (place, x) ∷ b)))
      → (s : ℕ) → get_or (set streams (stream x) (ends_without None (first_from (of_stream stream (stream x) b) None)
      (get_or streams (stream x) no_ends))) s no_ends ≡ ends_of (of_stream stream s (a ++ b))
  streams_without streams a place x b within none each s =
      elim (stream x == s) as (λ c. (stream x == s) ≡ c → get_or (set streams (stream x) (ends_without None
      (first_from (of_stream stream (stream x) b) None) (get_or streams (stream x) no_ends))) s no_ends ≡ ends_of (of_stream stream s (a ++ b))) [
        | true ↦ λ same.
            let is : stream x ≡ s = same_number (stream x) s same in
            ap (λ k. get_or (set streams (stream x) (ends_without None (first_from (of_stream stream (stream x) b) None)
            (get_or streams (stream x) no_ends))) k no_ends) (sym is)
            ∙ get_or-set_same streams (stream x) _ no_ends within
            ∙ ap (ends_without None (first_from (of_stream stream (stream x) b) None)) (each (stream x) ∙ ap ends_of own)
            ∙ sym (ends-without [] (place, x) (of_stream stream (stream x) b))
            ∙ ap ends_of (sym rest) ∙ ap (λ k. ends_of (of_stream stream k (a ++ b))) is
        | false ↦ λ other.
            get_or-set_other streams (stream x) s _ no_ends (λ is. let yes : (stream x == s) ≡ true = ap (λ k. stream x == k) is ∙ same_is (stream x) in cc)
            ∙ each s ∙ ap ends_of (of_dropped stream s a (place, x) b other)
      ] refl
    where
      empty : of_stream stream (stream x) a ≡ []
      empty = filter_none (λ (e : ℕ × X). stream e.1 == stream x) a none

      rest : of_stream stream (stream x) (a ++ b) ≡ of_stream stream (stream x) b
      rest = of-append stream (stream x) a b ∙ ap (λ t. t ++ of_stream stream (stream x) b) empty

      own : of_stream stream (stream x) (a ++ (place, x) ∷ b) ≡ (place, x) ∷ of_stream stream (stream x) b
      own = of-append stream (stream x) a ((place, x) ∷ b) ∙ ap (λ t. t ++ of_stream stream (stream x) ((place, x) ∷ b)) empty
          ∙ of_kept stream (stream x) (place, x) b (same_is (stream x))

  -- The stream of an item is one of those with ends.
  pub stream_within : (l : Links X) (a : List (ℕ × X)) (place : ℕ) (x : X) (b : List (ℕ × X)) → IsLinked stream l (a ++ (place, x) ∷ b)
      → length l.streams.items ≤ stream x → ⊥
  stream_within l a place x b h past =
      let none : ◌≡◌ {A = Ends} (ends_of (of_stream stream (stream x) (a ++ (place, x) ∷ b))) no_ends =
      sym (h.streams (stream x)) ∙ get_or_past l.streams.items (stream x) no_ends past in
      let kept : of_stream stream (stream x) (a ++ (place, x) ∷ b) ≡ of_stream stream (stream x) a ++ (place, x) ∷ of_stream stream (stream x) b =
      of-append stream (stream x) a ((place, x) ∷ b) ∙ ap (λ t. of_stream stream (stream x) a ++ t) (of_kept stream (stream x) (place, x) b (same_is (stream x))) in
      never (of_stream stream (stream x) a) (ap (λ t. first_from t None) (sym kept) ∙ ap (λ (p : Ends). p.oldest) none)
    where
      never : (g : List (ℕ × X)) → first_from (g ++ (place, x) ∷ of_stream stream (stream x) b) None ≡ None → ⊥
      never [] h = cc
      never (y ∷ g) h = cc

  -- What one item less leaves, which is the oldest of its stream.
  pub linked_without : (l : Links X) (a : List (ℕ × X)) (place : ℕ) (x : X) (b : List (ℕ × X)) (node : Node X) (n1 n2 n3 : Slab (Node X)) (after : Links X)
      → IsLinked stream l (a ++ (place, x) ∷ b) → has_entry_of stream (stream x) a ≡ false
      → get l.nodes place ≡ Some node → Updates l.nodes n1 place None → slab_len n1 + 1 ≡ slab_len l.nodes
      → Changes node.previous (linked Next node.next) n1 n2
      → Changes node.next (linked Previous node.previous) n2 n3
      → after.nodes ≡ n3 → after.ends ≡ ends_without node.previous node.next l.ends
      → after.streams.items ≡ set l.streams.items (stream node.item) (ends_without None node.next_of_stream (get_or l.streams.items (stream node.item) no_ends))
      → (node.item ≡ x) × IsLinked stream after (a ++ b)
  linked_without l a place x b node n1 n2 n3 after h none was gone less first second nodes ends streams = (
    item,
    record {
      apart = apart-without a (place, x) b h.apart;
      each = each_now;
      whole = ends ∙ ap (ends_without node.previous node.next) h.whole
          ∙ ap (λ p. ends_without p node.next (ends_of (a ++ (place, x) ∷ b))) previous
          ∙ ap (λ p. ends_without (last_from None a) p (ends_of (a ++ (place, x) ∷ b))) next
          ∙ sym (ends-without a (place, x) b);
      streams = λ s. ap (λ t. get_or t s no_ends) (streams ∙ ap (λ y. set l.streams.items (stream y) (ends_without None node.next_of_stream
          (get_or l.streams.items (stream y) no_ends))) item ∙ ap (λ p. set l.streams.items (stream x) (ends_without None p
          (get_or l.streams.items (stream x) no_ends))) next_of_stream)
          ∙ streams_without l.streams.items a place x b within none h.streams s;
      count = let one = length-append a b in let all = length-append a ((place, x) ∷ b) in let old = h.count in let p = first.len in let q = second.len in
          let c = ap (slab_len {T = Node X}) nodes in omega (arith, one, all, old, p, q, c, less);
    },
  )
    where
      is : node ≡ node_between stream a x b
      is = let there : Some node ≡ Some (node_between stream a x b) = sym was ∙ h.each a (place, x) b refl in cc

      item : node.item ≡ x
      item = ap (λ (n : Node X). n.item) is

      previous : node.previous ≡ last_from None a
      previous = ap (λ (n : Node X). n.previous) is

      next : node.next ≡ first_from b None
      next = ap (λ (n : Node X). n.next) is

      next_of_stream : node.next_of_stream ≡ first_from (of_stream stream (stream x) b) None
      next_of_stream = ap (λ (n : Node X). n.next_of_stream) is

      within : stream x < length l.streams.items
      within = below (stream x) (length l.streams.items) (stream_within l a place x b h)
        where
          below : (s n : ℕ) → (n ≤ s → ⊥) → s < n
          below s n h = grind arith

      at_now : (k : ℕ) → get after.nodes k ≡ changed node.next (linked Previous node.previous) k (changed node.previous (linked Next node.next) k (get n1 k))
      at_now k = ap (λ n. get n k) nodes ∙ second.nodes k ∙ ap (changed node.next (linked Previous node.previous) k) (first.nodes k)

      each_now : (c : List (ℕ × X)) (e : ℕ × X) (d : List (ℕ × X)) → a ++ b ≡ c ++ e ∷ d → get after.nodes e.0 ≡ Some (node_between stream c e.1 d)
      each_now c e d split = elim (split-append a b c d e split) [ inl p ↦ early p.0 p.1 p.2 | inr p ↦ late p.0 p.1 p.2 ]
        where
          early : (m : List (ℕ × X)) → a ≡ c ++ e ∷ m → d ≡ m ++ b → get after.nodes e.0 ≡ Some (node_between stream c e.1 d)
          early m at rest =
              let whole : a ++ (place, x) ∷ b ≡ c ++ e ∷ (m ++ (place, x) ∷ b) = ap (λ t. t ++ (place, x) ∷ b) at ∙ append_assoc c (e ∷ m) ((place, x) ∷ b) in
              let behind = apart_after c e (m ++ (place, x) ∷ b) (subst AreApart whole h.apart) in
              let mine = subst (IsFree place) at (apart_before a (place, x) b h.apart) in
              let differs : e.0 ≢ place = (free-right place c (e ∷ m) mine).0 in
              let other : (stream e.1 == stream x) ≡ false = none_at (λ (y : ℕ × X). stream y.1 == stream x) c m e (ap (has_entry_of stream (stream x)) (sym at) ∙ none) in
              at_now e.0
              ∙ ap (λ o. changed node.next (linked Previous node.previous) e.0 (changed node.previous (linked Next node.next) e.0 o))
              (gone.others e.0 differs ∙ h.each c e (m ++ (place, x) ∷ b) whole)
              ∙ each_before c e m place x b node.previous node.next (previous ∙ ap (last_from None) at) next
              (free-left e.0 m ((place, x) ∷ b) behind) (free-right e.0 m ((place, x) ∷ b) behind).1 (swapped (stream e.1) (stream x) other)
              ∙ ap (λ t. Some (node_between stream c e.1 t)) (sym rest)

          late : (m : List (ℕ × X)) → c ≡ a ++ m → b ≡ m ++ e ∷ d → get after.nodes e.0 ≡ Some (node_between stream c e.1 d)
          late m rest at =
              let whole : a ++ (place, x) ∷ b ≡ (a ++ (place, x) ∷ m) ++ e ∷ d = ap (λ t. a ++ (place, x) ∷ t) at ∙ sym (append_assoc a ((place, x) ∷ m) (e ∷ d)) in
              let ahead = apart_before (a ++ (place, x) ∷ m) e d (subst AreApart whole h.apart) in
              let mine = subst (IsFree place) at (apart_after a (place, x) b h.apart) in
              let differs : e.0 ≢ place = (free-right place m (e ∷ d) mine).0 in
              at_now e.0
              ∙ ap (λ o. changed node.next (linked Previous node.previous) e.0 (changed node.previous (linked Next node.next) e.0 o))
              (gone.others e.0 differs ∙ h.each (a ++ (place, x) ∷ m) e d whole)
              ∙ each_after a m e d place x node.previous node.next previous (next ∙ ap (λ t. first_from t None) at)
              (free-left e.0 a ((place, x) ∷ m) ahead) (free-right e.0 a ((place, x) ∷ m) ahead).1
              ∙ ap (λ t. Some (node_between stream t e.1 d)) (sym rest)

  -- The stream of what is taken out has ends.
  pub stream_in_range : (l : Links X) (place : ℕ) (node : Node X) (s : ℕ) → IsOldestAt stream l place → get l.nodes place ≡ Some node
      → s ≡ stream node.item → s < length l.streams.items
  stream_in_range l place node s o was is =
      let there : Some node ≡ Some (node_between stream o.earlier o.item o.later) = sym was ∙ o.linked.each o.earlier (place, o.item) o.later refl in
      let node_is : node ≡ node_between stream o.earlier o.item o.later = cc in
      let number = is ∙ ap (λ (n : Node X). stream n.item) node_is in
      below s (length l.streams.items) (λ past. stream_within l o.earlier place o.item o.later o.linked (subst (λ k. length l.streams.items ≤ k) number past))
    where
      below : (s n : ℕ) → (n ≤ s → ⊥) → s < n
      below s n h = grind arith

  -- What is left when an item is taken out.
  pub linked_less : (l : Links X) (place : ℕ) (node : Node X) (n1 n2 n3 : Slab (Node X)) (after : Links X) (s : ℕ) (own ends : Ends)
      → get l.nodes place ≡ Some node → Updates l.nodes n1 place None → slab_len n1 + 1 ≡ slab_len l.nodes
      → Changes node.previous (linked Next node.next) n1 n2 → Changes node.next (linked Previous node.previous) n2 n3
      → after.nodes ≡ n3 → after.ends ≡ ends_without node.previous node.next l.ends
      → s ≡ stream node.item → s < length l.streams.items → own ≡ get_or l.streams.items s own → ends ≡ ends_without None node.next_of_stream own
      → after.streams.items ≡ set l.streams.items s ends
      → TakesOut stream l place node.item after
  linked_less l place node n1 n2 n3 after s own ends was gone less first second nodes whole is within read made streams = λ earlier item later h none.
      linked_without l earlier place item later node n1 n2 n3 after h none was gone less first second nodes whole
      (streams ∙ ap (λ k. set l.streams.items k ends) is ∙ ap (λ o. set l.streams.items (stream node.item) o)
      (made ∙ ap (ends_without None node.next_of_stream) (get_or_read l.streams.items s own within read no_ends ∙ ap (λ k. get_or l.streams.items k no_ends) is)))
