-- A list whose items lead to each other: made, given room, pushed to and taken from.
use Rattle.std.proofs.Common.{◌≡◌, ◌==◌, ◌||◌, ◌+◌, ◌<◌, ◌≤◌, ℕ, zero, suc, Bool, false, not, List, [], ◌∷◌, ◌++◌, map, length, get_or, Option, Some, None}
use Rattle.std.proofs.Common.{IfNone, OnOk, Result, Ok, Err, is_some, count_by, refl, sym, ap, subst, ◌∙◌, arith, length-append}
use Rattle.std.specs.List.{filter, list_any}
use Rattle.std.proofs.lemmas.List.{get_or_past, length-map, map-append}
use Rattle.slab.specs.Slab.{Slab, get, slab_len}
use Rattle.stream_list.specs.declared.ends.Ends.{Ends}
use Rattle.stream_list.specs.declared.links.Links.{Links}
use Rattle.stream_list.specs.declared.node.Node.{Node}
use Rattle.stream_list.specs.Listed.{HasNone, Listed, TakesOldest, has_of}
use Rattle.stream_list.specs.Places.{first_from, no_ends, of_stream}
use Rattle.stream_list.specs.Linked.{IsLinked, IsOldestAt, TakesOut, entries_of, has_entry_of, walk}
use Rattle.stream_list.proofs.Splits.{any_left, any_right, filter_dropped, filter_kept, first_filtered, none_filtered, same_is, same_number}
use Rattle.stream_list.proofs.Chains.{walk_is}

module _ {X : Type 0} where
  -- What callers see of linked items.
  abbrev pub listed_of : Links X → Listed X
  listed_of l = record { items = map (λ (e : ℕ × X). e.1) (entries_of l); room = record { items = l.nodes.capacity; streams = length l.streams.items } }

  walk_none : (at : ℕ → Option (Node X)) (n : ℕ) → walk at n None ≡ []
  walk_none at zero = refl
  walk_none at (suc n) = refl

  empty_split : (a b : List (ℕ × X)) (e : ℕ × X) → [] ≡ a ++ e ∷ b → ⊥
  empty_split [] b e h = cc
  empty_split (x ∷ a) b e h = cc

  -- The first of a list, by its place.
  pub first_at : (es : List (ℕ × X)) (place : ℕ) → first_from es None ≡ Some place → (x : X) × (later : List (ℕ × X)) × (es ≡ (place, x) ∷ later)
  first_at [] place h = absurd (cc)
  first_at (e ∷ es) place h = let same : e.0 ≡ place = cc in (e.1, es, ap (λ k. (k, e.1) ∷ es) same)

  no_first : (es : List (ℕ × X)) → first_from es None ≡ None → es ≡ []
  no_first [] h = refl
  no_first (e ∷ es) h = absurd (cc)

  any_map : (p : X → Bool) (a : List (ℕ × X)) → list_any p (map (λ (e : ℕ × X). e.1) a) ≡ list_any (λ (e : ℕ × X). p e.1) a
  any_map p [] = refl
  any_map p (e ∷ a) = ap (λ b. p e.1 || b) (any_map p a)

-- What follows of an Ok.
pub on_ok : {A E : Type 0} {P Q : Type 0} (r : Result A E) → (P → Q) → OnOk r P → OnOk r Q
on_ok (Ok x) f p = f p
on_ok (Err e) f p = tt

module _ {X : Type 0} (stream : X → ℕ) where
  -- Linked items are those that are walked over.
  pub closed : (l : Links X) (es : List (ℕ × X)) → IsLinked stream l es → IsLinked stream l (entries_of l)
  closed l es h = subst (IsLinked stream l) (sym (walk_is stream l es h)) h

  -- ---- made, and given room

  pub linked_fresh : (l : Links X) → l.nodes.slots ≡ [] → l.ends ≡ no_ends → l.streams.items ≡ [] → IsLinked stream l (entries_of l)
  linked_fresh l slots ends streams = closed l [] (record {
    apart = tt;
    each = λ a e b h. absurd (empty_split a b e h);
    whole = ends;
    streams = λ s. ap (λ t. get_or t s no_ends) streams ∙ get_or_past [] s no_ends (omega arith);
    count = ap (count_by is_some) slots;
  })

  pub linked_roomier : (l : Links X) (n : Slab (Node X)) (k : ℕ) → n ≡ record l.nodes { capacity = k } → IsLinked stream l (entries_of l)
      → IsLinked stream (record l { nodes = n }) (entries_of (record l { nodes = n }))
  linked_roomier l n k kept h =
      subst (λ (m : Slab (Node X)). IsLinked stream (record l { nodes = m }) (entries_of (record l { nodes = m }))) (sym kept)
      (record { apart = h.apart; each = h.each; whole = h.whole; streams = h.streams; count = h.count })

  pub listed_roomier : (l : Links X) (v : Listed X) (n : Slab (Node X)) → listed_of l ≡ v → n ≡ record l.nodes { capacity = n.capacity }
      → listed_of (record l { nodes = n }) ≡ record v { room = record v.room { items = n.capacity } }
  listed_roomier l v n view kept =
      ap (λ (m : Slab (Node X)). record {
        items = map (λ (e : ℕ × X). e.1) (entries_of (record l { nodes = m }));
        room = record { items = n.capacity; streams = length l.streams.items };
      }) kept
      ∙ ap (λ (w : Listed X). record w { room = record w.room { items = n.capacity } }) view

  pub room_left : (l : Links X) (n : Slab (Node X)) (more : ℕ) → n ≡ record l.nodes { capacity = n.capacity } → IsLinked stream l (entries_of l)
      → slab_len n + more ≤ n.capacity → length (map (λ (e : ℕ × X). e.1) (entries_of (record l { nodes = n }))) + more ≤ n.capacity
  room_left l n more kept h room =
      let all = length-map (entries_of (record l { nodes = n })) (λ (e : ℕ × X). e.1) in
      let count = (linked_roomier l n n.capacity kept h).count in
      omega (arith, all, count, room)

  pub linked_streams : (l after : Links X) → after.nodes ≡ l.nodes → after.ends ≡ l.ends
      → ((s : ℕ) → get_or after.streams.items s no_ends ≡ get_or l.streams.items s no_ends)
      → IsLinked stream l (entries_of l) → IsLinked stream after (entries_of after)
  linked_streams l after nodes ends same h = closed after (entries_of l) (record {
    apart = h.apart;
    each = λ a e b split. ap (λ n. get n e.0) nodes ∙ h.each a e b split;
    whole = ends ∙ h.whole;
    streams = λ s. same s ∙ h.streams s;
    count = ap (slab_len {T = Node X}) nodes ∙ h.count;
  })

  -- ---- pushed to

  pub listed_more : (l after : Links X) (v : Listed X) (q : ℕ) (x : X) → listed_of l ≡ v → IsLinked stream after (entries_of l ++ (q, x) ∷ [])
      → after.nodes.capacity ≡ l.nodes.capacity → length after.streams.items ≡ length l.streams.items
      → listed_of after ≡ record v { items = v.items ++ x ∷ [] }
  listed_more l after v q x view h capacity streams =
      ap (λ es. record { items = map (λ (e : ℕ × X). e.1) es; room = record { items = after.nodes.capacity; streams = length after.streams.items } })
      (walk_is stream after (entries_of l ++ (q, x) ∷ []) h)
      ∙ ap (λ xs. record { items = xs; room = record { items = after.nodes.capacity; streams = length after.streams.items } })
      (map-append (λ (e : ℕ × X). e.1) (entries_of l) ((q, x) ∷ []))
      ∙ ap (λ n. record { items = map (λ (e : ℕ × X). e.1) (entries_of l) ++ x ∷ []; room = record { items = n; streams = length after.streams.items } }) capacity
      ∙ ap (λ n. record { items = map (λ (e : ℕ × X). e.1) (entries_of l) ++ x ∷ []; room = record { items = l.nodes.capacity; streams = n } }) streams
      ∙ ap (λ (w : Listed X). record w { items = w.items ++ x ∷ [] }) view

  -- There is a place for one more.
  pub place_left : (l : Links X) (v : Listed X) → listed_of l ≡ v → IsLinked stream l (entries_of l) → length v.items + 1 ≤ v.room.items
      → slab_len l.nodes + 1 ≤ l.nodes.capacity
  place_left l v view h room =
      let items = ap (λ (w : Listed X). length w.items) view in
      let all = length-map (entries_of l) (λ (e : ℕ × X). e.1) in
      let capacity = ap (λ (w : Listed X). w.room.items) view in
      omega (arith, items, all, h.count, capacity, room)

  -- ---- taken from

  -- The oldest of all.
  abbrev pub oldest_of_all : (l : Links X) (place : ℕ) → IsLinked stream l (entries_of l) → l.ends.oldest ≡ Some place → IsOldestAt stream l place
  oldest_of_all l place h is =
      let at = first_at (entries_of l) place (sym (ap (λ (e : Ends). e.oldest) h.whole) ∙ is) in
      record { earlier = []; item = at.0; later = at.1; linked = subst (IsLinked stream l) at.2 h; first = refl }

  -- The oldest of a stream.
  pub record IsOldestOf (l : Links X) (place s : ℕ) : Type 0 where
    pub oldest : IsOldestAt stream l place
    pub own : stream oldest.item ≡ s

  oldest_is : (l : Links X) (s : ℕ) → IsLinked stream l (entries_of l) → (ends : Ends) (items : List Ends) → ends ≡ get_or items s no_ends
      → items ≡ l.streams.items → ends.oldest ≡ first_from (of_stream stream s (entries_of l)) None
  oldest_is l s h ends items at same =
      ap (λ (e : Ends). e.oldest) at ∙ ap (λ xs. (get_or xs s no_ends).oldest) same ∙ ap (λ (e : Ends). e.oldest) (h.streams s)

  pub oldest_of_stream : (l : Links X) (place s : ℕ) → IsLinked stream l (entries_of l) → (ends : Ends) (items : List Ends) → ends ≡ get_or items s no_ends
      → items ≡ l.streams.items → ends.oldest ≡ Some place → IsOldestOf l place s
  oldest_of_stream l place s h ends items at_ends same_items is =
      let at = first_at (of_stream stream s (entries_of l)) place (sym (oldest_is l s h ends items at_ends same_items) ∙ is) in
      let found = first_filtered (λ (e : ℕ × X). stream e.1 == s) (entries_of l) (place, at.0) at.1 at.2 in
      let own : stream at.0 ≡ s = same_number (stream at.0) s found.passes in
      record {
        oldest = record {
          earlier = found.earlier;
          item = at.0;
          later = found.later;
          linked = subst (IsLinked stream l) found.split h;
          first = ap (λ k. has_entry_of stream k found.earlier) own ∙ found.none;
        };
        own = own;
      }

  module _ (l after : Links X) (v : Listed X) (place : ℕ) (x : X) (view : listed_of l ≡ v) (o : IsOldestAt stream l place)
      (taken : TakesOut stream l place x after) (capacity : after.nodes.capacity ≡ l.nodes.capacity)
      (streams : length after.streams.items ≡ length l.streams.items) where
    left : (x ≡ o.item) × IsLinked stream after (o.earlier ++ o.later)
    left = taken o.earlier o.item o.later o.linked o.first

    -- What is left is linked.
    pub linked_left : IsLinked stream after (entries_of after)
    linked_left = closed after (o.earlier ++ o.later) left.1

    items_were : v.items ≡ map (λ (e : ℕ × X). e.1) o.earlier ++ x ∷ map (λ (e : ℕ × X). e.1) o.later
    items_were =
        ap (λ (w : Listed X). w.items) (sym view)
        ∙ ap (map (λ (e : ℕ × X). e.1)) (walk_is stream l (o.earlier ++ (place, o.item) ∷ o.later) o.linked)
        ∙ map-append (λ (e : ℕ × X). e.1) o.earlier ((place, o.item) ∷ o.later)
        ∙ ap (λ y. map (λ (e : ℕ × X). e.1) o.earlier ++ y ∷ map (λ (e : ℕ × X). e.1) o.later) (sym left.0)

    now_is : listed_of after ≡ record v { items = map (λ (e : ℕ × X). e.1) o.earlier ++ map (λ (e : ℕ × X). e.1) o.later }
    now_is =
        ap (λ es. record { items = map (λ (e : ℕ × X). e.1) es; room = record { items = after.nodes.capacity; streams = length after.streams.items } })
        (walk_is stream after (o.earlier ++ o.later) left.1)
        ∙ ap (λ xs. record { items = xs; room = record { items = after.nodes.capacity; streams = length after.streams.items } })
        (map-append (λ (e : ℕ × X). e.1) o.earlier o.later)
        ∙ ap (λ n. record { items = map (λ (e : ℕ × X). e.1) o.earlier ++ map (λ (e : ℕ × X). e.1) o.later; room = record { items = n; streams = length after.streams.items } }) capacity
        ∙ ap (λ n. record { items = map (λ (e : ℕ × X). e.1) o.earlier ++ map (λ (e : ℕ × X). e.1) o.later; room = record { items = l.nodes.capacity; streams = n } }) streams
        ∙ ap (λ (w : Listed X). record w { items = map (λ (e : ℕ × X). e.1) o.earlier ++ map (λ (e : ℕ × X). e.1) o.later }) view

    -- What was there, where the oldest of all is taken out.
    pub was_first : o.earlier ≡ [] → v ≡ record (listed_of after) { items = x ∷ map (λ (e : ℕ × X). e.1) (entries_of after) }
    was_first none =
        let before : List X = map (λ (e : ℕ × X). e.1) o.earlier in
        let front : before ≡ [] = ap (map (λ (e : ℕ × X). e.1)) none in
        let items : v.items ≡ x ∷ map (λ (e : ℕ × X). e.1) o.later = items_were ∙ ap (λ a. a ++ x ∷ map (λ (e : ℕ × X). e.1) o.later) front in
        let now : listed_of after ≡ record v { items = map (λ (e : ℕ × X). e.1) o.later } = now_is
        ∙ ap (λ a. record v { items = a ++ map (λ (e : ℕ × X). e.1) o.later }) front in
        ap (λ xs. record v { items = xs }) items ∙ sym (ap (λ (w : Listed X). record w { items = x ∷ w.items }) now)

    -- Where the oldest of a stream is.
    pub took_oldest : (s : ℕ) → stream o.item ≡ s → TakesOldest stream s v x (listed_of after)
    took_oldest s own = record {
      earlier = map (λ (e : ℕ × X). e.1) o.earlier;
      later = map (λ (e : ℕ × X). e.1) o.later;
      among = items_were;
      own = ap stream left.0 ∙ own;
      others = any_map (λ y. stream y == s) o.earlier ∙ ap (λ k. has_entry_of stream k o.earlier) (sym own) ∙ o.first;
      stays = now_is;
    }

  -- None of a stream is there.
  pub has_none : (l : Links X) (v : Listed X) (s : ℕ) → listed_of l ≡ v → IsLinked stream l (entries_of l) → (ends : Ends) (items : List Ends)
      → ends ≡ get_or items s no_ends → items ≡ l.streams.items → ends.oldest ≡ None → (r : Option X) → r ≡ None → IfNone r (HasNone stream s v v)
  has_none l v s view h ends items at same is r none = subst (λ o. IfNone o (HasNone stream s v v)) (sym none) (
      let empty = no_first (of_stream stream s (entries_of l)) (sym (oldest_is l s h ends items at same) ∙ is) in
      record {
        none = ap (λ (w : Listed X). has_of stream s w.items) (sym view) ∙ any_map (λ y. stream y == s) (entries_of l)
            ∙ none_filtered (λ (e : ℕ × X). stream e.1 == s) (entries_of l) empty;
        same = refl;
      })

  -- ---- a stream that is cleared

  -- The items that are kept stay the same where one that isn't is taken out.
  pub kept_less : (s : ℕ) (v now first : Listed X) (x : X) → TakesOldest stream s v x now → v ≡ record first { items = v.items }
      → filter (λ y. not (stream y == s)) v.items ≡ filter (λ y. not (stream y == s)) first.items
      → (now ≡ record first { items = now.items }) × (filter (λ y. not (stream y == s)) now.items ≡ filter (λ y. not (stream y == s)) first.items)
  kept_less s v now first x t same rest = (
    t.stays ∙ ap (λ (w : Listed X). record w { items = t.earlier ++ t.later }) same
        ∙ ap (λ (w : Listed X). record first { items = w.items }) (sym t.stays),
    ap (λ (w : Listed X). filter (λ y. not (stream y == s)) w.items) t.stays
        ∙ sym (filter_dropped (λ y. not (stream y == s)) t.earlier t.later x dropped)
        ∙ ap (filter (λ y. not (stream y == s))) (sym t.among) ∙ rest,
  )
    where
      dropped : not (stream x == s) ≡ false
      dropped = ap not (ap (λ k. k == s) t.own ∙ same_is s)

  pub fewer_left : (s : ℕ) (v now : Listed X) (x : X) → TakesOldest stream s v x now → length now.items < length v.items
  fewer_left s v now x t =
      let all = ap length t.among in
      let sum = length-append t.earlier (x ∷ t.later) in
      let e = ap (λ (w : Listed X). length w.items) t.stays in
      let rest = length-append t.earlier t.later in
      omega (arith, all, sum, e, rest)

  -- Where none of a stream is left, all are kept.
  pub all_kept : (s : ℕ) (v now first : Listed X) → HasNone stream s v now → v ≡ record first { items = v.items }
      → filter (λ y. not (stream y == s)) v.items ≡ filter (λ y. not (stream y == s)) first.items
      → now ≡ record first { items = filter (λ y. not (stream y == s)) first.items }
  all_kept s v now first n same rest =
      n.same ∙ same ∙ ap (λ xs. record first { items = xs }) (sym (kept_all v.items n.none) ∙ rest)
    where
      kept_all : (xs : List X) → has_of stream s xs ≡ false → filter (λ y. not (stream y == s)) xs ≡ xs
      kept_all [] h = refl
      kept_all (x ∷ xs) h =
          let here = any_left (stream x == s) (has_of stream s xs) h in
          filter_kept (λ y. not (stream y == s)) xs x (ap not here) ∙ ap (λ t. x ∷ t) (kept_all xs (any_right (stream x == s) (has_of stream s xs) h))
