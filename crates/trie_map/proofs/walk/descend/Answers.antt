use Rattle.std.proofs.Common.{rules, arith, refl, sym, ap, subst, ◌∙◌, ◌+◌}
use Rattle.std.specs.Prelude.{◌↔◌, vec_capacity}
use Rattle.trie_model.specs.Nets.{Net}
use Rattle.trie_model.specs.Spots.{next_spot, data_bit_of, bits_toward}
use Rattle.trie_model.specs.Walks.{From, rest}
use Rattle.trie_model.proofs.Places.{elim-false}
use Rattle.trie_model.proofs.InsideLaws.{depth_low}
use Rattle.trie_model.proofs.RestLaws.{rest_view, rest_ahead}
use Rattle.trie_model.proofs.StartLaws.{from_bit, from_gap, low_depth, unset_clash, set_is}
use Rattle.trie_model.proofs.DownLaws.{down_end, down_next, down_space}
use Rattle.trie_map.proofs.walk.descend.Goals as goal

pub down-init : goal.down-init
down-init g c = record {
  usable = c.requires.usable;
  way = record {
    inside = c.requires.inside;
    stack = c.requires.stack;
    first = c.requires.first;
    room = c.requires.room;
    deep = c.requires.deep;
    left = λ n x. ((λ h. h), (λ h. h));
    frugal = λ f. f;
    stays = λ all f. all;
  };
}

pub depth-depth-requires : goal.depth-depth-requires
depth-depth-requires g c κs = ((refl, tt), c.down.invariant.usable)

pub overflow_sub-len : goal.overflow_sub-len
overflow_sub-len g c = (low_depth g.V.P.Number.KeyBits.width (g.V.TrieView.told c.down.view)
    (record { bits = g.V.P.Number.KeyBits.number c.args.key; len = c.args.len }) c.depth-depth.result c.depth-depth.ensures
    c.down.invariant.way.inside)

pub data_bit-requires-clause-low : goal.data_bit-requires-clause-low
data_bit-requires-clause-low g c = (low_depth g.V.P.Number.KeyBits.width (g.V.TrieView.told c.down.view)
    (record { bits = g.V.P.Number.KeyBits.number c.args.key; len = c.args.len }) c.depth-depth.result c.depth-depth.ensures
    c.down.invariant.way.inside)

pub data_bit-requires-clause-high : goal.data_bit-requires-clause-high
data_bit-requires-clause-high g c = (let low = (low_depth g.V.P.Number.KeyBits.width (g.V.TrieView.told c.down.view)
    (record { bits = g.V.P.Number.KeyBits.number c.args.key; len = c.args.len }) c.depth-depth.result c.depth-depth.ensures
    c.down.invariant.way.inside) in let lt = c.if-len-depth-lt5.true in omega (arith, low, lt))

pub push_level-requires : goal.push_level-requires
push_level-requires g c = down_space (λ k. g.V.TrieView.valid k.view) (λ k. rest g.V.P.Number.KeyBits.width (g.V.TrieView.told k.view) k.spot)
    (λ k. g.V.TrieView.told k.view) (λ k. k.spot) g.V.P.Number.KeyBits.width c.args.inclusive
    (record { bits = g.V.P.Number.KeyBits.number c.args.key; len = c.args.len }) (g.V.TrieView.told c.args.view) (g.V.TrieView.told c.down.view)
    c.args.levels.now.items c.down.levels.items (vec_capacity c.down.levels) c.down.invariant.way
    ((g.met.V.TrieView c.lifetimes (search rules)).laws _ c.down.invariant.usable)

pub returns-then-len-depth-lt5 : goal.returns-then-len-depth-lt5
returns-then-len-depth-lt5 g c =
    let end = down_end (λ k. g.V.TrieView.valid k.view) (λ k. rest g.V.P.Number.KeyBits.width (g.V.TrieView.told k.view) k.spot)
    (λ k. g.V.TrieView.told k.view) (λ k. k.spot) g.V.P.Number.KeyBits.width c.args.inclusive
    (record { bits = g.V.P.Number.KeyBits.number c.args.key; len = c.args.len }) (g.V.TrieView.told c.args.view) (g.V.TrieView.told c.down.view)
    c.args.levels.now.items c.down.levels.items c.push_level.new.levels.items _ (vec_capacity c.down.levels)
    (vec_capacity c.push_level.new.levels) c.down.invariant.way
    (record {
      is = c.push_level.ensures.items;
      grows = c.push_level.ensures.capacity;
      level = record {
        usable = c.down.invariant.usable;
        view = rest_view g.V.P.Number.KeyBits.width (g.V.TrieView.told c.down.view)
            c.first_spot-spot.result c.first_spot-spot.ensures.last ((g.met.V.TrieView c.lifetimes (search rules)).laws _ c.down.invariant.usable);
        first = c.first_spot-spot.ensures.first;
        last = c.first_spot-spot.ensures.last;
        ahead = rest_ahead g.V.P.Number.KeyBits.width
            (g.V.TrieView.told c.down.view) c.first_spot-spot.result;
      };
      view = ((g.met.V.TrieView c.lifetimes (search rules)).laws _ c.down.invariant.usable);
      place = refl;
      frugal = λ f. f;
      less = λ n x a. a.0;
    })
    (from_bit g.V.P.Number.KeyBits.width c.args.inclusive (g.V.TrieView.told c.down.view)
    (record { bits = g.V.P.Number.KeyBits.number c.args.key; len = c.args.len }) c.data_bit.result c.first_spot-spot.result
    ((g.met.V.TrieView c.lifetimes (search rules)).laws _ c.down.invariant.usable) c.requires.net c.down.invariant.way.inside
    (let low = (low_depth g.V.P.Number.KeyBits.width (g.V.TrieView.told c.down.view)
    (record { bits = g.V.P.Number.KeyBits.number c.args.key; len = c.args.len }) c.depth-depth.result c.depth-depth.ensures
    c.down.invariant.way.inside) in let d = c.depth-depth.ensures in let lt = c.if-len-depth-lt5.true in omega (arith, low, d, lt))
    (c.data_bit.ensures.bit ∙ ap (λ d. data_bit_of g.V.P.Number.KeyBits.width d (g.V.P.Number.KeyBits.number c.args.key) c.args.len)
    c.depth-depth.ensures) c.first_spot-spot.ensures.is) in
    record { usable = end.stack; room = end.room; left = end.left; frugal = search rules; stays = end.stays }

pub child_bit-bit-requires-clause-depth : goal.child_bit-bit-requires-clause-depth
child_bit-bit-requires-clause-depth g c = (let
    low = (low_depth g.V.P.Number.KeyBits.width (g.V.TrieView.told c.down.view)
    (record { bits = g.V.P.Number.KeyBits.number c.args.key; len = c.args.len }) c.depth-depth.result c.depth-depth.ensures
    c.down.invariant.way.inside) in let fits = c.requires.net.len_fits in omega (arith, low, fits))

pub child_bitmap-requires : goal.child_bitmap-requires
child_bitmap-requires g c κs = ((refl, tt), c.down.invariant.usable)

pub push_level-requires-then-child_bitmap-bit-eq0 : goal.push_level-requires-then-child_bitmap-bit-eq0
push_level-requires-then-child_bitmap-bit-eq0 g c = down_space (λ k. g.V.TrieView.valid k.view)
    (λ k. rest g.V.P.Number.KeyBits.width (g.V.TrieView.told k.view) k.spot) (λ k. g.V.TrieView.told k.view) (λ k. k.spot) g.V.P.Number.KeyBits.width
    c.args.inclusive (record { bits = g.V.P.Number.KeyBits.number c.args.key; len = c.args.len }) (g.V.TrieView.told c.args.view)
    (g.V.TrieView.told c.down.view) c.args.levels.now.items c.down.levels.items (vec_capacity c.down.levels) c.down.invariant.way
    ((g.met.V.TrieView c.lifetimes (search rules)).laws _ c.down.invariant.usable)

pub returns-then-child_bitmap-bit-eq0 : goal.returns-then-child_bitmap-bit-eq0
returns-then-child_bitmap-bit-eq0 g c =
    let end = down_end (λ k. g.V.TrieView.valid k.view) (λ k. rest g.V.P.Number.KeyBits.width (g.V.TrieView.told k.view) k.spot)
    (λ k. g.V.TrieView.told k.view) (λ k. k.spot) g.V.P.Number.KeyBits.width c.args.inclusive
    (record { bits = g.V.P.Number.KeyBits.number c.args.key; len = c.args.len }) (g.V.TrieView.told c.args.view) (g.V.TrieView.told c.down.view)
    c.args.levels.now.items c.down.levels.items c.push_level-then-child_bitmap-bit-eq0.new.levels.items _ (vec_capacity c.down.levels)
    (vec_capacity c.push_level-then-child_bitmap-bit-eq0.new.levels) c.down.invariant.way
    (record {
      is = c.push_level-then-child_bitmap-bit-eq0.ensures.items;
      grows = c.push_level-then-child_bitmap-bit-eq0.ensures.capacity;
      level = record {
        usable = c.down.invariant.usable;
        view = rest_view g.V.P.Number.KeyBits.width (g.V.TrieView.told c.down.view)
            c.next_spot-spot.result c.next_spot-spot.ensures.last ((g.met.V.TrieView c.lifetimes (search rules)).laws _ c.down.invariant.usable);
        first = c.next_spot-spot.ensures.first;
        last = c.next_spot-spot.ensures.last;
        ahead = rest_ahead g.V.P.Number.KeyBits.width
            (g.V.TrieView.told c.down.view) c.next_spot-spot.result;
      };
      view = ((g.met.V.TrieView c.lifetimes (search rules)).laws _ c.down.invariant.usable);
      place = refl;
      frugal = λ f. f;
      less = λ n x a. a.0;
    })
    (subst (λ s. (n : Net) (x : g.V.TrieView.Item) → (rest g.V.P.Number.KeyBits.width (g.V.TrieView.told c.down.view) s).at n x
    ↔ ((g.V.TrieView.told c.down.view).at n x × From g.V.P.Number.KeyBits.width c.args.inclusive
    (record { bits = g.V.P.Number.KeyBits.number c.args.key; len = c.args.len }) n)) (sym c.next_spot-spot.ensures.next)
    (from_gap g.V.P.Number.KeyBits.width c.args.inclusive (g.V.TrieView.told c.down.view)
    (record { bits = g.V.P.Number.KeyBits.number c.args.key; len = c.args.len }) c.child_bit-bit.result
    (record {
      ok = ((g.met.V.TrieView c.lifetimes (search rules)).laws _ c.down.invariant.usable);
      net_ok = c.requires.net;
      inside = c.down.invariant.way.inside;
      deep = (let
          low = (low_depth g.V.P.Number.KeyBits.width (g.V.TrieView.told c.down.view)
          (record { bits = g.V.P.Number.KeyBits.number c.args.key; len = c.args.len }) c.depth-depth.result c.depth-depth.ensures
          c.down.invariant.way.inside) in let d = c.depth-depth.ensures in let ge = c.if-len-depth-lt5.false in omega (arith, low, d, ge));
      toward = c.child_bit-bit.ensures.toward (let low = (low_depth g.V.P.Number.KeyBits.width (g.V.TrieView.told c.down.view)
          (record { bits = g.V.P.Number.KeyBits.number c.args.key; len = c.args.len }) c.depth-depth.result c.depth-depth.ensures
          c.down.invariant.way.inside) in let ge = c.if-len-depth-lt5.false in let fits = c.requires.net.len_fits in omega (arith, low, ge, fits)) ∙ ap
          (λ d. bits_toward g.V.P.Number.KeyBits.width d 5 (g.V.P.Number.KeyBits.number c.args.key)) c.depth-depth.ensures;
    })
    (λ s. unset_clash _ _ c.child_bit-bit.result c.child_bitmap.ensures c.if-child_bitmap-bit-eq0.true s))) in
    record { usable = end.stack; room = end.room; left = end.left; frugal = search rules; stays = end.stays }

pub get_child-requires : goal.get_child-requires
get_child-requires g c κs = ((refl, tt), (c.down.invariant.usable, (set_is _ _ c.child_bit-bit.result c.child_bitmap.ensures c.if-child_bitmap-bit-eq0.false)))

pub returns-in_err-child-clause-frugal : goal.returns-in_err-child-clause-frugal
returns-in_err-child-clause-frugal g c = λ f. absurd (elim-false (c.in_err-child.ensures.frugal (c.down.invariant.way.frugal f)))

pub push_level-requires-in-down : goal.push_level-requires-in-down
push_level-requires-in-down g c = down_space (λ k. g.V.TrieView.valid k.view) (λ k. rest g.V.P.Number.KeyBits.width (g.V.TrieView.told k.view) k.spot)
    (λ k. g.V.TrieView.told k.view) (λ k. k.spot) g.V.P.Number.KeyBits.width c.args.inclusive
    (record { bits = g.V.P.Number.KeyBits.number c.args.key; len = c.args.len }) (g.V.TrieView.told c.args.view) (g.V.TrieView.told c.down.view)
    c.args.levels.now.items c.down.levels.items (vec_capacity c.down.levels) c.down.invariant.way
    ((g.met.V.TrieView c.lifetimes (search rules)).laws _ c.down.invariant.usable)

pub down-smaller : goal.down-smaller
down-smaller g c = let e = ap (λ n. n.len) c.in_ok-child.ensures.child.1.place in let low = depth_low (g.V.TrieView.told c.down.view).place.len in
    let d = c.depth-depth.ensures in let ge = c.if-len-depth-lt5.false in omega (arith, e, low, d, ge)

pub down-preserved : goal.down-preserved
down-preserved g c = record {
  usable = c.in_ok-child.ensures.child.0;
  way = down_next (λ k. g.V.TrieView.valid k.view)
      (λ k. rest g.V.P.Number.KeyBits.width (g.V.TrieView.told k.view) k.spot) (λ k. g.V.TrieView.told k.view) (λ k. k.spot) g.V.P.Number.KeyBits.width
      c.args.inclusive (record { bits = g.V.P.Number.KeyBits.number c.args.key; len = c.args.len }) (g.V.TrieView.told c.args.view)
      (g.V.TrieView.told c.down.view) (g.V.TrieView.told c.get_child.new.self) (g.V.TrieView.told c.in_ok-child.child) c.args.levels.now.items
      c.down.levels.items c.push_level-in-down.new.levels.items _ c.child_bit-bit.result (vec_capacity c.down.levels)
      (vec_capacity c.push_level-in-down.new.levels) c.down.invariant.way
      (record {
        is = c.push_level-in-down.ensures.items;
        grows = c.push_level-in-down.ensures.capacity;
        level = record {
          usable = c.in_ok-child.ensures.usable;
          view = rest_view g.V.P.Number.KeyBits.width (g.V.TrieView.told c.get_child.new.self)
              c.next_spot-spot.result c.next_spot-spot.ensures.last ((g.met.V.TrieView c.lifetimes (search rules)).laws _ c.in_ok-child.ensures.usable);
          first = c.next_spot-spot.ensures.first;
          last = c.next_spot-spot.ensures.last;
          ahead = rest_ahead g.V.P.Number.KeyBits.width
              (g.V.TrieView.told c.get_child.new.self) c.next_spot-spot.result;
        };
        view = ((g.met.V.TrieView c.lifetimes (search rules)).laws _ c.in_ok-child.ensures.usable);
        place = c.in_ok-child.ensures.rest.place;
        frugal = c.in_ok-child.ensures.rest.frugal;
        less = λ n x a. ((c.in_ok-child.ensures.rest.at n x).0 a.0).0;
      })
      (record {
        ok = ((g.met.V.TrieView c.lifetimes (search rules)).laws _ c.down.invariant.usable);
        net_ok = c.requires.net;
        inside = c.down.invariant.way.inside;
        deep = (let
            low = (low_depth g.V.P.Number.KeyBits.width (g.V.TrieView.told c.down.view)
            (record { bits = g.V.P.Number.KeyBits.number c.args.key; len = c.args.len }) c.depth-depth.result c.depth-depth.ensures
            c.down.invariant.way.inside) in let d = c.depth-depth.ensures in let ge = c.if-len-depth-lt5.false in omega (arith, low, d, ge));
        toward = c.child_bit-bit.ensures.toward (let low = (low_depth g.V.P.Number.KeyBits.width (g.V.TrieView.told c.down.view)
            (record { bits = g.V.P.Number.KeyBits.number c.args.key; len = c.args.len }) c.depth-depth.result c.depth-depth.ensures
            c.down.invariant.way.inside) in let ge = c.if-len-depth-lt5.false in let fits = c.requires.net.len_fits in omega (arith, low, ge, fits)) ∙ ap
            (λ d. bits_toward g.V.P.Number.KeyBits.width d 5 (g.V.P.Number.KeyBits.number c.args.key)) c.depth-depth.ensures;
      })
      (set_is _ _ c.child_bit-bit.result c.child_bitmap.ensures c.if-child_bitmap-bit-eq0.false) c.in_ok-child.ensures.rest
      c.in_ok-child.ensures.child.1 (λ n x. subst (λ s. (rest g.V.P.Number.KeyBits.width (g.V.TrieView.told c.get_child.new.self) s).at n x
      ↔ (rest g.V.P.Number.KeyBits.width (g.V.TrieView.told c.get_child.new.self) (next_spot (32 + c.child_bit-bit.result))).at n x)
      (sym c.next_spot-spot.ensures.next) ((λ h. h), (λ h. h)));
}
