use Rattle.std.proofs.Common.{rules, arith, refl, sym, ap, subst, ◌≡◌, ◌∙◌, inl, true, length}
use Rattle.std.specs.Prelude.{vec_capacity}
use Rattle.trie_model.specs.Nets.{covers}
use Rattle.trie_model.specs.Walks.{rest}
use Rattle.trie_model.proofs.Places.{elim-false, place_is}
use Rattle.trie_model.proofs.SlotLaws.{less_or}
use Rattle.trie_model.proofs.WalkLaws.{either}
use Rattle.trie_model.proofs.WalkSteps.{one_pushed, walk_empty, walk_one}
use Rattle.trie_model.proofs.RoomLaws.{room_none, room_one, frugal_none, frugal_one}
use Rattle.trie_model.proofs.RestLaws.{rest_view, rest_ahead, rest_start}
use Rattle.trie_model.proofs.StartLaws.{all_behind, none_behind, ok_map}
use Rattle.trie_map.proofs.walk.enter.Goals as goal

pub key-place-requires : goal.key-place-requires
key-place-requires g c κs = ((refl, tt), c.requires.usable)

pub prefix_len-requires : goal.prefix_len-requires
prefix_len-requires g c κs = ((refl, tt), c.requires.usable)

pub lies_in-requires-clause-len : goal.lies_in-requires-clause-len
lies_in-requires-clause-len g c = let e = c.prefix_len.ensures in let le = ((g.met.V.TrieView c.lifetimes (search rules)).laws _ c.requires.usable).place_ok.len_fits in omega (arith, e, le)

pub descend-requires : goal.descend-requires
descend-requires g c κs = (
  (refl, tt),
  (
    c.requires.usable,
    (
      c.requires.net,
      (
        (subst (λ q. covers g.V.P.Number.KeyBits.width q (record { bits = g.V.P.Number.KeyBits.number c.args.key; len = c.args.len })
            ≡ true) (place_is (g.V.TrieView.told c.args.view).place _ _ c.key-place.ensures c.prefix_len.ensures) (c.lies_in.ensures.0 c.if-lies_in.true)),
        (
          (walk_empty (λ k. g.V.TrieView.valid k.view) (λ k. rest g.V.P.Number.KeyBits.width (g.V.TrieView.told k.view) k.spot) (λ k. k.spot)
              g.V.P.Number.KeyBits.width c.args.levels.now.items c.requires.empty).0,
          (
            (λ n m x y a b. absurd ((walk_empty (λ k. g.V.TrieView.valid k.view) (λ k. rest g.V.P.Number.KeyBits.width (g.V.TrieView.told k.view) k.spot)
                (λ k. k.spot) g.V.P.Number.KeyBits.width c.args.levels.now.items c.requires.empty).1 m y b)),
            (
              room_none g.V.P.Number.KeyBits.width (λ k. g.V.TrieView.told k.view) c.args.levels.now.items (vec_capacity c.args.levels.now) c.requires.room
                  c.requires.empty,
              (let z = ap length c.requires.empty in omega (arith, z)),
            ),
          ),
        ),
      ),
    ),
  ),
)

pub returns-then-lies_in-clause-left : goal.returns-then-lies_in-clause-left
returns-then-lies_in-clause-left g c = ok_map c.descend.result
    (λ h n x. (
      (λ a. either (λ k. k) (λ k. absurd
          ((walk_empty (λ k. g.V.TrieView.valid k.view) (λ k. rest g.V.P.Number.KeyBits.width (g.V.TrieView.told k.view) k.spot) (λ k. k.spot)
          g.V.P.Number.KeyBits.width c.args.levels.now.items c.requires.empty).1 n x k)) ((h n x).0 a)),
      (λ a. (h n x).1 (inl a)),
    )) c.descend.ensures.left

pub returns-then-lies_in-clause-stays : goal.returns-then-lies_in-clause-stays
returns-then-lies_in-clause-stays g c = λ f. c.descend.ensures.stays (frugal_none (λ k. g.V.TrieView.told k.view) c.args.levels.now.items c.requires.empty) f

pub returns-then-not-is_at_most-clause-usable : goal.returns-then-not-is_at_most-clause-usable
returns-then-not-is_at_most-clause-usable g c = (walk_empty (λ k. g.V.TrieView.valid k.view)
    (λ k. rest g.V.P.Number.KeyBits.width (g.V.TrieView.told k.view) k.spot) (λ k. k.spot) g.V.P.Number.KeyBits.width c.args.levels.now.items
    c.requires.empty).0

pub returns-then-not-is_at_most-clause-room : goal.returns-then-not-is_at_most-clause-room
returns-then-not-is_at_most-clause-room g c = room_none g.V.P.Number.KeyBits.width (λ k. g.V.TrieView.told k.view) c.args.levels.now.items (vec_capacity c.args.levels.now) c.requires.room c.requires.empty

pub returns-then-not-is_at_most-clause-left : goal.returns-then-not-is_at_most-clause-left
returns-then-not-is_at_most-clause-left g c n
    x = (
      (λ h. absurd ((walk_empty (λ k. g.V.TrieView.valid k.view) (λ k. rest g.V.P.Number.KeyBits.width (g.V.TrieView.told k.view) k.spot)
          (λ k. k.spot) g.V.P.Number.KeyBits.width c.args.levels.now.items c.requires.empty).1 n x h)),
      (λ h. absurd (none_behind g.V.P.Number.KeyBits.width c.args.inclusive (g.V.TrieView.told c.args.view)
          (record { bits = g.V.P.Number.KeyBits.number c.args.key; len = c.args.len })
          ((g.met.V.TrieView c.lifetimes (search rules)).laws _ c.requires.usable) c.requires.net
          (λ h. elim-false (sym c.if-lies_in.false ∙ c.lies_in.ensures.1
          (subst (λ q. covers g.V.P.Number.KeyBits.width q (record { bits = g.V.P.Number.KeyBits.number c.args.key; len = c.args.len }) ≡ true)
          (sym (place_is (g.V.TrieView.told c.args.view).place _ _ c.key-place.ensures c.prefix_len.ensures)) h)))
          (either (λ lt. let e = c.key-place.ensures in omega (arith, e, lt))
          (λ le. absurd (elim-false (sym c.if-not-is_at_most.true ∙ c.is_at_most.ensures.1 le)))
          (less_or (g.V.P.Number.KeyBits.number c.key-place.result) (g.V.P.Number.KeyBits.number c.args.key))) n x h.0 h.1)),
    )

pub returns-then-not-is_at_most-clause-stays : goal.returns-then-not-is_at_most-clause-stays
returns-then-not-is_at_most-clause-stays g c = λ f. frugal_none (λ k. g.V.TrieView.told k.view) c.args.levels.now.items c.requires.empty

pub push_level-requires : goal.push_level-requires
push_level-requires g c = let z = ap length c.requires.empty in let r = c.requires.room in omega (arith, z, r)

pub returns-clause-usable : goal.returns-clause-usable
returns-clause-usable g c = (walk_one (λ k. g.V.TrieView.valid k.view) (λ k. rest g.V.P.Number.KeyBits.width (g.V.TrieView.told k.view) k.spot)
    (λ k. k.spot) g.V.P.Number.KeyBits.width _ _ (one_pushed _ _ _ c.push_level.ensures.items c.requires.empty)
    (record {
      usable = c.requires.usable;
      view = rest_view g.V.P.Number.KeyBits.width (g.V.TrieView.told c.args.view) 1 (omega arith)
          ((g.met.V.TrieView c.lifetimes (search rules)).laws _ c.requires.usable);
      first = omega arith;
      last = omega arith;
      ahead = rest_ahead
          g.V.P.Number.KeyBits.width (g.V.TrieView.told c.args.view) 1;
    })).0

pub returns-clause-room : goal.returns-clause-room
returns-clause-room g c = room_one g.V.P.Number.KeyBits.width (λ k. g.V.TrieView.told k.view) _ _ _ (let a = c.push_level.ensures.capacity in
    let r = c.requires.room in omega (arith, a, r)) (one_pushed _ _ _ c.push_level.ensures.items c.requires.empty)

pub returns-clause-left : goal.returns-clause-left
returns-clause-left g c n x =
    let one = (walk_one (λ k. g.V.TrieView.valid k.view) (λ k. rest g.V.P.Number.KeyBits.width (g.V.TrieView.told k.view) k.spot) (λ k. k.spot)
    g.V.P.Number.KeyBits.width _ _ (one_pushed _ _ _ c.push_level.ensures.items c.requires.empty)
    (record {
      usable = c.requires.usable;
      view = rest_view g.V.P.Number.KeyBits.width (g.V.TrieView.told c.args.view) 1 (omega arith)
          ((g.met.V.TrieView c.lifetimes (search rules)).laws _ c.requires.usable);
      first = omega arith;
      last = omega arith;
      ahead = rest_ahead
          g.V.P.Number.KeyBits.width (g.V.TrieView.told c.args.view) 1;
    })).1 n x in
    let all = rest_start g.V.P.Number.KeyBits.width (g.V.TrieView.told c.args.view) n x in
    let le = c.is_at_most.ensures.0 c.if-not-is_at_most.false in
    let e = c.key-place.ensures in (
      (λ h. let a = all.0 (one.0 h) in (
        a,
        all_behind g.V.P.Number.KeyBits.width c.args.inclusive (g.V.TrieView.told c.args.view)
            (record { bits = g.V.P.Number.KeyBits.number c.args.key; len = c.args.len })
            ((g.met.V.TrieView c.lifetimes (search rules)).laws _ c.requires.usable) c.requires.net
            (λ h. elim-false (sym c.if-lies_in.false ∙ c.lies_in.ensures.1
            (subst (λ q. covers g.V.P.Number.KeyBits.width q (record { bits = g.V.P.Number.KeyBits.number c.args.key; len = c.args.len }) ≡ true)
            (sym (place_is (g.V.TrieView.told c.args.view).place _ _ c.key-place.ensures c.prefix_len.ensures)) h))) (omega (arith, le, e)) n x a,
      )),
      (λ h. one.1 (all.1 h.0)),
    )

pub returns-clause-stays : goal.returns-clause-stays
returns-clause-stays g c = λ f. frugal_one (λ k. g.V.TrieView.told k.view) _ _ (one_pushed _ _ _ c.push_level.ensures.items c.requires.empty) f
