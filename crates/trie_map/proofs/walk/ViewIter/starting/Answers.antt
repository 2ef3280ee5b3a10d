use Rattle.std.proofs.Common.{refl, sym, ap, subst, arith, ◌≡◌, ◌/◌}
use Rattle.std.specs.Prelude.{◌↔◌}
use Rattle.trie_model.proofs.Places.{place_is}
use Rattle.trie_model.specs.Nets.{IsNet}
use Rattle.trie_model.specs.Walks.{From, Left, rest}
use Rattle.trie_map.proofs.walk.ViewIter.starting.Goals as goal

pub enter-requires : goal.enter-requires
enter-requires g c κs = let e : (record { bits = g.V.P.Number.KeyBits.number c.number-key.result; len = c.length-len.result }) ≡ g.V.P.PlainPrefix.net
    c.args.prefix.now = place_is (g.V.P.PlainPrefix.net c.args.prefix.now) (g.V.P.Number.KeyBits.number c.number-key.result) c.length-len.result
    c.number-key.ensures.bits c.length-len.ensures in (
      (refl, tt),
      (
        c.requires.usable,
        (
          subst (IsNet g.V.P.Number.KeyBits.width) (sym e) c.number-key.ensures.prefix,
          (c.in_ok-levels.ensures.items, (let k = c.in_ok-levels.ensures.capacity in let b = ap (λ x. x / 5) c.bits.ensures in omega (arith, k, b))),
        ),
      ),
    )

pub returns-clause-usable : goal.returns-clause-usable
returns-clause-usable g c = record { levels = c.in_ok-enter.ensures.usable; room = c.in_ok-enter.ensures.room }

pub returns-clause-frugal : goal.returns-clause-frugal
returns-clause-frugal g c = λ f. c.in_ok-enter.ensures.stays f

pub returns-clause-rest : goal.returns-clause-rest
returns-clause-rest g c n x = let e : (record { bits = g.V.P.Number.KeyBits.number c.number-key.result; len = c.length-len.result })
    ≡ g.V.P.PlainPrefix.net c.args.prefix.now = place_is (g.V.P.PlainPrefix.net c.args.prefix.now) (g.V.P.Number.KeyBits.number c.number-key.result)
    c.length-len.result c.number-key.ensures.bits c.length-len.ensures in
    subst (λ z. Left (λ k. rest g.V.P.Number.KeyBits.width (g.V.TrieView.told k.view) k.spot) c.enter.new.levels.items n x
    ↔ ((g.V.TrieView.told c.args.view).at n x × From g.V.P.Number.KeyBits.width c.args.inclusive z n)) e (c.in_ok-enter.ensures.left n x)
