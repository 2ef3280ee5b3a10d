use Rattle.std.proofs.Common.{◌≡◌, ap, arith, map, subst, sym}
use Rattle.std.specs.List.{All}
use Rattle.std.proofs.lemmas.List.Elements.{All-push}
use Rattle.trie_model.specs.Walks.{rest}
use Rattle.trie_model.proofs.GatherLaws.{Gathered, gathered_none, gathered_push, gathered_all}
use Rattle.trie_map.specs.Walking.{ToCome}
use Rattle.trie_map.proofs.laws.walk_gives_the_list.Goals as goal

pub pairs-init : goal.pairs-init
pairs-init g c =
    let at = (g.V.TrieView.told c.args.view).at in
    let to_come = ToCome g.V.TrieView.told g.V.P.Number.KeyBits.width c.in_ok-walk.walk in
    let none = gathered_none g.V.P.Number.KeyBits.width at to_come c.in_ok-walk.ensures.whole in
    let empty = ap (map (λ p. (g.V.P.PlainPrefix.net p.0, g.V.TrieView.item p.1))) c.new-pairs.ensures.items in (
      c.in_ok-walk.ensures.usable,
      subst (Gathered g.V.P.Number.KeyBits.width at to_come) (sym empty) none,
      subst (All (λ p. g.V.P.PlainPrefix.raw p.0 ≡ (g.V.P.PlainPrefix.net p.0).bits)) (sym c.new-pairs.ensures.items) (λ k d lt. absurd (let no : ⊥ = omega (arith, lt) in no)),
    )

pub pairs-preserved : goal.pairs-preserved
pairs-preserved g c =
    let given = rw c.in_ok-pair.was at c.in-Some.ensures.given in (
      c.in-Some.ensures.usable,
      gathered_push (λ l. g.V.TrieView.valid l.view) (λ l. rest g.V.P.Number.KeyBits.width (g.V.TrieView.told l.view) l.spot) (λ l. l.spot)
          g.V.P.Number.KeyBits.width (g.V.TrieView.told c.args.view).at (λ p. (g.V.P.PlainPrefix.net p.0, g.V.TrieView.item p.1))
          c.pairs.walk.levels.items c.next.new.self.levels.items c.pairs.pairs.items c.push.new.self.items c.in_ok-pair.field-0
          c.pairs.invariant.0.levels c.pairs.invariant.1 given.0 c.in_ok-push.ensures.items,
      subst (All (λ p. g.V.P.PlainPrefix.raw p.0 ≡ (g.V.P.PlainPrefix.net p.0).bits)) (sym c.in_ok-push.ensures.items)
          (All-push (λ p. g.V.P.PlainPrefix.raw p.0 ≡ (g.V.P.PlainPrefix.net p.0).bits) c.pairs.pairs.items c.in_ok-pair.field-0 c.pairs.invariant.2 given.1),
    )

pub returns-clause-list : goal.returns-clause-list
returns-clause-list g c =
    let to_come = ToCome g.V.TrieView.told g.V.P.Number.KeyBits.width c.pairs.walk in
    gathered_all g.V.P.Number.KeyBits.width (g.V.TrieView.told c.args.view).at to_come _ c.pairs.invariant.1 c.in_default.ensures.given

pub returns-clause-masked : goal.returns-clause-masked
returns-clause-masked g c = c.pairs.invariant.2
