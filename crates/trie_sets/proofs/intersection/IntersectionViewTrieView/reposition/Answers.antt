use Rattle.std.proofs.Common.{◌∙◌, sym, subst, refl}
use Rattle.trie_model.specs.Views.{CanMove}
use Rattle.view_model.proofs.IntersectionLaws.{intersection_moved}
use Rattle.trie_sets.proofs.intersection.IntersectionViewTrieView.reposition.Goals as goal

pub reposition-requires-2 : goal.reposition-requires-2
reposition-requires-2 g c κs = (
  (refl, tt),
  (
    c.requires.usable.1,
    subst (λ p. CanMove g.L.P.Number.KeyBits.width p (record {
      bits = g.L.P.Number.KeyBits.number c.args.key;
      len =
          c.args.prefix_len;
    })) (sym c.requires.usable.2) c.requires.place,
  ),
)

pub returns-clause-usable : goal.returns-clause-usable
returns-clause-usable g c = (
  c.reposition.ensures.usable,
  c.reposition-2.ensures.usable,
  c.reposition-2.ensures.moved.place ∙
      sym c.reposition.ensures.moved.place,
)

pub returns-clause-moved : goal.returns-clause-moved
returns-clause-moved g c = intersection_moved g.L.P.Number.KeyBits.width _ _ _ _ _ c.reposition.ensures.moved c.reposition-2.ensures.moved
