use Rattle.std.proofs.Common.{rules, refl, sym, ◌∙◌, ◌*◌, ◌%◌, ap}
use Rattle.trie_views.proofs.tests.adapters.mapped.Goals as goal

pub map-view-requires : goal.map-view-requires
map-view-requires g c κs = (
  (refl, tt),
  (
    search rules,
    (
      search rules,
      record { one = λ s t a b e p q. p ∙ ap (λ x. x * 10 % 4294967296) e ∙ sym q; some = λ t. (t * 10 % 4294967296, refl) },
    ),
  ),
)
