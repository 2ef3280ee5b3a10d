use Rattle.std.proofs.Common.{refl, rules}
use Rattle.std.specs.Prelude.{IsTrue}
use Rattle.trie_model.proofs.ListLaws.{if_ok_map}
use Rattle.trie_adapters.proofs.EqualLaws.{all_pass}
use Rattle.trie_adapters.proofs.equal.AnyEqualViews.eq_keys.Goals as goal

pub returns : goal.returns
returns g c =
    let left = g.met.V.TrieView c.lifetimes (search rules) in
    let right = g.met.R.TrieView c.lifetimes (search rules) in
    if_ok_map c.equal_by.result (λ same is. (
      (λ t. (is.0 t).0),
      (λ keys. is.1 (
        keys,
        (λ n x y h k. all_pass g.V.TrieView.item g.R.TrieView.item (λ s t b. IsTrue b) left.onto right.onto
            (λ s t. refl) x y),
      )),
    )) c.equal_by.ensures
