use Rattle.trie_adapters.specs.Filtered.{AcceptsPair}
use Rattle.trie_adapters.proofs.FilterSteps.{filtered_child, took_filtered, if_ok_both, on_any_ok}
use Rattle.trie_adapters.proofs.filter.FilterViewTTrieView.get_child.Goals as goal

pub returns-clause-child : goal.returns-clause-child
returns-clause-child g c =
    if_ok_both c.filter_view.result (λ v usable filters. (
      usable,
      filtered_child g.V.TrieView.item (AcceptsPair g.V.P.PlainPrefix.net g.V.P.PlainPrefix.raw g.V.TrieView.item (goal.F-post g c.args.self.now.by))
          g.V.P.Number.KeyBits.width
          c.args.self.now.data_bitmap c.args.bit c.args.self.now.kept (g.V.TrieView.told c.args.self.now.view)
          (g.V.TrieView.told c.in_ok-child.child) _ (c.in_ok-child.ensures.child).1 filters,
    ))
    c.filter_view.ensures.usable c.filter_view.ensures.filters

pub returns-clause-rest : goal.returns-clause-rest
returns-clause-rest g c =
    on_any_ok c.filter_view.result
    (took_filtered g.V.TrieView.item (AcceptsPair g.V.P.PlainPrefix.net g.V.P.PlainPrefix.raw g.V.TrieView.item (goal.F-post g c.args.self.now.by))
    g.V.P.Number.KeyBits.width
    c.args.self.now.data_bitmap c.args.bit c.args.self.now.kept (g.V.TrieView.told c.args.self.now.view)
    (g.V.TrieView.told c.get_child.new.self) c.in_ok-child.ensures.rest)
