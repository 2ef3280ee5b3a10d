use Rattle.std.proofs.Common.{◌≡◌, ◌==◌, not, length}
use Rattle.std.specs.List.{filter}
use Rattle.stream_list.proofs.list.StreamList.clear_of.Given as goal

abbrev pub invariant-items : goal.invariant-items
invariant-items g l = record {
  same : l.self ≡ record l.initial.self { items = l.self.items };
  rest : filter (λ x. not (g.X.InStream.stream x == l.stream)) l.self.items
      ≡ filter (λ x. not (g.X.InStream.stream x == l.stream)) l.initial.self.items;
}

abbrev pub decreases-items : goal.decreases-items
decreases-items g l = length l.self.items
