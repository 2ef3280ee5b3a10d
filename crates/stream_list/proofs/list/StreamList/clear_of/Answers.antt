use Rattle.stream_list.proofs.Listed.{all_kept, fewer_left, kept_less}
use Rattle.stream_list.proofs.list.StreamList.clear_of.Goals as goal

pub items-preserved : goal.items-preserved
items-preserved g c =
    let k = kept_less g.X.InStream.stream c.args.stream c.items.self c.pop_front_of.new.self c.args.self.now c.in-Some._item c.in-Some.ensures.some
    c.items.invariant.same c.items.invariant.rest in
    record { same = k.0; rest = k.1 }

pub items-smaller : goal.items-smaller
items-smaller g c = fewer_left g.X.InStream.stream c.args.stream c.items.self c.pop_front_of.new.self c.in-Some._item c.in-Some.ensures.some

pub returns : goal.returns
returns g c =
    all_kept g.X.InStream.stream c.args.stream c.items.self c.pop_front_of.new.self c.args.self.now c.in_default.ensures.none
    c.items.invariant.same c.items.invariant.rest
