use Rattle.std.proofs.Common.{subst}
use Rattle.trie_json.specs.Reading.{ReadsSet, RefusesSet}
use Rattle.trie_json.proofs.BackLaws.{set_back, set_unrefused, if_ok, if_err}
use Rattle.trie_json.proofs.set.set_reads_back.Goals as goal

pub returns-clause-equal : goal.returns-clause-equal
returns-clause-equal g c =
    let w = g.P.Number.KeyBits.width in
    if_ok c.set_from_json.result (λ read h.
    set_back w g.P.Number.KeyBits.width_law c.args.set.now read c.in_ok-_walk.ensures.list.ascends c.has_nets.ensures
    (subst (λ d. ReadsSet w d read) c.in_ok-value.ensures h))
    c.set_from_json.ensures.read

pub returns-clause-refused : goal.returns-clause-refused
returns-clause-refused g c =
    let w = g.P.Number.KeyBits.width in
    if_err c.set_from_json.result (λ e h. set_unrefused w c.args.set.now e c.has_nets.ensures (subst (λ d. RefusesSet w d e) c.in_ok-value.ensures h))
    c.set_from_json.ensures.refused
