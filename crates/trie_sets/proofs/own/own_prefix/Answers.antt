use Rattle.std.proofs.Common.{rules}
use Rattle.std.proofs.Common.{◌∙◌, sym, subst}
use Rattle.trie_model.specs.Nets.{IsNet}
use Rattle.trie_model.proofs.Places.{place_is}
use Rattle.trie_sets.proofs.own.own_prefix.Goals as goal

pub prefix_at-requires : goal.prefix_at-requires
prefix_at-requires g c =
    let law = (g.met.V.TrieView c.lifetimes (search rules)).laws c.args.view.now c.requires in
    subst (IsNet g.V.P.Number.KeyBits.width) (sym
    (place_is (g.V.TrieView.told c.args.view.now).place (g.V.P.Number.KeyBits.number c.key-key.result) c.prefix_len-len.result c.key-key.ensures
    c.prefix_len-len.ensures)) law.place_ok

pub returns-clause-net : goal.returns-clause-net
returns-clause-net g c = c.prefix_at.ensures.net ∙
    place_is (g.V.TrieView.told c.args.view.now).place (g.V.P.Number.KeyBits.number c.key-key.result) c.prefix_len-len.result c.key-key.ensures
    c.prefix_len-len.ensures

pub returns-clause-plain : goal.returns-clause-plain
returns-clause-plain g c = c.prefix_at.ensures.plain ∙ c.key-key.ensures
