use Rattle.std.proofs.Common.{rules}
use Rattle.std.proofs.Common.{◌∙◌, ℕ, sym, subst}
use Rattle.trie_model.specs.Nets.{Net}
use Rattle.trie_model.proofs.Places.{elim-false}
use Rattle.view_model.specs.Find.{FindsPart}
use Rattle.view_model.specs.LongestMatch.{net_of}
use Rattle.view_model.proofs.MadeLaws.{entry_longer, entry_missing, part_has, part_place}
use Rattle.trie_sets.proofs.own.find_entry.Goals as goal

pub returns-in-None-clause-found : goal.returns-in-None-clause-found
returns-in-None-clause-found g c =
    let w : ℕ = g.V.P.Number.KeyBits.width in
    let net : Net = net_of (g.V.P.Number.KeyBits.number c.args.key) c.args.len in
    let t = g.V.TrieView.told c.args.view in
    let finds = FindsPart g.V.TrieView.valid g.V.TrieView.told w net t in
    entry_missing w net t c.requires.net (subst finds c.in-None.is c.in_ok-part.ensures.found)

pub returns-then-prefix_len-len-clause-found : goal.returns-then-prefix_len-len-clause-found
returns-then-prefix_len-len-clause-found g c =
    let w : ℕ = g.V.P.Number.KeyBits.width in
    let net : Net = net_of (g.V.P.Number.KeyBits.number c.args.key) c.args.len in
    let t = g.V.TrieView.told c.args.view in
    let finds = FindsPart g.V.TrieView.valid g.V.TrieView.told w net t in
    let part = subst finds c.in-Some.is c.in_ok-part.ensures.found in
    let u = g.V.TrieView.told c.in-Some.inside in
    let law = (g.met.V.TrieView c.lifetimes (search rules)).laws c.in-Some.inside part.0 in
    entry_longer w net t u c.requires.net ((g.met.V.TrieView c.lifetimes (search rules)).laws c.args.view c.requires.usable) law
    (λ e. c.if-prefix_len-len.true (c.prefix_len.ensures ∙ e)) part.1

pub returns-then-not-has_own-clause-found : goal.returns-then-not-has_own-clause-found
returns-then-not-has_own-clause-found g c = λ h.
    let w : ℕ = g.V.P.Number.KeyBits.width in
    let net : Net = net_of (g.V.P.Number.KeyBits.number c.args.key) c.args.len in
    let t = g.V.TrieView.told c.args.view in
    let finds = FindsPart g.V.TrieView.valid g.V.TrieView.told w net t in
    let part = subst finds c.in-Some.is c.in_ok-part.ensures.found in
    let u = g.V.TrieView.told c.in-Some.inside in
    let law = (g.met.V.TrieView c.lifetimes (search rules)).laws c.in-Some.inside part.0 in
    let here = part_place w net t u law (sym c.prefix_len.ensures ∙ c.if-prefix_len-len.false) part.1 in
    elim-false (sym c.if-not-has_own.true ∙ c.has_own.ensures.1 ((part_has w net t u c.requires.net here part.1).1 h))

pub returns-else-not-has_own-clause-found : goal.returns-else-not-has_own-clause-found
returns-else-not-has_own-clause-found g c =
    let w : ℕ = g.V.P.Number.KeyBits.width in
    let net : Net = net_of (g.V.P.Number.KeyBits.number c.args.key) c.args.len in
    let t = g.V.TrieView.told c.args.view in
    let finds = FindsPart g.V.TrieView.valid g.V.TrieView.told w net t in
    let part = subst finds c.in-Some.is c.in_ok-part.ensures.found in
    let u = g.V.TrieView.told c.in-Some.inside in
    let law = (g.met.V.TrieView c.lifetimes (search rules)).laws c.in-Some.inside part.0 in
    let here = part_place w net t u law (sym c.prefix_len.ensures ∙ c.if-prefix_len-len.false) part.1 in
    (part.0, part.1, here, (part_has w net t u c.requires.net here part.1).0 (c.has_own.ensures.0 c.if-not-has_own.false))
