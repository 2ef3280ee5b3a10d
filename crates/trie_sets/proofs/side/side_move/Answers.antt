use Rattle.std.proofs.Common.{rules}
use Rattle.std.proofs.Common.{◌≡◌, ◌∙◌, ℕ, sym, subst, true, Some}
use Rattle.trie_model.specs.Nets.{Net, covers}
use Rattle.trie_model.proofs.Places.{elim-false}
use Rattle.view_model.specs.Sides.{IsInnerSide, SideMoved}
use Rattle.trie_model.proofs.Places.{place_is}
use Rattle.view_model.proofs.SideMoves.{moved_kept, moved_apart}
use Rattle.trie_sets.proofs.side.side_move.Goals as goal

pub returns-then-lies_in : goal.returns-then-lies_in
returns-then-lies_in g c =
    let w : ℕ = g.V.P.Number.KeyBits.width in
    let to : Net = record { bits = g.V.P.Number.KeyBits.number c.args.key; len = c.args.len } in
    let e : c.args.side.now ≡ Some c.in-Some.view = sym c.take.ensures.value ∙ c.in-Some.is in
    let ok = subst (λ o. IsInnerSide g.V.TrieView.valid g.V.TrieView.told w c.requires.place.0 o) e c.requires.place.1.1 in
    let p = place_is (g.V.TrieView.told c.in-Some.view).place (g.V.P.Number.KeyBits.number c.key-view_key.result) c.prefix_len-view_len.result
    c.key-view_key.ensures c.prefix_len-view_len.ensures in
    subst (λ o. SideMoved g.V.TrieView.valid g.V.TrieView.told w to o (Some c.in-Some.view)) (sym e)
    (moved_kept g.V.TrieView.valid g.V.TrieView.told w (g.met.V.TrieView c.lifetimes (search rules)).laws to c.in-Some.view ok.0
    (subst (λ n. covers w to n ≡ true) p (c.lies_in.ensures.0 c.if-lies_in.true)))

pub returns-else-lies_in-2 : goal.returns-else-lies_in-2
returns-else-lies_in-2 g c =
    let w : ℕ = g.V.P.Number.KeyBits.width in
    let to : Net = record { bits = g.V.P.Number.KeyBits.number c.args.key; len = c.args.len } in
    let e : c.args.side.now ≡ Some c.in-Some.view = sym c.take.ensures.value ∙ c.in-Some.is in
    let ok = subst (λ o. IsInnerSide g.V.TrieView.valid g.V.TrieView.told w c.requires.place.0 o) e c.requires.place.1.1 in
    let p = place_is (g.V.TrieView.told c.in-Some.view).place (g.V.P.Number.KeyBits.number c.key-view_key.result) c.prefix_len-view_len.result
    c.key-view_key.ensures c.prefix_len-view_len.ensures in
    subst (λ o. SideMoved g.V.TrieView.valid g.V.TrieView.told w to o c.take.new.self) (sym e)
    (subst (λ o. SideMoved g.V.TrieView.valid g.V.TrieView.told w to (Some c.in-Some.view) o) (sym c.take.ensures.after)
    (moved_apart g.V.TrieView.valid g.V.TrieView.told w (g.met.V.TrieView c.lifetimes (search rules)).laws to c.in-Some.view c.requires.place.1.0.fits ok.0
    (λ h. elim-false (sym c.if-lies_in.false ∙ c.lies_in.ensures.1 (subst (λ n. covers w to n ≡ true) (sym p) h)))
    (λ h. elim-false (sym c.if-lies_in-2.false ∙ c.lies_in-2.ensures.1 (subst (λ n. covers w n to ≡ true) (sym p) h)))))
