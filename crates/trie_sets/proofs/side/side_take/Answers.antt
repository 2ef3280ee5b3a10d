use Rattle.std.proofs.Common.{rules}
use Rattle.std.proofs.Common.{◌≡◌, ◌∙◌, ℕ, sym, ap, subst, Some}
use Rattle.std.specs.Int.{bit_at}
use Rattle.std.proofs.lemmas.Nat.Bits.{shr_and_one}
use Rattle.view_model.specs.Sides.{IsInnerSide, side_data_bits}
use Rattle.view_model.specs.Union.{SideTook}
use Rattle.view_model.proofs.SplitLaws.{bits_place}
use Rattle.view_model.proofs.SideMoves.{took_nothing, took_item}
use Rattle.trie_sets.proofs.side.side_take.Goals as goal

pub returns-then-side_data-bit-eq0-clause-took : goal.returns-then-side_data-bit-eq0-clause-took
returns-then-side_data-bit-eq0-clause-took g c = λ place d ok.
    took_nothing {T = g.row.V-T.Denot} g.V.TrieView.valid g.V.TrieView.told g.V.TrieView.item g.V.P.Number.KeyBits.width
    (g.met.V.TrieView c.lifetimes (search rules)).laws place c.args.bit c.args.side.now c.requires.bit ok
    (ap (λ x. bit_at (side_data_bits g.V.TrieView.told x c.args.side.now) c.args.bit) d ∙ ap (λ x. bit_at x c.args.bit) (sym c.side_data.ensures) ∙
    sym (shr_and_one c.side_data.result c.args.bit) ∙ c.if-side_data-bit-eq0.true)

pub returns-clause-took : goal.returns-clause-took
returns-clause-took g c = λ place d ok.
    let w : ℕ = g.V.P.Number.KeyBits.width in
    let e : c.args.side.now ≡ Some c.in-Some.view = c.in-Some.is in
    let here = subst (λ o. IsInnerSide g.V.TrieView.valid g.V.TrieView.told w place o) e ok in
    subst (λ o. SideTook {T = g.row.V-T.Denot} g.V.TrieView.valid g.V.TrieView.told g.V.TrieView.item w place c.args.bit o (Some c.get_data.new.self)
    (Some c.in_ok-item.item)) (sym e)
    (took_item g.V.TrieView.valid g.V.TrieView.told g.V.TrieView.item w (g.met.V.TrieView c.lifetimes (search rules)).laws place c.args.bit
    c.in-Some.view c.get_data.new.self c.in_ok-item.item c.in_ok-item.ensures.usable here
    (bits_place g.V.TrieView.told c.args.depth c.args.bit c.in-Some.view
    (λ z. c.if-side_data-bit-eq0.false (shr_and_one c.side_data.result c.args.bit ∙ ap (λ x. bit_at x c.args.bit) c.side_data.ensures ∙
    ap (λ o. bit_at (side_data_bits g.V.TrieView.told c.args.depth o) c.args.bit) e ∙ z)) ∙ sym d)
    c.in_ok-item.ensures.«data» c.in_ok-item.ensures.rest)
