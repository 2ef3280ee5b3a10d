use Rattle.std.proofs.Common.{rules}
use Rattle.std.proofs.Common.{◌≡◌, ◌∙◌, ℕ, ◌+◌, ◌^◌, ◌<◌, ◌≤◌, arith, sym, ap, subst, true}
use Rattle.std.specs.Int.{bit_at}
use Rattle.std.proofs.lemmas.Nat.Bits.{shr_and_one}
use Rattle.trie_model.specs.Nets.{Net, covers}
use Rattle.trie_model.specs.Views.{depth_at, child_toward}
use Rattle.trie_model.proofs.Places.{elim-false, depth_below}
use Rattle.trie_model.proofs.Places.{place_is}
use Rattle.view_model.proofs.FindLaws.{whole, apart_short, apart_long, find_child, find_none, find_end}
use Rattle.trie_sets.proofs.find.find_part.Goals as goal

pub returns-then-lies_in-clause-found : goal.returns-then-lies_in-clause-found
returns-then-lies_in-clause-found g c =
    let w : ℕ = g.V.P.Number.KeyBits.width in
    let net : Net = record { bits = g.V.P.Number.KeyBits.number c.args.key; len = c.args.len } in
    let p = place_is (g.V.TrieView.told c.args.view).place (g.V.P.Number.KeyBits.number c.key-place.result) c.prefix_len-place_len.result
    c.key-place.ensures c.prefix_len-place_len.ensures in (
      c.requires.usable,
      whole w net (g.V.TrieView.told c.args.view) ((g.met.V.TrieView c.lifetimes (search rules)).laws c.args.view c.requires.usable)
          (subst (λ n. covers w net n ≡ true) p (c.lies_in.ensures.0 c.if-lies_in.true)),
    )

pub returns-then-len-place_len-clause-found : goal.returns-then-len-place_len-clause-found
returns-then-len-place_len-clause-found g c =
    let w : ℕ = g.V.P.Number.KeyBits.width in
    let net : Net = record { bits = g.V.P.Number.KeyBits.number c.args.key; len = c.args.len } in
    let p = place_is (g.V.TrieView.told c.args.view).place (g.V.P.Number.KeyBits.number c.key-place.result) c.prefix_len-place_len.result
    c.key-place.ensures c.prefix_len-place_len.ensures in
    apart_short w net (g.V.TrieView.told c.args.view) ((g.met.V.TrieView c.lifetimes (search rules)).laws c.args.view c.requires.usable) (let le =
    c.if-len-place_len.true in let e = c.prefix_len-place_len.ensures in omega (arith, le, e))
    (λ h. elim-false (sym c.if-lies_in.false ∙ c.lies_in.ensures.1 (subst (λ n. covers w net n ≡ true) (sym p) h)))

pub returns-then-not-lies_in-clause-found : goal.returns-then-not-lies_in-clause-found
returns-then-not-lies_in-clause-found g c =
    let w : ℕ = g.V.P.Number.KeyBits.width in
    let net : Net = record { bits = g.V.P.Number.KeyBits.number c.args.key; len = c.args.len } in
    let p = place_is (g.V.TrieView.told c.args.view).place (g.V.P.Number.KeyBits.number c.key-place.result) c.prefix_len-place_len.result
    c.key-place.ensures c.prefix_len-place_len.ensures in
    apart_long w net (g.V.TrieView.told c.args.view) c.requires.net ((g.met.V.TrieView c.lifetimes (search rules)).laws c.args.view c.requires.usable)
    (let lt = c.if-len-place_len.false in let e = c.prefix_len-place_len.ensures in omega (arith, lt, e))
    (λ h. elim-false (sym c.if-not-lies_in.true ∙ c.lies_in-2.ensures.1 (subst (λ n. covers w n net ≡ true) (sym p) h)))

pub returns-then-child_bitmap-bit-eq0-clause-found : goal.returns-then-child_bitmap-bit-eq0-clause-found
returns-then-child_bitmap-bit-eq0-clause-found g c =
    let w : ℕ = g.V.P.Number.KeyBits.width in
    let net : Net = record { bits = g.V.P.Number.KeyBits.number c.args.key; len = c.args.len } in
    let p = place_is (g.V.TrieView.told c.args.view).place (g.V.P.Number.KeyBits.number c.key-place.result) c.prefix_len-place_len.result
    c.key-place.ensures c.prefix_len-place_len.ensures in
    let inv = c.loop-depth.invariant in
    let long : c.loop-depth.depth + 5 ≤ c.args.len = let t = c.loop-depth-test.true in let low = inv.low in omega (arith, t, low) in
    let fits : c.loop-depth.depth + 5 ≤ w = let f = c.requires.net.len_fits in omega (arith, long, f) in
    let deep : depth_at (g.V.TrieView.told c.loop-depth.view).place.len + 5 ≤ c.args.len = subst (λ d. d + 5 ≤ c.args.len) inv.depth long in
    let toward : c.child_bit-bit.result ≡ child_toward w (depth_at (g.V.TrieView.told c.loop-depth.view).place.len)
    (g.V.P.Number.KeyBits.number c.args.key) = c.child_bit-bit.ensures.toward fits ∙
    ap (λ d. child_toward w d (g.V.P.Number.KeyBits.number c.args.key)) inv.depth in
    find_none w c.child_bit-bit.result net (g.V.TrieView.told c.args.view) (g.V.TrieView.told c.loop-depth.view)
    ((g.met.V.TrieView c.lifetimes (search rules)).laws c.loop-depth.view inv.usable) c.requires.net.len_fits deep toward
    (ap (λ m. bit_at m c.child_bit-bit.result) (sym c.child_bitmap.ensures) ∙ sym (shr_and_one c.child_bitmap.result c.child_bit-bit.result) ∙
    c.if-child_bitmap-bit-eq0.true) (let lt = c.if-len-place_len.false in let e = c.prefix_len-place_len.ensures in omega (arith, lt, e)) inv.reaching

pub loop-depth-preserved : goal.loop-depth-preserved
loop-depth-preserved g c =
    let w : ℕ = g.V.P.Number.KeyBits.width in
    let net : Net = record { bits = g.V.P.Number.KeyBits.number c.args.key; len = c.args.len } in
    let p = place_is (g.V.TrieView.told c.args.view).place (g.V.P.Number.KeyBits.number c.key-place.result) c.prefix_len-place_len.result
    c.key-place.ensures c.prefix_len-place_len.ensures in
    let inv = c.loop-depth.invariant in
    let long : c.loop-depth.depth + 5 ≤ c.args.len = let t = c.loop-depth-test.true in let low = inv.low in omega (arith, t, low) in
    let fits : c.loop-depth.depth + 5 ≤ w = let f = c.requires.net.len_fits in omega (arith, long, f) in
    let deep : depth_at (g.V.TrieView.told c.loop-depth.view).place.len + 5 ≤ c.args.len = subst (λ d. d + 5 ≤ c.args.len) inv.depth long in
    let toward : c.child_bit-bit.result ≡ child_toward w (depth_at (g.V.TrieView.told c.loop-depth.view).place.len)
    (g.V.P.Number.KeyBits.number c.args.key) = c.child_bit-bit.ensures.toward fits ∙
    ap (λ d. child_toward w d (g.V.P.Number.KeyBits.number c.args.key)) inv.depth in
    record {
      usable = c.in_ok-child.ensures.child.0;
      depth = ap (λ d. d + 5) c.loop-depth.invariant.depth ∙ sym (depth_below (g.V.TrieView.told c.loop-depth.view).place.len) ∙
          ap (λ q. depth_at q.len) (sym c.in_ok-child.ensures.child.1.place);
      low = long;
      reaching = find_child w c.child_bit-bit.result net (g.V.TrieView.told c.args.view) (g.V.TrieView.told c.loop-depth.view)
          (g.V.TrieView.told c.in_ok-child.child) ((g.met.V.TrieView c.lifetimes (search rules)).laws c.loop-depth.view inv.usable)
          c.requires.net.len_fits deep toward inv.reaching c.in_ok-child.ensures.child.1;
    }

pub returns-clause-found : goal.returns-clause-found
returns-clause-found g c =
    let w : ℕ = g.V.P.Number.KeyBits.width in
    let net : Net = record { bits = g.V.P.Number.KeyBits.number c.args.key; len = c.args.len } in
    let p = place_is (g.V.TrieView.told c.args.view).place (g.V.P.Number.KeyBits.number c.key-place.result) c.prefix_len-place_len.result
    c.key-place.ensures c.prefix_len-place_len.ensures in (
      c.reposition.ensures.usable,
      find_end w net (g.V.TrieView.told c.args.view) (g.V.TrieView.told c.loop-depth.view)
          (g.V.TrieView.told c.reposition.new.self) c.requires.net (let lt = c.if-len-place_len.false in let e = c.prefix_len-place_len.ensures in
          omega (arith, lt, e)) c.loop-depth.invariant.reaching c.reposition.ensures.moved,
    )

pub lies_in-requires-clause-fits : goal.lies_in-requires-clause-fits
lies_in-requires-clause-fits g c = let law = (g.met.V.TrieView c.lifetimes (search rules)).laws c.args.view c.requires.usable in
    subst (λ b. b < 2 ^ g.V.P.Number.KeyBits.width) (sym c.key-place.ensures) law.place_ok.bits_fit

pub lies_in-requires-2-clause-len : goal.lies_in-requires-2-clause-len
lies_in-requires-2-clause-len g c = let law = (g.met.V.TrieView c.lifetimes (search rules)).laws c.args.view c.requires.usable in
    subst (λ l. l ≤ g.V.P.Number.KeyBits.width) (sym c.prefix_len-place_len.ensures) law.place_ok.len_fits
