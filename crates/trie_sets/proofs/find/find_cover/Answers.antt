use Rattle.std.proofs.Common.{rules}
use Rattle.std.proofs.Common.{◌≡◌, ◌∙◌, ℕ, ◌+◌, ◌^◌, ◌<◌, ◌≤◌, arith, sym, ap, subst, true, bit_and}
use Rattle.std.specs.Int.{bit_at}
use Rattle.std.proofs.lemmas.Nat.Bits.{shr_and_one}
use Rattle.trie_model.specs.Nets.{Net, covers}
use Rattle.trie_model.specs.Views.{depth_at, child_toward}
use Rattle.trie_model.proofs.Places.{elim-false, depth_below}
use Rattle.trie_model.proofs.Places.{place_is}
use Rattle.trie_model.proofs.LongestLaws.{high_bit_of}
use Rattle.view_model.proofs.CoverSearchLaws.{clear_of, finding_child, finding_none, cover_found_none, cover_found_short}
use Rattle.view_model.proofs.CoverSearchLaws.{cover_found_long, cover_found_whole, cover_found_here, cover_in_node}
use Rattle.trie_sets.proofs.find.find_cover.Goals as goal

zero_of : (n : ℕ) → n ≡ 0 → n ≡ 0
zero_of n h = h

pub returns-then-lies_in-clause-met : goal.returns-then-lies_in-clause-met
returns-then-lies_in-clause-met g c =
    let w : ℕ = g.V.P.Number.KeyBits.width in
    let net : Net = record { bits = g.V.P.Number.KeyBits.number c.args.key; len = c.args.len } in
    let p = place_is (g.V.TrieView.told c.args.view).place (g.V.P.Number.KeyBits.number c.key-place.result) c.prefix_len-place_len.result
    c.key-place.ensures c.prefix_len-place_len.ensures in
    cover_found_whole g.V.TrieView.valid g.V.TrieView.told w (g.met.V.TrieView c.lifetimes (search rules)).laws net c.args.view c.requires.usable
    (subst (λ n. covers w net n ≡ true) p (c.lies_in.ensures.0 c.if-lies_in.true))

pub returns-then-len-place_len-clause-met : goal.returns-then-len-place_len-clause-met
returns-then-len-place_len-clause-met g c =
    let w : ℕ = g.V.P.Number.KeyBits.width in
    let net : Net = record { bits = g.V.P.Number.KeyBits.number c.args.key; len = c.args.len } in
    let p = place_is (g.V.TrieView.told c.args.view).place (g.V.P.Number.KeyBits.number c.key-place.result) c.prefix_len-place_len.result
    c.key-place.ensures c.prefix_len-place_len.ensures in
    cover_found_short g.V.TrieView.valid g.V.TrieView.told w net (g.V.TrieView.told c.args.view)
    ((g.met.V.TrieView c.lifetimes (search rules)).laws c.args.view c.requires.usable) (let le = c.if-len-place_len.true in let e =
    c.prefix_len-place_len.ensures in omega (arith, le, e))
    (λ h. elim-false (sym c.if-lies_in.false ∙ c.lies_in.ensures.1 (subst (λ n. covers w net n ≡ true) (sym p) h)))

pub returns-then-not-lies_in-clause-met : goal.returns-then-not-lies_in-clause-met
returns-then-not-lies_in-clause-met g c =
    let w : ℕ = g.V.P.Number.KeyBits.width in
    let net : Net = record { bits = g.V.P.Number.KeyBits.number c.args.key; len = c.args.len } in
    let p = place_is (g.V.TrieView.told c.args.view).place (g.V.P.Number.KeyBits.number c.key-place.result) c.prefix_len-place_len.result
    c.key-place.ensures c.prefix_len-place_len.ensures in
    cover_found_long g.V.TrieView.valid g.V.TrieView.told w net (g.V.TrieView.told c.args.view) c.requires.net
    ((g.met.V.TrieView c.lifetimes (search rules)).laws c.args.view c.requires.usable) (let lt = c.if-len-place_len.false in let e =
    c.prefix_len-place_len.ensures in omega (arith, lt, e))
    (λ h. elim-false (sym c.if-not-lies_in.true ∙ c.lies_in-2.ensures.1 (subst (λ n. covers w n net ≡ true) (sym p) h)))

pub returns-then-data_bitmap-data_lpm_mask-ne0-clause-met : goal.returns-then-data_bitmap-data_lpm_mask-ne0-clause-met
returns-then-data_bitmap-data_lpm_mask-ne0-clause-met g c =
    let w : ℕ = g.V.P.Number.KeyBits.width in
    let net : Net = record { bits = g.V.P.Number.KeyBits.number c.args.key; len = c.args.len } in
    let p = place_is (g.V.TrieView.told c.args.view).place (g.V.P.Number.KeyBits.number c.key-place.result) c.prefix_len-place_len.result
    c.key-place.ensures c.prefix_len-place_len.ensures in
    let inv = c.loop-depth.invariant in
    cover_in_node w g.V.TrieView.valid g.V.TrieView.told (g.met.V.TrieView c.lifetimes (search rules)).laws net (g.V.TrieView.told c.args.view)
    c.loop-depth.view c.loop-depth.depth c.data_lpm_mask.result _ c.requires.net inv.usable inv.depth inv.climbing (record {
      is =
          c.data_lpm_mask.ensures.mask;
    }) (high_bit_of (g.V.TrieView.told c.loop-depth.view).data_bits c.data_lpm_mask.result c.data_bitmap.result
    ((g.met.V.TrieView c.lifetimes (search rules)).laws c.loop-depth.view inv.usable).data_fit c.data_bitmap.ensures
    c.if-data_bitmap-data_lpm_mask-ne0.true)

pub returns-then-child_bitmap-bit-eq0-clause-met : goal.returns-then-child_bitmap-bit-eq0-clause-met
returns-then-child_bitmap-bit-eq0-clause-met g c =
    let w : ℕ = g.V.P.Number.KeyBits.width in
    let net : Net = record { bits = g.V.P.Number.KeyBits.number c.args.key; len = c.args.len } in
    let p = place_is (g.V.TrieView.told c.args.view).place (g.V.P.Number.KeyBits.number c.key-place.result) c.prefix_len-place_len.result
    c.key-place.ensures c.prefix_len-place_len.ensures in
    let inv = c.loop-depth.invariant in
    let long : c.loop-depth.depth + 5 ≤ c.args.len = let t = c.loop-depth-test.true in let low = inv.low in omega (arith, t, low) in
    let fits : c.loop-depth.depth + 5 ≤ w = let f = c.requires.net.len_fits in omega (arith, long, f) in
    let deep : depth_at (g.V.TrieView.told c.loop-depth.view).place.len + 5 ≤ c.args.len = subst (λ d. d + 5 ≤ c.args.len) inv.depth long in
    let toward : c.child_bit-bit.result ≡ child_toward w (depth_at (g.V.TrieView.told c.loop-depth.view).place.len)
    (g.V.P.Number.KeyBits.number c.args.key) = c.child_bit-bit.ensures.toward fits ∙
    ap (λ d. child_toward w d (g.V.P.Number.KeyBits.number c.args.key)) inv.depth in
    let clear = clear_of w g.V.TrieView.valid g.V.TrieView.told (g.met.V.TrieView c.lifetimes (search rules)).laws c.loop-depth.view
    c.loop-depth.depth (g.V.P.Number.KeyBits.number c.args.key) c.args.len c.data_lpm_mask.result inv.usable inv.depth inv.climbing.inside
    (record { is = c.data_lpm_mask.ensures.mask }) (ap (λ m. bit_and m c.data_lpm_mask.result) (sym c.data_bitmap.ensures) ∙
    zero_of _ c.if-data_bitmap-data_lpm_mask-ne0.false) in
    cover_found_none g.V.TrieView.valid g.V.TrieView.told w net (g.V.TrieView.told c.args.view)
    (finding_none w c.child_bit-bit.result net (g.V.TrieView.told c.args.view) (g.V.TrieView.told c.loop-depth.view)
    ((g.met.V.TrieView c.lifetimes (search rules)).laws c.loop-depth.view inv.usable) c.requires.net.len_fits deep toward
    (ap (λ m. bit_at m c.child_bit-bit.result) (sym c.child_bitmap.ensures) ∙ sym (shr_and_one c.child_bitmap.result c.child_bit-bit.result) ∙
    c.if-child_bitmap-bit-eq0.true) clear inv.climbing)

pub loop-depth-preserved : goal.loop-depth-preserved
loop-depth-preserved g c =
    let w : ℕ = g.V.P.Number.KeyBits.width in
    let net : Net = record { bits = g.V.P.Number.KeyBits.number c.args.key; len = c.args.len } in
    let p = place_is (g.V.TrieView.told c.args.view).place (g.V.P.Number.KeyBits.number c.key-place.result) c.prefix_len-place_len.result
    c.key-place.ensures c.prefix_len-place_len.ensures in
    let inv = c.loop-depth.invariant in
    let long : c.loop-depth.depth + 5 ≤ c.args.len = let t = c.loop-depth-test.true in let low = inv.low in omega (arith, t, low) in
    let fits : c.loop-depth.depth + 5 ≤ w = let f = c.requires.net.len_fits in omega (arith, long, f) in
    let deep : depth_at (g.V.TrieView.told c.loop-depth.view).place.len + 5 ≤ c.args.len = subst (λ d. d + 5 ≤ c.args.len) inv.depth long in
    let toward : c.child_bit-bit.result ≡ child_toward w (depth_at (g.V.TrieView.told c.loop-depth.view).place.len)
    (g.V.P.Number.KeyBits.number c.args.key) = c.child_bit-bit.ensures.toward fits ∙
    ap (λ d. child_toward w d (g.V.P.Number.KeyBits.number c.args.key)) inv.depth in
    let clear = clear_of w g.V.TrieView.valid g.V.TrieView.told (g.met.V.TrieView c.lifetimes (search rules)).laws c.loop-depth.view
    c.loop-depth.depth (g.V.P.Number.KeyBits.number c.args.key) c.args.len c.data_lpm_mask.result inv.usable inv.depth inv.climbing.inside
    (record { is = c.data_lpm_mask.ensures.mask }) (ap (λ m. bit_and m c.data_lpm_mask.result) (sym c.data_bitmap.ensures) ∙
    zero_of _ c.if-data_bitmap-data_lpm_mask-ne0.false) in
    record {
      usable = c.in_ok-child.ensures.child.0;
      depth = ap (λ d. d + 5) c.loop-depth.invariant.depth ∙ sym (depth_below (g.V.TrieView.told c.loop-depth.view).place.len) ∙
          ap (λ q. depth_at q.len) (sym c.in_ok-child.ensures.child.1.place);
      low = long;
      climbing = finding_child w c.child_bit-bit.result net (g.V.TrieView.told c.args.view) (g.V.TrieView.told c.loop-depth.view)
          (g.V.TrieView.told c.in_ok-child.child) ((g.met.V.TrieView c.lifetimes (search rules)).laws c.loop-depth.view inv.usable)
          c.requires.net.len_fits deep toward clear inv.climbing c.in_ok-child.ensures.child.1;
    }

pub returns-clause-met : goal.returns-clause-met
returns-clause-met g c =
    let w : ℕ = g.V.P.Number.KeyBits.width in
    let net : Net = record { bits = g.V.P.Number.KeyBits.number c.args.key; len = c.args.len } in
    let p = place_is (g.V.TrieView.told c.args.view).place (g.V.P.Number.KeyBits.number c.key-place.result) c.prefix_len-place_len.result
    c.key-place.ensures c.prefix_len-place_len.ensures in
    let inv = c.loop-depth.invariant in
    cover_found_here g.V.TrieView.valid g.V.TrieView.told w (g.met.V.TrieView c.lifetimes (search rules)).laws net (g.V.TrieView.told c.args.view)
    c.loop-depth.view inv.usable (let t = c.loop-depth-test.false in let d = inv.depth in let low = inv.low in omega (arith, t, d, low)) inv.climbing

pub lies_in-requires-clause-fits : goal.lies_in-requires-clause-fits
lies_in-requires-clause-fits g c = let law = (g.met.V.TrieView c.lifetimes (search rules)).laws c.args.view c.requires.usable in
    subst (λ b. b < 2 ^ g.V.P.Number.KeyBits.width) (sym c.key-place.ensures) law.place_ok.bits_fit

pub lies_in-requires-2-clause-len : goal.lies_in-requires-2-clause-len
lies_in-requires-2-clause-len g c = let law = (g.met.V.TrieView c.lifetimes (search rules)).laws c.args.view c.requires.usable in
    subst (λ l. l ≤ g.V.P.Number.KeyBits.width) (sym c.prefix_len-place_len.ensures) law.place_ok.len_fits
