-- The bits that a composed view keeps of a node, after one of them was taken.
use Rattle.std.proofs.Common.{◌≡◌, ◌≢◌, ℕ, ◌+◌, ◌^◌, ◌<◌, ◌≤◌, ◌∙◌, sym, ap, subst, arith, false, inl, inr}
use Rattle.std.specs.Prelude.{◌⊎◌}
use Rattle.std.specs.Int.{bit_at}
use Rattle.std.proofs.lemmas.Nat.Bits.{same_from_bits}
use Rattle.trie_model.specs.Spots.{data_bit_of}
use Rattle.trie_model.specs.Tries.{Cleared}
use Rattle.trie_model.specs.Views.{ViewValue, IsView, TookData, TookChild, data_net, depth_at, level_of, same_net}
use Rattle.trie_model.proofs.MapLaws.{nets_or}
use Rattle.trie_model.proofs.Places.{bit_below, not_one, elim-false}
use Rattle.trie_model.proofs.SlotLaws.{same_or}
use Rattle.trie_model.proofs.SpotLaws.{bit_back}
use Rattle.trie_model.proofs.TrieLaws.{kept_bit, same_net_is}
use Rattle.view_model.proofs.Bits.{bit_cases}

-- ---- bitmaps

-- A bitmap without a bit is the one that lacks the bit and has the same other bits.
pub cleared_is : (bit old new left : ℕ) → old < 2 ^ 32 → Cleared bit old left
    → ((b : ℕ) → b ≢ bit → bit_at new b ≡ bit_at old b) → bit_at new bit ≡ 0 → left ≡ new
cleared_is bit old new left fit clear others gone = same_from_bits left new (λ b. by b (same_or b bit))
  where
    by : (b : ℕ) → (b ≡ bit) ⊎ (b ≢ bit) → bit_at left b ≡ bit_at new b
    by b (inl e) = ap (bit_at left) e ∙ clear.gone ∙ sym gone ∙ sym (ap (bit_at new) e)
    by b (inr ne) = kept_bit bit old left b clear fit ne ∙ sym (others b ne)

-- ---- views

-- The children that are left after one was taken.
pub children_left : {X : Type 0} (w bit left : ℕ) (t u : ViewValue X) → IsView w t → TookChild w bit t u
    → Cleared bit t.child_bits left → left ≡ u.child_bits
children_left w bit left t u ok took clear =
    cleared_is bit t.child_bits u.child_bits left ok.children_fit clear took.others took.gone

-- A set data bit has a prefix that fits.
data_fits : {X : Type 0} (w b : ℕ) (t : ViewValue X) → IsView w t → bit_at t.data_bits b ≡ 1
    → depth_at t.place.len + level_of b ≤ w
data_fits w b t ok set =
    let h = ok.told b (bit_below 31 t.data_bits b ok.data_fit set) set in (ok.pairs _ h.0 h.1).0.len_fits

-- Two set data bits with one prefix are one.
data_one : {X : Type 0} (w b c : ℕ) (t : ViewValue X) → IsView w t → bit_at t.data_bits b ≡ 1 → bit_at t.data_bits c ≡ 1
    → data_net w t.place b ≡ data_net w t.place c → b ≡ c
data_one w b c t ok on on' e =
    sym (bit_back w (depth_at t.place.len) t.place.bits b (bit_below 31 t.data_bits b ok.data_fit on) (data_fits w b t ok on))
    ∙ ap (λ n. data_bit_of w (depth_at t.place.len) n.bits n.len) e
    ∙ bit_back w (depth_at t.place.len) t.place.bits c (bit_below 31 t.data_bits c ok.data_fit on') (data_fits w c t ok on')

-- The data bits that are left after one was taken.
pub data_left : {X : Type 0} (w bit left : ℕ) (t u : ViewValue X) → IsView w t → IsView w u → TookData w bit t u
    → bit_at t.data_bits bit ≡ 1 → Cleared bit t.data_bits left → left ≡ u.data_bits
data_left {X} w bit left t u ok ok' took set clear =
    cleared_is bit t.data_bits u.data_bits left (let fit = ok.data_fit in omega (arith, fit)) clear
    (λ b ne. others b ne (bit_cases t.data_bits b)) gone
  where
    gone : bit_at u.data_bits bit ≡ 0
    gone = not_one u.data_bits bit (λ on.
        let h = ok'.told bit (bit_below 31 u.data_bits bit ok'.data_fit on) on in
        let o = (took.at _ h.0).0 h.1 in
        elim-false (sym o.1 ∙ same_net_is _ _ (ap (λ p. data_net w p bit) (sym took.place))))

    stays : (b : ℕ) (x : X) → bit_at t.data_bits b ≡ 1 → b ≢ bit → t.at (data_net w t.place b) x
        → (data_net w t.place bit ≡ data_net w t.place b) ⊎ (same_net (data_net w t.place bit) (data_net w t.place b) ≡ false)
        → bit_at u.data_bits b ≡ 1
    stays b x on ne h (inl e) = absurd (ne (sym (data_one w bit b t ok set on e)))
    stays b x on ne h (inr f) = ok'.untold b x (bit_below 31 t.data_bits b ok.data_fit on)
        (subst (λ p. u.at (data_net w p b) x) (sym took.place) ((took.at (data_net w t.place b) x).1 (h, f)))

    others : (b : ℕ) → b ≢ bit → (bit_at t.data_bits b ≡ 1) ⊎ (bit_at t.data_bits b ≡ 0) → bit_at u.data_bits b ≡ bit_at t.data_bits b
    others b ne (inl on) =
        let h = ok.told b (bit_below 31 t.data_bits b ok.data_fit on) on in
        stays b h.0 on ne h.1 (nets_or _ _) ∙ sym on
    others b ne (inr off) = not_one u.data_bits b (λ on.
        let h = ok'.told b (bit_below 31 u.data_bits b ok'.data_fit on) on in
        let o = (took.at _ h.0).0 h.1 in
        let back = ok.untold b h.0 (bit_below 31 u.data_bits b ok'.data_fit on) (subst (λ p. t.at (data_net w p b) h.0) took.place o.0) in
        omega (arith, back, off)) ∙ sym off
