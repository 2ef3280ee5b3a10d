-- Counters read back.
use Rattle.std.proofs.Common.{◌≡◌, ◌+◌, ◌*◌, ◌/◌, ◌%◌, ◌<◌, ◌^◌, ◌==◌, ℕ, zero, suc, Bool, true, false, List, [], ◌∷◌, ◌++◌, map, length, get_or, Result, Ok, Err, refl, sym, ap, ◌∙◌, subst, arith, eq-eqb}
use Rattle.std.specs.Prelude.{if◌then◌else◌}
use Rattle.std.specs.List.{AllByRecursion, range_with_len}
use Rattle.std.proofs.lemmas.Bool.{eqb-true}
use Rattle.std.proofs.lemmas.List.{get_or-drop, drop_at}
use Rattle.std.proofs.lemmas.List.FromFn.{map-range_with_len_more}
use Rattle.std.proofs.lemmas.Nat.{le_bytes_8, from_le_bytes-to_le_bytes_8}
use Rattle.nl_core.specs.declared.error.DecodeError.{DecodeError}
use Rattle.nl_core.specs.declared.error.DecodeError.TheVariants.{BadLength}
use Rattle.nl_core.specs.Numbers.{AreBytes, le64, u64_at, words64}
use Rattle.nl_core.proofs.Wire.{length-le64, length-words64}
use Rattle.nl_core.proofs.Bytes.{byte-below, take-bytes, drop-bytes}
use Rattle.rt_other.specs.declared.stats64.Stats64.{Stats64}
use Rattle.rt_other.specs.Stats.{counters, stats_at, CountersReadBack, ReadCountersReadBack}

-- ---- the loop that reads them

-- One more counter stands at the end.
pub counters-more : (n : ℕ) (bytes : List ℕ) → counters (n + 1) bytes ≡ counters n bytes ++ u64_at bytes (n * 8) ∷ []
counters-more n bytes = map-range_with_len_more (λ k. u64_at bytes (k * 8)) 0 n n (omega arith)

-- ---- a counter and those after it

byte-after : (front rest : List ℕ) (i j : ℕ) → length front ≡ 8 → i ≡ 8 + j → get_or (front ++ rest) i 0 ≡ get_or rest j 0
byte-after front rest i j len is =
    ap (λ (k : ℕ). get_or (front ++ rest) k 0) is ∙ sym (get_or-drop 8 (front ++ rest) j 0)
    ∙ ap (λ (l : List ℕ). get_or l j 0) (drop_at front rest 8 len)

u64-after : (front rest : List ℕ) (k : ℕ) → length front ≡ 8 → u64_at (front ++ rest) ((k + 1) * 8) ≡ u64_at rest (k * 8)
unfolding u64_at
u64-after front rest k len =
    let at : (m : ℕ) → get_or (front ++ rest) ((k + 1) * 8 + m) 0 ≡ get_or rest (k * 8 + m) 0 =
    λ m. byte-after front rest ((k + 1) * 8 + m) (k * 8 + m) len (omega arith) in
    rw (byte-after front rest ((k + 1) * 8) (k * 8) len (omega arith), at 1, at 2, at 3, at 4, at 5, at 6, at 7) refl

map-shifted : (f g : ℕ → ℕ) (a n : ℕ) → ((k : ℕ) → f (k + 1) ≡ g k) → map f (range_with_len (a + 1) n) ≡ map g (range_with_len a n)
map-shifted f g a zero same = refl
map-shifted f g a (suc n) same = rw (same a, map-shifted f g (a + 1) n same) refl

-- The counters of eight bytes and others are the first one and those of the others.
counters-cons : (front rest : List ℕ) (n : ℕ) → length front ≡ 8
    → counters (suc n) (front ++ rest) ≡ u64_at (front ++ rest) 0 ∷ counters n rest
counters-cons front rest n len =
    ap (λ (ks : List ℕ). u64_at (front ++ rest) 0 ∷ ks)
    (map-shifted (λ k. u64_at (front ++ rest) (k * 8)) (λ k. u64_at rest (k * 8)) 0 n (λ k. u64-after front rest k len))

-- ---- written and read

u64-again : (n : ℕ) (rest : List ℕ) → n < 2 ^ 64 → u64_at (le64 n ++ rest) 0 ≡ n
unfolding le64 u64_at
u64-again n rest lt = from_le_bytes-to_le_bytes_8 n lt

list-again : (ns : List ℕ) → AllByRecursion (λ n. n < 2 ^ 64) ns → counters (length ns) (words64 ns) ≡ ns
unfolding words64
list-again [] all = refl
list-again (n ∷ ns) all =
    counters-cons (le64 n) (words64 ns) (length ns) (length-le64 n)
    ∙ rw (u64-again n (words64 ns) all.0, list-again ns all.1) refl

-- Counters of eight bytes each read back.
pub counters-again : CountersReadBack
counters-again s all =
    let len = length-words64 s.0 in
    let whole : (length (words64 s.0) % 8 == 0) ≡ true = eq-eqb (length (words64 s.0) % 8) 0 (omega (arith, len)) in
    let count : length (words64 s.0) / 8 ≡ length s.0 = omega (arith, len) in
    rw (whole, count, list-again s.0 all) refl

-- ---- read and written

eight : (b0 b1 b2 b3 b4 b5 b6 b7 : ℕ) (rest : List ℕ) → AreBytes (b0 ∷ b1 ∷ b2 ∷ b3 ∷ b4 ∷ b5 ∷ b6 ∷ b7 ∷ [])
    → le64 (u64_at (b0 ∷ b1 ∷ b2 ∷ b3 ∷ b4 ∷ b5 ∷ b6 ∷ b7 ∷ rest) 0) ≡ b0 ∷ b1 ∷ b2 ∷ b3 ∷ b4 ∷ b5 ∷ b6 ∷ b7 ∷ []
unfolding le64 u64_at
eight b0 b1 b2 b3 b4 b5 b6 b7 rest are =
    let bs = b0 ∷ b1 ∷ b2 ∷ b3 ∷ b4 ∷ b5 ∷ b6 ∷ b7 ∷ [] in
    le_bytes_8 bs _ refl (λ i. byte-below bs i are) refl

read-again : (n : ℕ) (bytes : List ℕ) → length bytes ≡ n * 8 → AreBytes bytes → words64 (counters n bytes) ≡ bytes
unfolding words64
read-again zero [] len are = refl
read-again zero (b ∷ bytes) len are = absurd (omega arith)
read-again (suc n) (b0 ∷ b1 ∷ b2 ∷ b3 ∷ b4 ∷ b5 ∷ b6 ∷ b7 ∷ rest) len are =
    let front = b0 ∷ b1 ∷ b2 ∷ b3 ∷ b4 ∷ b5 ∷ b6 ∷ b7 ∷ [] in
    let bytes = b0 ∷ b1 ∷ b2 ∷ b3 ∷ b4 ∷ b5 ∷ b6 ∷ b7 ∷ rest in
    let first : AreBytes front = take-bytes 8 bytes are in
    ap words64 (counters-cons front rest n refl)
    ∙ rw (eight b0 b1 b2 b3 b4 b5 b6 b7 rest first) (ap (λ (more : List ℕ). front ++ more) (read-again n rest (omega arith) (drop-bytes 8 bytes are)))
read-again (suc n) bytes len are = absurd (omega arith)

abbrev whole : Bool → Stats64 → Result Stats64 DecodeError
whole b x = if b then Ok x else Err BadLength

abbrev whole-is : Bool → Stats64 → Stats64 → Type 0
whole-is b x s = whole b x ≡ Ok s

whole-if : (b : Bool) (x s : Stats64) → whole-is b x s → (b ≡ true) × (x ≡ s)
whole-if true x s is = (refl, cc)
whole-if false x s is = absurd cc

-- Counters that were read have the bytes that they were read from.
pub read-counters-again : ReadCountersReadBack
read-counters-again bytes s are is =
    let n = length bytes / 8 in
    let both = whole-if (length bytes % 8 == 0) (record { 0 = counters n bytes }) s is in
    let none = eqb-true (length bytes % 8) 0 both.0 in
    subst (λ (t : Stats64). words64 t.0 ≡ bytes) both.1 (read-again n bytes (omega (arith, none)) are)
