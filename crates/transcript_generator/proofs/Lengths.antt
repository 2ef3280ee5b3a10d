-- How long a generated text is.
use Rattle.std.proofs.Common.{◌≡◌, ◌+◌, ◌*◌, ◌%◌, ◌==◌, ◌≤◌, suc, ℕ, Bool, true, false, cond, List, [], ◌∷◌, ◌++◌, length, map, refl, ◌∙◌, ap, arith}
use Rattle.std.specs.List.{filter}
use Rattle.std.specs.Fmt.{digits}
use Rattle.std.proofs.lemmas.List.{length-append}
use Rattle.std.proofs.lemmas.List.FromFn.{length-range_with_len}
use Rattle.std.proofs.lemmas.Grind.{flat_map-append}
use Rattle.session_model.specs.declared.transcript.Record.{Record}
use Rattle.session_model.specs.declared.transcript.Record.TheVariants.{Resync}
use Rattle.session_model.specs.Networks.{octets_of}
use Rattle.session_model.specs.Transcript.{lines_of, record_line}
use Rattle.transcript_generator.specs.Generated.{block_record, done_frame, from_kernel, gen_text, generated, lookup_record, numbers, route_record, most_routes}

-- The line of a route.
route-length : (i : ℕ) → length (record_line (route_record i)) ≡ 114
unfolding digits
route-length i = refl

block-length : (i : ℕ) → length (record_line (block_record i)) ≡ 20
unfolding octets_of digits
block-length i = refl

lookup-length : (i : ℕ) → length (record_line (lookup_record i)) ≡ 18
unfolding octets_of
lookup-length i = refl

lines-length : (f : ℕ → Record) (k : ℕ) → ((i : ℕ) → length (record_line (f i)) ≡ k)
    → (ns : List ℕ) → length (lines_of (map f ns)) ≡ length ns * k
lines-length f k h [] = omega arith
lines-length f k h (n ∷ ns) =
    let first : length (record_line (f n)) ≡ k = h n in
    let rest : length (lines_of (map f ns)) ≡ length ns * k = lines-length f k h ns in
    length-append (record_line (f n)) (lines_of (map f ns)) ∙ both (length ns) k _ _ first rest
  where
    both : (n k a b : ℕ) → a ≡ k → b ≡ n * k → a + b ≡ suc n * k
    both n k a b ea eb = rw (ea, eb) (omega arith)

filter-length : (p : ℕ → Bool) (ns : List ℕ) → length (filter p ns) ≤ length ns
filter-length p [] = omega arith
filter-length p (n ∷ ns) = elim (p n) as (λ b. length (cond b (n ∷ filter p ns) (filter p ns)) ≤ suc (length ns)) [
  | true ↦ omega (arith, filter-length p ns)
  | false ↦ omega (arith, filter-length p ns)
]

parts : (a b c d e : List ℕ) → length (a ++ (b ++ (c ++ (d ++ e)))) ≡ length a + (length b + (length c + (length d + length e)))
parts a b c d e =
    length-append a (b ++ (c ++ (d ++ e)))
    ∙ ap (λ n. length a + n) (length-append b (c ++ (d ++ e))
    ∙ ap (λ n. length b + n) (length-append c (d ++ e) ∙ ap (λ n. length c + n) (length-append d e)))

-- It is within the usual limit.
pub text-within : (n : ℕ) → n ≤ most_routes → length (gen_text n) ≤ 67108864
unfolding digits
text-within n h =
    let ns = numbers n in
    let kept = filter (λ i. i % 1000 == 0) ns in
    let routes = map route_record ns in
    let blocks = map block_record kept in
    let lookups = map lookup_record ns in
    let after = blocks ++ lookups in
    let joined : lines_of (generated n)
    ≡ record_line Resync ++ (lines_of routes ++ (record_line (from_kernel done_frame) ++ (lines_of blocks ++ lines_of lookups)))
    = ap (λ t. record_line Resync ++ t) (flat_map-append record_line routes (from_kernel done_frame ∷ after)
    ∙ ap (λ t. lines_of routes ++ (record_line (from_kernel done_frame) ++ t)) (flat_map-append record_line blocks lookups)) in
    let count : length ns ≡ n = length-range_with_len 0 n in
    let sizes = parts (record_line Resync) (lines_of routes) (record_line (from_kernel done_frame)) (lines_of blocks) (lines_of lookups) in
    small n (length ns) (length kept) (length (gen_text n)) _ _ _ h count (filter-length _ ns)
    (lines-length route_record 114 route-length ns) (lines-length block_record 20 block-length kept) (lines-length lookup_record 18 lookup-length ns)
    (ap length joined ∙ sizes)
  where
    small : (n count kept all routes blocks lookups : ℕ) → n ≤ 400000 → count ≡ n → kept ≤ count → routes ≡ count * 114 → blocks ≡ kept * 20
        → lookups ≡ count * 18 → all ≡ 7 + (routes + (50 + (blocks + lookups))) → all ≤ 67108864
    small n count kept all routes blocks lookups h a b c d e f = omega (arith, h, a, b, c, d, e, f)
