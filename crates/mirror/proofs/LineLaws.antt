-- How long a line is.
use Rattle.std.proofs.Common.{◌≡◌, ◌+◌, ◌*◌, ◌≤◌, List, [], ◌∷◌, ◌++◌, ℕ, length, map, codes, flat_map, refl, ap, arith}
use Rattle.std.specs.Fmt.{decimal}
use Rattle.std.proofs.lemmas.List.{length-append}
use Rattle.std.specs.List.{join_with_byte}
use Rattle.session_model.specs.declared.transcript.Record.{Record}
use Rattle.session_model.specs.declared.transcript.Record.TheVariants.{Recv, Overrun, Close, Batch, Resync, Block, Unblock, Lookup}
use Rattle.session_model.specs.Transcript.{frame_word, record_line, record_words}
use Rattle.session_model.specs.Lines.{hex_byte, hex_word}
use Rattle.session_model.specs.Networks.{address_words, network_words}
use Rattle.mirror.specs.Runner.{weight}

tail_shorter : (x : List ℕ) (xs : List (List ℕ)) → length (join_with_byte 32 xs) ≤ length (join_with_byte 32 (x ∷ xs))
tail_shorter x [] = omega arith
tail_shorter x (y ∷ ys) =
    let n : length (x ++ (32 ∷ join_with_byte 32 (y ∷ ys))) ≡ length x + length (32 ∷ join_with_byte 32 (y ∷ ys)) = length-append x (32 ∷ join_with_byte 32 (y ∷ ys)) in
    omega (arith, n)

head_shorter : (x y : List ℕ) (ys : List (List ℕ)) → length x ≤ length (join_with_byte 32 (x ∷ y ∷ ys))
head_shorter x y ys =
    let n : length (x ++ (32 ∷ join_with_byte 32 (y ∷ ys))) ≡ length x + length (32 ∷ join_with_byte 32 (y ∷ ys)) = length-append x (32 ∷ join_with_byte 32 (y ∷ ys)) in
    omega (arith, n)

first_shorter : (x : List ℕ) (xs : List (List ℕ)) → length x ≤ length (join_with_byte 32 (x ∷ xs))
first_shorter x [] = omega arith
first_shorter x (y ∷ ys) = head_shorter x y ys

twice : (bytes : List ℕ) → length (flat_map hex_byte bytes) ≡ 2 * length bytes
twice [] = refl
twice (b ∷ bytes) = let n = twice bytes in omega (arith, n)

hex_long : (bytes : List ℕ) → 2 * length bytes ≤ length (hex_word bytes)
hex_long [] = omega arith
hex_long (b ∷ bytes) = omega (arith, twice (b ∷ bytes))

aside_long : (r : Record) (word : List ℕ) (words : List (List ℕ)) → record_words r ≡ word ∷ words → weight r ≡ 0 → 2 ≤ length word
    → (2 ≤ length (record_line r)) × (2 * weight r ≤ length (record_line r))
aside_long r word words is none long =
    let whole : length (record_line r) ≡ length (join_with_byte 32 (record_words r)) + 1 = length-append (join_with_byte 32 (record_words r)) (10 ∷ []) in
    let same : length (join_with_byte 32 (record_words r)) ≡ length (join_with_byte 32 (word ∷ words)) = ap (λ ws. length (join_with_byte 32 ws)) is in
    let some = first_shorter word words in
    (omega (arith, whole, same, some, long), omega (arith, none, whole))

-- A line has at least two bytes, and two for each message and each drop that its record can bring.
pub line_long : (r : Record) → (2 ≤ length (record_line r)) × (2 * weight r ≤ length (record_line r))
line_long (Recv source bytes) =
    let w = decimal source.groups ∷ hex_word bytes ∷ [] in
    let whole : length (record_line (Recv source bytes)) ≡ length (join_with_byte 32 (record_words (Recv source bytes))) + 1 = length-append (join_with_byte 32 (record_words (Recv source bytes))) (10 ∷ []) in
    let name : 4 ≤ length (join_with_byte 32 (record_words (Recv source bytes))) = head_shorter (codes "recv") (decimal source.port) w in
    let a = tail_shorter (codes "recv") (decimal source.port ∷ w) in
    let b = tail_shorter (decimal source.port) w in
    let c = tail_shorter (decimal source.groups) (hex_word bytes ∷ []) in
    (omega (arith, whole, name), omega (arith, whole, a, b, c, hex_long bytes))
line_long Overrun = let n : length (record_line Overrun) ≡ 8 = refl in (omega (arith, n), omega (arith, n))
line_long Close = let n : length (record_line Close) ≡ 6 = refl in (omega (arith, n), omega (arith, n))
line_long (Batch to frames) =
    let whole : length (record_line (Batch to frames)) ≡ length (join_with_byte 32 (record_words (Batch to frames))) + 1 = length-append (join_with_byte 32 (record_words (Batch to frames))) (10 ∷ []) in
    let name : 5 ≤ length (join_with_byte 32 (record_words (Batch to frames))) = head_shorter (codes "batch") (decimal to.port) (decimal to.groups ∷ map frame_word frames) in
    (omega (arith, whole, name), omega (arith, whole))
line_long Resync = let n : length (record_line Resync) ≡ 7 = refl in (omega (arith, n), omega (arith, n))
line_long (Block n) = aside_long (Block n) (codes "block") (network_words n) refl refl (omega arith)
line_long (Unblock n) = aside_long (Unblock n) (codes "unblock") (network_words n) refl refl (omega arith)
line_long (Lookup a) = aside_long (Lookup a) (codes "lookup") (address_words a) refl refl (omega arith)
