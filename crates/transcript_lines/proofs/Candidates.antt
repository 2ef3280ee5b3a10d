-- The one record that words can be of.
use Rattle.std.proofs.Common.{◌≡◌, ◌==◌, ◌+◌, ◌-◌, ◌*◌, ◌/◌, ◌%◌, ◌<◌, ◌≤◌, ℕ, zero, suc, nat_lt, cond, Bool, true, false, List, [], ◌∷◌, take, drop, map, flat_map, codes, refl, ◌∙◌, ap, arith}
use Rattle.std.specs.Fmt.{decimal}
use Rattle.std.specs.Slice.Scan.{big_endian}
use Rattle.std.proofs.lemmas.Bool.Decides.{nat_tests}
use Rattle.session_model.specs.Lines.{hex_word, hex_byte, hex_digit}
use Rattle.session_model.specs.Networks.{IsHost, IsNetwork, base_of, digits_of, family_word, octets_of, prefix_word}
use Rattle.session_model.specs.Transcript.{AreBytes, AreFrames, IsAddress, IsSpelled, frame_word, mark_letter, record_words}
use Rattle.session_model.specs.declared.address.SocketAddr.{SocketAddr}
use Rattle.session_model.specs.declared.network.Address.{Address}
use Rattle.session_model.specs.declared.network.Address.TheVariants as address
use Rattle.session_model.specs.declared.network.Network.{Network}
use Rattle.session_model.specs.declared.network.Network.TheVariants as network
use Rattle.session_model.specs.declared.transcript.BatchFrame.{BatchFrame}
use Rattle.session_model.specs.declared.transcript.Mark.{Mark}
use Rattle.session_model.specs.declared.transcript.Mark.TheVariants.{ByFlags, Expected, NotExpected}
use Rattle.session_model.specs.declared.transcript.Record.{Record}
use Rattle.session_model.specs.declared.transcript.Record.TheVariants.{Recv, Overrun, Close, Batch, Resync, Block, Unblock, Lookup}
use Rattle.transcript_lines.specs.declared.line.Kind.{Kind}
use Rattle.transcript_lines.specs.declared.line.Kind.TheVariants.{Recv as ForRecv, Overrun as ForOverrun, Close as ForClose, Batch as ForBatch, Resync as ForResync, Block as ForBlock, Unblock as ForUnblock, Lookup as ForLookup}
use Rattle.transcript_lines.proofs.Decimals.{number_after, value_of}
use Rattle.transcript_lines.proofs.Octets.{number_in, octets_bytes, octets_number}
use Rattle.transcript_lines.proofs.RecordWords.{tag, tag_of}

digit_number : ℕ → ℕ
digit_number d = cond (nat_lt d 58) (d - 48) (d - 87)

digit_back : (v : ℕ) → v < 16 → digit_number (hex_digit v) ≡ v
unfolding digit_number
digit_back v h = by (nat_lt v 10) refl
  where
    by : (t : Bool) → nat_lt v 10 ≡ t
        → cond (nat_lt (cond t (48 + v) (87 + v)) 58) (cond t (48 + v) (87 + v) - 48) (cond t (48 + v) (87 + v) - 87) ≡ v
    by true e =
        let low : v < 10 = grind (arith, nat_tests) in
        let test : nat_lt (48 + v) 58 ≡ true = grind (arith, nat_tests, low) in
        ap (λ b. cond b (48 + v - 48) (48 + v - 87)) test ∙ omega arith
    by false e =
        let high : 10 ≤ v = grind (arith, nat_tests) in
        let test : nat_lt (87 + v) 58 ≡ false = grind (arith, nat_tests, high) in
        ap (λ b. cond b (87 + v - 48) (87 + v - 87)) test ∙ omega arith

-- The bytes that pairs of digits spell.
pub bytes_of : List ℕ → List ℕ
bytes_of [] = []
bytes_of (high ∷ []) = []
bytes_of (high ∷ low ∷ digits) = (digit_number high * 16 + digit_number low) ∷ bytes_of digits

bytes_flat : (bytes : List ℕ) → AreBytes bytes → bytes_of (flat_map hex_byte bytes) ≡ bytes
unfolding bytes_of
bytes_flat [] h = refl
bytes_flat (b ∷ bytes) h =
    let small : b < 256 = h.0 in
    let high = digit_back (b / 16) (omega (arith, small)) in
    let low = digit_back (b % 16) (omega arith) in
    let sum : (b / 16) * 16 + b % 16 ≡ b = omega arith in
    ap (λ z. (z * 16 + digit_number (hex_digit (b % 16))) ∷ bytes_of (flat_map hex_byte bytes)) high
    ∙ ap (λ z. ((b / 16) * 16 + z) ∷ bytes_of (flat_map hex_byte bytes)) low
    ∙ ap (λ z. z ∷ bytes_of (flat_map hex_byte bytes)) sum ∙ ap (λ z. b ∷ z) (bytes_flat bytes h.1)

-- Bytes are those of their word.
pub bytes_back : (bytes : List ℕ) → AreBytes bytes → bytes_of (hex_word bytes) ≡ bytes
unfolding bytes_of
bytes_back [] h = refl
bytes_back (b ∷ bytes) h = bytes_flat (b ∷ bytes) h

-- The mark of a letter.
mark_of : ℕ → Mark
mark_of letter = cond (letter == 102) ByFlags (cond (letter == 101) Expected NotExpected)

mark_back : (m : Mark) → mark_of (mark_letter m) ≡ m
unfolding mark_of
mark_back ByFlags = refl
mark_back Expected = refl
mark_back NotExpected = refl

first_of : List ℕ → ℕ
first_of [] = 0
first_of (b ∷ word) = b

-- The frame of a word of a batch.
frame_of : List ℕ → BatchFrame
frame_of word = record { mark = mark_of (first_of word); bytes = bytes_of (drop 2 word) }

frames_back : (frames : List BatchFrame) → AreFrames AreBytes frames → map frame_of (map frame_word frames) ≡ frames
unfolding frame_of first_of
frames_back [] h = refl
frames_back (f ∷ frames) h =
    let here : frame_of (frame_word f) ≡ f =
    ap (λ m. let g : BatchFrame = record { mark = m; bytes = bytes_of (hex_word f.bytes) } in g) (mark_back f.mark)
    ∙ ap (λ b. let g : BatchFrame = record { mark = f.mark; bytes = b } in g) (bytes_back f.bytes h.0) in
    ap (λ g. g ∷ map frame_of (map frame_word frames)) here ∙ ap (λ gs. f ∷ gs) (frames_back frames h.1)

word_at : ℕ → List (List ℕ) → List ℕ
word_at n [] = []
word_at zero (w ∷ ws) = w
word_at (suc n) (w ∷ ws) = word_at n ws

address_of : List (List ℕ) → SocketAddr
address_of words = record { port = number_after 0 (word_at 1 words); groups = number_after 0 (word_at 2 words) }

address_back : (a : SocketAddr) (keyword : List ℕ) (left : List (List ℕ)) → IsAddress a
    → address_of (keyword ∷ decimal a.port ∷ decimal a.groups ∷ left) ≡ a
unfolding address_of word_at
address_back a keyword left h =
    ap (λ p. let b : SocketAddr = record { port = p; groups = number_after 0 (decimal a.groups) } in b) (value_of a.port h.port)
    ∙ ap (λ g. let b : SocketAddr = record { port = a.port; groups = g } in b) (value_of a.groups h.groups)

-- The address that words of a family and of digits can be of.
host_of : List ℕ → List ℕ → Address
host_of family digits =
    cond (first_of family == 52) (address.V4 (big_endian 0 (bytes_of digits))) (address.V6 (big_endian 0 (bytes_of digits)))

number_of_digits : (a : Address) → IsHost a → big_endian 0 (bytes_of (digits_of a)) ≡ number_in a
number_of_digits a h = ap (big_endian 0) (bytes_back (octets_of a) (octets_bytes a)) ∙ octets_number a h

host_back : (a : Address) → IsHost a → host_of (family_word a) (digits_of a) ≡ a
unfolding host_of first_of
host_back (address.V4 n) h = ap address.V4 (number_of_digits (address.V4 n) h)
host_back (address.V6 n) h = ap address.V6 (number_of_digits (address.V6 n) h)

-- The network that words of a family and of digits with a length can be of: there are 8 digits, or 32.
network_of : List ℕ → List ℕ → Network
network_of family word =
    cond (first_of family == 52)
    (network.V4 (big_endian 0 (bytes_of (take 8 word)), number_after 0 (drop 9 word)))
    (network.V6 (big_endian 0 (bytes_of (take 32 word)), number_after 0 (drop 33 word)))

network_back : (n : Network) → IsNetwork n → network_of (family_word (base_of n)) (prefix_word n) ≡ n
unfolding network_of first_of octets_of
network_back (network.V4 p) h =
    ap (λ b. network.V4 (b, number_after 0 (decimal p.1))) (number_of_digits (address.V4 p.0) h.0)
    ∙ ap (λ l. network.V4 (p.0, l)) (value_of p.1 (omega (arith, h.1)))
network_back (network.V6 p) h =
    ap (λ b. network.V6 (b, number_after 0 (decimal p.1))) (number_of_digits (address.V6 p.0) h.0)
    ∙ ap (λ l. network.V6 (p.0, l)) (value_of p.1 (omega (arith, h.1)))

-- The kind of a record by the tag of its first word.
kind_of : ℕ → Kind
kind_of t =
    cond (t == tag_of ForRecv) ForRecv
    (cond (t == tag_of ForOverrun) ForOverrun
    (cond (t == tag_of ForClose) ForClose
    (cond (t == tag_of ForBatch) ForBatch
    (cond (t == tag_of ForResync) ForResync
    (cond (t == tag_of ForBlock) ForBlock
    (cond (t == tag_of ForUnblock) ForUnblock ForLookup))))))

-- The record of a kind that words can be of.
record_of : Kind → List (List ℕ) → Record
record_of ForRecv words = Recv (address_of words) (bytes_of (word_at 3 words))
record_of ForOverrun words = Overrun
record_of ForClose words = Close
record_of ForBatch words = Batch (address_of words) (map frame_of (drop 3 words))
record_of ForResync words = Resync
record_of ForBlock words = Block (network_of (word_at 1 words) (word_at 2 words))
record_of ForUnblock words = Unblock (network_of (word_at 1 words) (word_at 2 words))
record_of ForLookup words = Lookup (host_of (word_at 1 words) (word_at 2 words))

-- The one record that words can be of.
pub candidate : List (List ℕ) → Record
candidate words = record_of (kind_of (tag words)) words

-- A record is the one that its words can be of.
pub candidate_back : (r : Record) → IsSpelled r → candidate (record_words r) ≡ r
unfolding candidate kind_of record_of word_at
candidate_back (Recv a bytes) h =
    let address = address_back a (codes "recv") (hex_word bytes ∷ []) h.0 in
    ap (λ b. Recv b (bytes_of (hex_word bytes))) address ∙ ap (λ b. Recv a b) (bytes_back bytes h.1)
candidate_back Overrun h = refl
candidate_back Close h = refl
candidate_back (Batch a frames) h =
    let address = address_back a (codes "batch") (map frame_word frames) h.0 in
    ap (λ b. Batch b (map frame_of (map frame_word frames))) address ∙ ap (λ fs. Batch a fs) (frames_back frames h.1)
candidate_back Resync h = refl
candidate_back (Block n) h = ap Block (network_back n h)
candidate_back (Unblock n) h = ap Unblock (network_back n h)
candidate_back (Lookup a) h = ap Lookup (host_back a h)
