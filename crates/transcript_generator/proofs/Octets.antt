-- The bytes of a generated transcript are bytes, and its numbers are in range.
use Rattle.std.proofs.Common.{◌≡◌, ◌+◌, ◌-◌, ◌%◌, ◌^◌, ◌<◌, ◌&&◌, ℕ, Bool, true, false, zero, suc, List, [], ◌∷◌, ◌++◌, nat_lt, refl, arith}
use Rattle.std.specs.List.{list_all}
use Rattle.std.proofs.lemmas.Bool.Decides.{nat_tests}
use Rattle.std.specs.Int.{w32, byte_at, bytes_high_first, bytes_low_first, to_be_bytes, to_le_bytes}
use Rattle.session_model.specs.Transcript.{AreBytes}
use Rattle.transcript_generator.specs.Generated.{address_at, leading_bits, length_at, header, route_header, attribute, route_frame, done_frame}

-- Bytes after bytes are bytes.
pub bytes-append : (xs ys : List ℕ) → AreBytes xs → AreBytes ys → AreBytes (xs ++ ys)
bytes-append [] ys a b = b
bytes-append (x ∷ xs) ys a b = (a.0, bytes-append xs ys a.1 b)

byte : (i n : ℕ) → byte_at i n < 256
byte zero n = omega arith
byte (suc i) n = omega arith

high : (k n : ℕ) → AreBytes (bytes_high_first k n)
high zero n = tt
high (suc k) n = (byte k n, high k n)

low : (i k n : ℕ) → AreBytes (bytes_low_first i k n)
low i zero n = tt
low i (suc k) n = (byte i n, low (suc i) k n)

-- Numbers that are tested are bytes.
small : (bs : List ℕ) → list_all (λ b. nat_lt b 256) bs ≡ true → AreBytes bs
small [] h = tt
small (b ∷ bs) h = (below b (left (nat_lt b 256) _ h), small bs (right (nat_lt b 256) _ h))
  where
    below : (b : ℕ) → nat_lt b 256 ≡ true → b < 256
    below b h = grind (arith, nat_tests)

    left : (p q : Bool) → (p && q) ≡ true → p ≡ true
    left true q h = refl
    left false q h = h

    right : (p q : Bool) → (p && q) ≡ true → q ≡ true
    right true q h = h
    right false q h = let never : false ≡ true = h in cc

of_attribute : (kind : ℕ) (value : List ℕ) → AreBytes (attribute kind []) → AreBytes value → AreBytes (attribute kind value)
of_attribute kind value k v = bytes-append (attribute kind []) value k v

-- The frame of a route has bytes.
pub route-bytes : (i : ℕ) → AreBytes (route_frame i)
route-bytes i =
    let network = leading_bits (address_at i) (length_at i) in
    let link = 1 + i % 16 in
    let own = route_header (length_at i) in
    let destination = attribute 1 (to_be_bytes w32 network) in
    let oif = attribute 4 (to_le_bytes w32 link) in
    let priority = attribute 6 (to_le_bytes w32 (i % 4)) in
    let own_bytes : AreBytes own = (omega arith, (omega arith, small (0 ∷ 0 ∷ 254 ∷ 0 ∷ 0 ∷ 1 ∷ 0 ∷ 0 ∷ 0 ∷ 0 ∷ []) refl)) in
    let destination_bytes = of_attribute 1 (to_be_bytes w32 network) (small (attribute 1 []) refl) (high 4 network) in
    let oif_bytes = of_attribute 4 (to_le_bytes w32 link) (small (attribute 4 []) refl) (low 0 4 link) in
    let priority_bytes = of_attribute 6 (to_le_bytes w32 (i % 4)) (small (attribute 6 []) refl) (low 0 4 (i % 4)) in
    bytes-append (header 52 24 ++ own ++ destination ++ oif) priority
    (bytes-append (header 52 24 ++ own ++ destination) oif
    (bytes-append (header 52 24 ++ own) destination (bytes-append (header 52 24) own (small (header 52 24) refl) own_bytes) destination_bytes)
    oif_bytes)
    priority_bytes

-- The frame of the end has bytes.
pub done-bytes : AreBytes done_frame
done-bytes = small done_frame refl

-- An address is one of 32 bits.
pub address-fits : (i : ℕ) → address_at i < 2 ^ 32
address-fits i = omega arith

-- So is what is left of it.
pub leading-fits : (i length : ℕ) → leading_bits (address_at i) length < 2 ^ 32
leading-fits i length = below (address_at i) (address_at i % 2 ^ (32 - length)) (address-fits i)
  where
    below : (a b : ℕ) → a < 2 ^ 32 → a - b < 2 ^ 32
    below a b h = omega (arith, h)
