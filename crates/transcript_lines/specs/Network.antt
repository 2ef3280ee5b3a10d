-- Which address and which network words spell.
use Rattle.std.specs.Prelude.{◌≡◌, ◌≢◌, ◌==◌, ℕ, Bool, true, false, List, [], ◌∷◌, length, codes, Option, Some, None}
use Rattle.std.specs.Borrow.{Bor}
use Rattle.std.specs.List.{All}
use Rattle.session_model.specs.declared.network.Address.{Address}
use Rattle.session_model.specs.declared.network.Network.{Network}
use Rattle.session_model.specs.Lines.{hex_word}
use Rattle.session_model.specs.Transcript.{AreBytes}
use Rattle.session_model.specs.Networks.{IsHost, IsNetwork, address_words, base_of, family_word, length_of, network_words, octets_of, slash}
use Rattle.transcript_lines.specs.declared.network.Family.{Family}
use Rattle.transcript_lines.specs.declared.network.Family.TheVariants.{V4, V6}

-- The word of a family.
abbrev pub word_of : Family → List ℕ
word_of V4 = codes "4"
word_of V6 = codes "6"

-- How many octets an address of a family has.
abbrev pub count_in : Family → ℕ
count_in V4 = 4
count_in V6 = 16

-- This is the family whose word this is, and None where no family has it.
abbrev pub IsFamilyOf : List ℕ → Option Family → Type 0
IsFamilyOf word (Some family) = word ≡ word_of family
IsFamilyOf word None = (family : Family) → word ≢ word_of family

-- These are all the words, and None where there aren't two.
abbrev pub AreTwoWords : List (List ℕ) → Option (Bor (List ℕ) × Bor (List ℕ)) → Type 0
AreTwoWords words (Some pair) = words ≡ pair.0.now ∷ pair.1.now ∷ []
AreTwoWords words None = (first second : List ℕ) → words ≢ first ∷ second ∷ []

-- No byte is a slash.
abbrev pub HasNoSlash : List ℕ → Type 0
HasNoSlash word = All (λ b. (b == slash) ≡ false) word

-- This is the address of the family with these octets, and None where no address of the family has them.
abbrev pub AreOctetsOf : List ℕ → List ℕ → Option Address → Type 0
AreOctetsOf family octets (Some a) = IsHost a × (family ≡ family_word a) × (octets ≡ octets_of a)
AreOctetsOf family octets None = (a : Address) → IsHost a → family ≡ family_word a → octets ≢ octets_of a

-- This is the address that the words spell, and None where they spell none.
abbrev pub IsHostOf : List (List ℕ) → Option Address → Type 0
IsHostOf words (Some a) = IsHost a × (words ≡ address_words a)
IsHostOf words None = (a : Address) → IsHost a → words ≢ address_words a

-- This is the network that the words spell, and None where they spell none.
abbrev pub IsNetworkOf : List (List ℕ) → Option Network → Type 0
IsNetworkOf words (Some n) = IsNetwork n × (words ≡ network_words n)
IsNetworkOf words None = (n : Network) → IsNetwork n → words ≢ network_words n

-- This is the network of the address and the length, and None where the address's family has no such length.
abbrev pub IsNetworkAt : Address → ℕ → Option Network → Type 0
IsNetworkAt base length (Some n) = IsNetwork n × (base ≡ base_of n) × (length ≡ length_of n)
IsNetworkAt base length None = (n : Network) → IsNetwork n → base ≡ base_of n → length ≢ length_of n

-- These octets are what the digits spell; or else the digits don't spell as many.
abbrev pub SpellOctets : List ℕ → List ℕ → Bool → Type 0
SpellOctets digits octets true = AreBytes octets × (digits ≡ hex_word octets)
SpellOctets digits octets false = (bytes : List ℕ) → AreBytes bytes → length bytes ≡ length octets → digits ≢ hex_word bytes
