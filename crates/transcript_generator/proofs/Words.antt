-- The lines of addresses, by their octets.
use Rattle.std.proofs.Common.{◌≡◌, ℕ, List, [], ◌∷◌, ◌++◌, codes, ap}
use Rattle.std.specs.Fmt.{decimal}
use Rattle.std.specs.Int.{w32, to_be_bytes}
use Rattle.session_model.specs.declared.network.Address.TheVariants as address
use Rattle.session_model.specs.declared.network.Network.TheVariants as network
use Rattle.session_model.specs.declared.transcript.Record.TheVariants.{Block, Lookup}
use Rattle.session_model.specs.Lines.{hex_word, line}
use Rattle.session_model.specs.Networks.{octets_of, slash}
use Rattle.session_model.specs.Transcript.{record_line}

-- The line of a look-up.
pub lookup_line : (octets : List ℕ) (number : ℕ) → octets ≡ to_be_bytes w32 number
    → line (codes "lookup" ∷ codes "4" ∷ hex_word octets ∷ []) ≡ record_line (Lookup (address.V4 number))
unfolding octets_of
lookup_line octets number is = ap (λ o. line (codes "lookup" ∷ codes "4" ∷ hex_word o ∷ [])) is

-- The line of a blocked network.
pub block_line : (octets : List ℕ) (number length : ℕ) → octets ≡ to_be_bytes w32 number
    → line (codes "block" ∷ codes "4" ∷ (hex_word octets ++ slash ∷ decimal length) ∷ []) ≡ record_line (Block (network.V4 (number, length)))
unfolding octets_of
block_line octets number length is = ap (λ o. line (codes "block" ∷ codes "4" ∷ (hex_word o ++ slash ∷ decimal length) ∷ [])) is
