-- How a word is spelled that is written.
use Rattle.std.specs.Prelude.{◌≡◌, ℕ, Bool, true, false, List, ◌∷◌, ◌++◌, length, Option, Some, None}
use Rattle.std.specs.Fmt.{decimal}
use Rattle.session_model.specs.Lines.{hex_word}
use Rattle.session_model.specs.Networks.{slash}
use Rattle.nl_core.specs.Frames.{payload_text, payload_fits}
use Rattle.nl_core.specs.declared.message.NetlinkPayload.{NetlinkPayload}
use Rattle.transcript_lines.specs.declared.spelling.Word.{Word}
use Rattle.transcript_lines.specs.declared.spelling.Word.TheVariants.{Plain, Number, Hex, Prefix}

-- The bytes of a word.
abbrev pub spelled : Word → List ℕ
spelled (Plain bytes) = bytes.now
spelled (Number n) = decimal n
spelled (Hex bytes) = hex_word bytes.now
spelled (Prefix octets length) = hex_word octets.now ++ slash ∷ decimal length

-- This is how many bytes a payload has that fits, and None where it doesn't.
abbrev pub Measures : {M : Type 0} → (M → List ℕ) → (M → Bool) → NetlinkPayload M → Option ℕ → Type 0
Measures text fits p (Some len) = (payload_fits text fits p ≡ true) × (len ≡ length (payload_text text p))
Measures text fits p None = payload_fits text fits p ≡ false
