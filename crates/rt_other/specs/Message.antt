-- Messages: a header and the attributes after it.
use Rattle.std.specs.Prelude.{◌≡◌, ◌+◌, ◌≤◌, ◌↔◌, ◌&&◌, ℕ, Bool, true, nat_le, List, ◌++◌, length, drop, Result, Ok}
use Rattle.nl_core.specs.declared.error.DecodeError.{DecodeError}
use Rattle.nl_core.specs.Reading.{◌>>=◌, sized}
use Rattle.nl_core.specs.Attribute.{attributes, attributes_text, attributes_fit, NoneTooLong}
use Rattle.rt_other.specs.declared.message.Message.{Message}

-- The bytes of a message: its header's, then those of its attributes.
abbrev pub text : {H A : Type 0} → (H → List ℕ) → (A → ℕ) → (A → List ℕ) → Message H A → List ℕ
text header kind value m = header m.header ++ attributes_text kind value m.attributes

-- Whether each attribute fits, and the message a frame.
abbrev pub fits : {H A : Type 0} → (H → List ℕ) → (A → ℕ) → (A → List ℕ) → Message H A → Bool
fits header kind value m =
    attributes_fit kind value m.attributes && nat_le (16 + length (text header kind value m)) 4_294_967_295

-- The message of bytes: a header of a length, then attributes that are read by it; or the first cause from the left why
-- they are none.
abbrev pub message_at : {H A : Type 0} → ℕ → (List ℕ → H) → (H → List ℕ → Result A DecodeError) → List ℕ → Result (Message H A) DecodeError
message_at len header read bytes =
    sized len bytes (header bytes) >>= λ h. attributes (read h) (drop len bytes) >>= λ a. Ok (record { header = h; attributes = a })

-- No attribute of a message at any depth is longer than 65,535 bytes, and its frame has at most 4,294,967,295.
pub record IsShort {H A : Type 0} (header : H → List ℕ) (kind : A → ℕ) (value : A → List ℕ) (m : Message H A) : Type 0 where
  pub attributes : NoneTooLong kind value m.attributes
  pub frame : 16 + length (text header kind value m) ≤ 4_294_967_295

-- A message fits exactly where it is short.
abbrev pub FitsWhereShort : {H A : Type 0} → (H → List ℕ) → (A → ℕ) → (A → List ℕ) → Type 0
FitsWhereShort {H} {A} header kind value = (m : Message H A) → (fits header kind value m ≡ true) ↔ IsShort header kind value m
