-- How messages of one kind stand in bytes, and what is asked of those that read back.
use Rattle.std.specs.Prelude.{◌≡◌, ℕ, true, List, Result, Ok}
use Rattle.std.specs.List.{AllByRecursion}
use Rattle.nl_core.specs.declared.error.DecodeError.{DecodeError}
use Rattle.nl_core.specs.Numbers.{AreBytes}
use Rattle.rt_other.specs.Message.{text, fits, message_at}
use Rattle.rt_other.specs.declared.message.Message.{Message}

-- The length of a header, its bytes, and what bytes are read as one; the type and the value of an attribute, and what bytes
-- are read as one after a header; the headers, and the attributes after a header, that read back.
pub record MessageForm (H A : Type 0) : Type 1 where
  pub len : ℕ
  pub header_text : H → List ℕ
  pub header_at : List ℕ → H
  pub kind : A → ℕ
  pub value : A → List ℕ
  pub attribute_at : H → List ℕ → Result A DecodeError
  pub HeaderReadsBack : H → Type 0
  pub AttributeReadsBack : H → A → Type 0

-- What a message's bytes are read as.
abbrev pub again : {H A : Type 0} → MessageForm H A → Message H A → Result (Message H A) DecodeError
again f m = message_at f.len f.header_at f.attribute_at (text f.header_text f.kind f.value m)

-- Each message that fits reads back from its bytes, where its header and its attributes do.
abbrev pub MessagesReadBack : {H A : Type 0} → MessageForm H A → Type 0
MessagesReadBack {H} {A} f =
    (m : Message H A) → fits f.header_text f.kind f.value m ≡ true → f.HeaderReadsBack m.header
    → AllByRecursion (f.AttributeReadsBack m.header) m.attributes → again f m ≡ Ok m

-- Each message that was read from bytes and fits reads back from its bytes.
abbrev pub ReadMessagesReadBack : {H A : Type 0} → MessageForm H A → Type 0
ReadMessagesReadBack {H} {A} f =
    (bytes : List ℕ) (m : Message H A) → AreBytes bytes → message_at f.len f.header_at f.attribute_at bytes ≡ Ok m
    → fits f.header_text f.kind f.value m ≡ true → again f m ≡ Ok m
