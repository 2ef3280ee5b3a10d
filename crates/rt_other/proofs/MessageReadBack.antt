-- Messages that are written are read again, those that were read first among them; and they fit where they are short.
use Rattle.std.proofs.Common.{◌≡◌, ◌≤◌, ◌+◌, ◌++◌, ℕ, Bool, true, false, List, [], ◌∷◌, length, nat_lt, drop, Result, Ok, Err, refl, sym, subst, arith, length-append}
use Rattle.std.specs.Prelude.{nat_le, ◌&&◌, if◌then◌else◌}
use Rattle.std.specs.List.{AllByRecursion, list_all}
use Rattle.std.specs.Cmp.Derive.{both_true}
use Rattle.std.proofs.lemmas.Bool.{le-ltb, le-leb, leb-true}
use Rattle.std.proofs.lemmas.List.{drop_at}
use Rattle.nl_core.specs.declared.error.DecodeError.{DecodeError}
use Rattle.nl_core.specs.declared.error.DecodeError.TheVariants.{TooSmall}
use Rattle.nl_core.specs.Numbers.{AreBytes}
use Rattle.nl_core.specs.Reading.{◌>>=◌, sized}
use Rattle.nl_core.specs.Attribute.{is_checked, attributes, attributes_text, attributes_fit}
use Rattle.nl_core.specs.AttributeReadBack.{ReadsAgain}
use Rattle.nl_core.proofs.Bytes.{drop-bytes}
use Rattle.nl_core.proofs.AttributeReadBack.{attributes-again, fitting-again, each-read}
use Rattle.nl_core.proofs.FlatLists.{and_true}
use Rattle.nl_core.proofs.Lengths.{fit-parts, fits_where_short}
use Rattle.rt_other.specs.declared.message.Message.{Message}
use Rattle.rt_other.specs.Message.{text, fits, message_at, IsShort, FitsWhereShort}
use Rattle.rt_other.specs.MessageForm.{MessageForm, MessagesReadBack, ReadMessagesReadBack}
use Rattle.rt_other.specs.RouteAttributeLaws.{made-ok}

-- What has to hold of a form so that its messages read back.
pub record FormLaws {H A : Type 0} (f : MessageForm H A) : Type 0 where
  pub header_length : (h : H) → length (f.header_text h) ≡ f.len
  pub header_again : (h : H) (more : List ℕ) → f.HeaderReadsBack h → f.header_at (f.header_text h ++ more) ≡ h
  pub header_read : (bytes : List ℕ) → AreBytes bytes → f.HeaderReadsBack (f.header_at bytes)
  pub attribute_again : (h : H) (x : A) → f.AttributeReadsBack h x → length (f.value x) ≤ 65531
      → ReadsAgain f.kind f.value (f.attribute_at h) x
  pub attribute_read : (h : H) (bytes : List ℕ) (x : A) → AreBytes bytes → is_checked bytes ≡ true
      → f.attribute_at h bytes ≡ Ok x → f.AttributeReadsBack h x

-- ---- written and read

-- Messages of a form read back, where their headers and attributes do.
pub messages-again : {H A : Type 0} (f : MessageForm H A) → FormLaws f → MessagesReadBack f
messages-again {H} {A} f laws m fit back each =
    let h = m.header in
    let rest = attributes_text f.kind f.value m.attributes in
    let bytes = f.header_text h ++ rest in
    let fit_all = (and_true (attributes_fit f.kind f.value m.attributes) _ fit).0 in
    let one = fitting-again f.kind f.value (f.attribute_at h) (f.AttributeReadsBack h) (laws.attribute_again h) m.attributes
    (fit-parts f.kind f.value m.attributes fit_all).0 each in
    let room : nat_lt (length bytes) f.len ≡ false =
    le-ltb _ _ (omega (arith, length-append (f.header_text h) rest, laws.header_length h)) in
    rw (
      room,
      laws.header_again h rest back,
      drop_at (f.header_text h) rest f.len (laws.header_length h),
      attributes-again f.kind f.value (f.attribute_at h) m.attributes one,
    ) refl

-- ---- read

-- A header that is long enough, and what is read after it.
after-header : {H A : Type 0} (short : Bool) (e : DecodeError) (h : H) (next : H → Result A DecodeError) (a : A)
    → ((if short then Err e else Ok h) >>= next) ≡ Ok a → next h ≡ Ok a
after-header true e h next a is = absurd cc
after-header false e h next a is = is

-- A message that was read from bytes has a header and attributes that read back.
pub read-parts : {H A : Type 0} (f : MessageForm H A) → FormLaws f → (bytes : List ℕ) (m : Message H A) → AreBytes bytes
    → message_at f.len f.header_at f.attribute_at bytes ≡ Ok m
    → f.HeaderReadsBack m.header × AllByRecursion (f.AttributeReadsBack m.header) m.attributes
read-parts {H} {A} f laws bytes m are is =
    let h = f.header_at bytes in
    let rest = drop f.len bytes in
    let make : List A → Message H A = λ a. record { header = h; attributes = a } in
    let next : H → Result (Message H A) DecodeError =
    λ g. attributes (f.attribute_at g) rest >>= λ a. Ok (record { header = g; attributes = a }) in
    let after = after-header (nat_lt (length bytes) f.len) (TooSmall (length bytes) f.len) h next m is in
    let made = made-ok (attributes (f.attribute_at h) rest) make m after in
    let Back : Message H A → Type 0 =
    λ n. f.HeaderReadsBack n.header × AllByRecursion (f.AttributeReadsBack n.header) n.attributes in
    let each = each-read (f.AttributeReadsBack h) (f.attribute_at h) (laws.attribute_read h) made.0 rest
    (drop-bytes f.len bytes are) made.1 in
    subst Back made.2 (laws.header_read bytes are, each)

-- Messages of a form that were read from bytes and fit read back.
pub read-messages-again : {H A : Type 0} (f : MessageForm H A) → FormLaws f → ReadMessagesReadBack f
read-messages-again f laws bytes m are is fit =
    let parts = read-parts f laws bytes m are is in
    messages-again f laws m fit parts.0 parts.1

-- ---- fitting

-- A message fits exactly where it is short.
pub messages-fit : {H A : Type 0} (header : H → List ℕ) (kind : A → ℕ) (value : A → List ℕ) → FitsWhereShort header kind value
messages-fit header kind value m =
    let rest = attributes_text kind value m.attributes in
    let both = fits_where_short kind value m.attributes in
    let longer = length-append (header m.header) rest in (
      λ fit.
          let parts = and_true (attributes_fit kind value m.attributes) (nat_le (16 + length (text header kind value m)) 4294967295) fit in
          record { attributes = (both.0 parts.0).attributes; frame = leb-true _ _ parts.1 },
      λ short.
          let frame : 16 + length rest ≤ 4294967295 = omega (arith, short.frame, longer) in
          both_true (both.1 (record { attributes = short.attributes; frame = frame })) (le-leb _ _ short.frame),
    )
