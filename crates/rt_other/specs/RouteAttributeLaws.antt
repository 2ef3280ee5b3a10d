-- Attributes of routes read back.
use Rattle.std.proofs.Common.{◌≡◌, ◌≢◌, ◌==◌, ◌≤◌, ◌<◌, ◌^◌, ◌%◌, ℕ, Bool, true, false, List, length, Result, Ok, Err, refl, sym, subst, arith}
use Rattle.std.specs.Prelude.{if◌then◌else◌}
use Rattle.std.proofs.lemmas.Bool.{ne_eqb, eqb-false}
use Rattle.nl_core.specs.declared.error.DecodeError.{DecodeError}
use Rattle.nl_core.specs.declared.default_nla.DefaultNla.{DefaultNla}
use Rattle.nl_core.specs.Numbers.{AreBytes}
use Rattle.nl_core.specs.Reading.{◌>>=◌, number32}
use Rattle.nl_core.specs.Attribute.{is_checked, kind_of, value_of, default_at}
use Rattle.nl_core.specs.AttributeReadBack.{ReadsAgain}
use Rattle.nl_core.proofs.Bytes.{u16-below}
use Rattle.nl_core.proofs.NumberReadBack.{number32-le32, number32-below, exactly-ok}
use Rattle.nl_core.proofs.AttributeReadBack.{value-bytes}
use Rattle.rt_other.specs.declared.address_family.AddressFamily.{AddressFamily}
use Rattle.rt_other.specs.declared.address_family.AddressFamily.TheVariants as family
use Rattle.rt_other.specs.declared.route_attribute.RouteAddress.{RouteAddress}
use Rattle.rt_other.specs.declared.route_attribute.RouteAddress.TheVariants as address
use Rattle.rt_other.specs.declared.route_attribute.RouteAttribute.{RouteAttribute}
use Rattle.rt_other.specs.declared.route_attribute.RouteAttribute.TheVariants.{Destination, Oif, Gateway, Priority, Table, Other}
use Rattle.rt_other.specs.RouteAttribute.{address_text, address_at, IsOfFamily, kind, value, attribute_at, ReadsBack}

-- ---- written and read

address-again : (f : AddressFamily) (a : RouteAddress) → IsOfFamily f a → address_at f (address_text a) ≡ Ok a
address-again family.Inet (address.Inet a) h = rw h refl
address-again family.Inet (address.Inet6 a) h = absurd h
address-again family.Inet (address.Other b) h = absurd h
address-again family.Inet6 (address.Inet a) h = absurd h
address-again family.Inet6 (address.Inet6 a) h = rw h refl
address-again family.Inet6 (address.Other b) h = absurd h
address-again family.Unspec (address.Inet a) h = absurd h
address-again family.Unspec (address.Inet6 a) h = absurd h
address-again family.Unspec (address.Other b) h = refl
address-again family.Local (address.Inet a) h = absurd h
address-again family.Local (address.Inet6 a) h = absurd h
address-again family.Local (address.Other b) h = refl
address-again family.Unix (address.Inet a) h = absurd h
address-again family.Unix (address.Inet6 a) h = absurd h
address-again family.Unix (address.Other b) h = refl
address-again (family.Other n) (address.Inet a) h = absurd h
address-again (family.Other n) (address.Inet6 a) h = absurd h
address-again (family.Other n) (address.Other b) h = refl

-- An attribute that reads back under a family does so, where its length fits its field.
pub attribute-again : (f : AddressFamily) (x : RouteAttribute) → ReadsBack f x → length (value x) ≤ 65531
    → ReadsAgain kind value (attribute_at f) x
attribute-again f (Destination a) h short =
    record { kind_fits = omega arith; value_fits = short; again = λ bytes r k v. rw (k, v, address-again f a h) refl }
attribute-again f (Oif n) h short =
    record { kind_fits = omega arith; value_fits = short; again = λ bytes r k v. rw (k, v, number32-le32 n h) refl }
attribute-again f (Gateway a) h short =
    record { kind_fits = omega arith; value_fits = short; again = λ bytes r k v. rw (k, v, address-again f a h) refl }
attribute-again f (Priority n) h short =
    record { kind_fits = omega arith; value_fits = short; again = λ bytes r k v. rw (k, v, number32-le32 n h) refl }
attribute-again f (Table n) h short =
    record { kind_fits = omega arith; value_fits = short; again = λ bytes r k v. rw (k, v, number32-le32 n h) refl }
attribute-again f (Other n) h short =
    let k1 = ne_eqb (n.kind % 16384) 1 h.1 in
    let k4 = ne_eqb (n.kind % 16384) 4 h.2 in
    let k5 = ne_eqb (n.kind % 16384) 5 h.3 in
    let k6 = ne_eqb (n.kind % 16384) 6 h.4 in
    let k15 = ne_eqb (n.kind % 16384) 15 h.5 in
    record { kind_fits = omega (arith, h.0); value_fits = short; again = λ bytes r k v. rw (k, k1, k4, k5, k6, k15, r, v) refl }

-- ---- read

-- What was made of what was read.
pub made-ok : {A B : Type 0} (r : Result A DecodeError) (make : A → B) (b : B) → (r >>= λ a. Ok (make a)) ≡ Ok b
    → (a : A) × (r ≡ Ok a) × (make a ≡ b)
made-ok (Ok a) make b is = (a, refl, cc)
made-ok (Err e) make b is = absurd cc

same-other : (bytes : List ℕ) (a : RouteAddress) → address_at family.Unspec bytes ≡ Ok a → address.Other bytes ≡ a
same-other bytes a is = cc

-- An address that was read under a family is one of it.
address-read : (f : AddressFamily) (bytes : List ℕ) (a : RouteAddress) → address_at f bytes ≡ Ok a → IsOfFamily f a
address-read family.Inet bytes a is =
    let both = exactly-ok 4 bytes (address.Inet (record { 0 = bytes })) a is in
    subst (λ (x : RouteAddress). IsOfFamily family.Inet x) both.1 both.0
address-read family.Inet6 bytes a is =
    let both = exactly-ok 16 bytes (address.Inet6 (record { 0 = bytes })) a is in
    subst (λ (x : RouteAddress). IsOfFamily family.Inet6 x) both.1 both.0
address-read family.Unspec bytes a is = subst (λ (x : RouteAddress). IsOfFamily family.Unspec x) (same-other bytes a is) tt
address-read family.Local bytes a is = subst (λ (x : RouteAddress). IsOfFamily family.Local x) (same-other bytes a is) tt
address-read family.Unix bytes a is = subst (λ (x : RouteAddress). IsOfFamily family.Unix x) (same-other bytes a is) tt
address-read (family.Other n) bytes a is =
    subst (λ (x : RouteAddress). IsOfFamily (family.Other n) x) (same-other bytes a is) tt

address-attribute : (f : AddressFamily) (v : List ℕ) (make : RouteAddress → RouteAttribute) (x : RouteAttribute)
    → ((a : RouteAddress) → IsOfFamily f a → ReadsBack f (make a)) → (address_at f v >>= λ a. Ok (make a)) ≡ Ok x → ReadsBack f x
address-attribute f v make x back is =
    let made = made-ok (address_at f v) make x is in
    subst (ReadsBack f) made.2 (back made.0 (address-read f v made.0 made.1))

number-attribute : (f : AddressFamily) (v : List ℕ) (make : ℕ → RouteAttribute) (x : RouteAttribute) → AreBytes v
    → ((n : ℕ) → n < 2 ^ 32 → ReadsBack f (make n)) → (number32 v >>= λ n. Ok (make n)) ≡ Ok x → ReadsBack f x
number-attribute f v make x are back is =
    let made = made-ok (number32 v) make x is in
    subst (ReadsBack f) made.2 (back made.0 (number32-below v made.0 are made.1))

-- What a type's tests, a value and another attribute are read as.
abbrev chosen : AddressFamily → (b1 b4 b5 b6 b15 : Bool) → List ℕ → RouteAttribute → Result RouteAttribute DecodeError
chosen f b1 b4 b5 b6 b15 v other =
    if b1 then (address_at f v >>= λ a. Ok (Destination a))
    else if b4 then (number32 v >>= λ n. Ok (Oif n))
    else if b5 then (address_at f v >>= λ a. Ok (Gateway a))
    else if b6 then (number32 v >>= λ n. Ok (Priority n))
    else if b15 then (number32 v >>= λ n. Ok (Table n))
    else Ok other

attribute-read-if : (f : AddressFamily) (k : ℕ) (v : List ℕ) (n : DefaultNla) (x : RouteAttribute) (b1 b4 b5 b6 b15 : Bool)
    → AreBytes v → n.kind < 2 ^ 16 → n.kind % 16384 ≡ k
    → (k == 1) ≡ b1 → (k == 4) ≡ b4 → (k == 5) ≡ b5 → (k == 6) ≡ b6 → (k == 15) ≡ b15
    → chosen f b1 b4 b5 b6 b15 v (Other n) ≡ Ok x → ReadsBack f x
attribute-read-if f k v n x true b4 b5 b6 b15 are range low e1 e4 e5 e6 e15 is =
    address-attribute f v (λ a. Destination a) x (λ a back. back) is
attribute-read-if f k v n x false true b5 b6 b15 are range low e1 e4 e5 e6 e15 is =
    number-attribute f v (λ m. Oif m) x are (λ m back. back) is
attribute-read-if f k v n x false false true b6 b15 are range low e1 e4 e5 e6 e15 is =
    address-attribute f v (λ a. Gateway a) x (λ a back. back) is
attribute-read-if f k v n x false false false true b15 are range low e1 e4 e5 e6 e15 is =
    number-attribute f v (λ m. Priority m) x are (λ m back. back) is
attribute-read-if f k v n x false false false false true are range low e1 e4 e5 e6 e15 is =
    number-attribute f v (λ m. Table m) x are (λ m back. back) is
attribute-read-if f k v n x false false false false false are range low e1 e4 e5 e6 e15 is =
    let same : Other n ≡ x = cc in
    let none : ReadsBack f (Other n) =
    rw low (range, eqb-false k 1 e1, eqb-false k 4 e4, eqb-false k 5 e5, eqb-false k 6 e6, eqb-false k 15 e15) in
    subst (ReadsBack f) same none

-- An attribute that was read from bytes under a family reads back under it.
pub attribute-read : (f : AddressFamily) (bytes : List ℕ) (x : RouteAttribute) → AreBytes bytes → is_checked bytes ≡ true
    → attribute_at f bytes ≡ Ok x → ReadsBack f x
attribute-read f bytes x are checked is =
    let k = kind_of bytes in
    attribute-read-if f k (value_of bytes) (default_at bytes) x (k == 1) (k == 4) (k == 5) (k == 6) (k == 15)
    (value-bytes bytes are) (u16-below bytes 2 are) refl refl refl refl refl refl is
