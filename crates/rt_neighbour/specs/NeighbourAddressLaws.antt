-- Addresses of neighbours read back.
use Rattle.std.proofs.Common.{◌≡◌, ℕ, List, Ok, refl, subst}
use Rattle.nl_core.specs.Numbers.{AreBytes}
use Rattle.nl_core.proofs.NumberReadBack.{exactly-ok}
use Rattle.rt_other.specs.declared.address_family.AddressFamily.{AddressFamily}
use Rattle.rt_other.specs.declared.address_family.AddressFamily.TheVariants as family
use Rattle.rt_neighbour.specs.declared.address.NeighbourAddress.{NeighbourAddress}
use Rattle.rt_neighbour.specs.declared.address.NeighbourAddress.TheVariants.{Inet, Inet6, Other}
use Rattle.rt_neighbour.specs.NeighbourAddress.{address_text, address_at, IsOfFamily}

-- An address of a family reads back under it.
pub address-again : (f : AddressFamily) (a : NeighbourAddress) → IsOfFamily f a → address_at f (address_text a) ≡ Ok a
address-again family.Inet (Inet a) h = rw h refl
address-again family.Inet (Inet6 a) h = absurd h
address-again family.Inet (Other b) h = absurd h
address-again family.Inet6 (Inet a) h = absurd h
address-again family.Inet6 (Inet6 a) h = rw h refl
address-again family.Inet6 (Other b) h = absurd h
address-again family.Unspec (Inet a) h = absurd h
address-again family.Unspec (Inet6 a) h = absurd h
address-again family.Unspec (Other b) h = refl
address-again family.Local (Inet a) h = absurd h
address-again family.Local (Inet6 a) h = absurd h
address-again family.Local (Other b) h = refl
address-again family.Unix (Inet a) h = absurd h
address-again family.Unix (Inet6 a) h = absurd h
address-again family.Unix (Other b) h = refl
address-again (family.Other n) (Inet a) h = absurd h
address-again (family.Other n) (Inet6 a) h = absurd h
address-again (family.Other n) (Other b) h = refl

same_other : (bytes : List ℕ) (a : NeighbourAddress) → address_at family.Unspec bytes ≡ Ok a → Other bytes ≡ a
same_other bytes a is = cc

-- An address that was read under a family is one of it.
pub address-read : (f : AddressFamily) (bytes : List ℕ) (a : NeighbourAddress) → AreBytes bytes → address_at f bytes ≡ Ok a → IsOfFamily f a
address-read family.Inet bytes a are is =
    let both = exactly-ok 4 bytes (Inet (record { 0 = bytes })) a is in
    subst (λ (x : NeighbourAddress). IsOfFamily family.Inet x) both.1 both.0
address-read family.Inet6 bytes a are is =
    let both = exactly-ok 16 bytes (Inet6 (record { 0 = bytes })) a is in
    subst (λ (x : NeighbourAddress). IsOfFamily family.Inet6 x) both.1 both.0
address-read family.Unspec bytes a are is = subst (λ (x : NeighbourAddress). IsOfFamily family.Unspec x) (same_other bytes a is) tt
address-read family.Local bytes a are is = subst (λ (x : NeighbourAddress). IsOfFamily family.Local x) (same_other bytes a is) tt
address-read family.Unix bytes a are is = subst (λ (x : NeighbourAddress). IsOfFamily family.Unix x) (same_other bytes a is) tt
address-read (family.Other n) bytes a are is =
    subst (λ (x : NeighbourAddress). IsOfFamily (family.Other n) x) (same_other bytes a is) tt
