-- The last attribute of a kind, one attribute after another.
use Rattle.std.proofs.Common.{◌≡◌, ℕ, ◌+◌, ◌<◌, List, [], ◌∷◌, ◌++◌, length, take, get_or, Option, Some, None, refl, sym, ap, subst, ◌∙◌, add-one}
use Rattle.std.proofs.Math.Seq.{take-suc}
use Rattle.std.specs.Option.{option_or, option_copied}
use Rattle.rt_other.specs.declared.route_attribute.RouteAttribute.{RouteAttribute}
use Rattle.mirror_model.specs.RouteChanges.{last_of, destination_in, gateway_in, oif_in, priority_in, table_in}
use Rattle.route_table.specs.declared.change.LastAttributes.{LastAttributes}
use Rattle.route_table.specs.Changes.{HasLastOf}

or_assoc : {A : Type 0} (a b c : Option A) → option_or (option_or a b) c ≡ option_or a (option_or b c)
or_assoc None b c = refl
or_assoc (Some x) b c = refl

or_none : {A : Type 0} (a : Option A) → option_or a None ≡ a
or_none None = refl
or_none (Some x) = refl

-- One attribute more is the last one, where it is of the kind.
pub last_more : {A : Type 0} (says : RouteAttribute → Option A) (front : List RouteAttribute) (a : RouteAttribute)
    → last_of says (front ++ a ∷ []) ≡ option_or (says a) (last_of says front)
last_more says [] a = sym (or_none (says a))
last_more says (b ∷ front) a = ap (λ o. option_or o (says b)) (last_more says front a) ∙ or_assoc (says a) (last_of says front) (says b)

-- One attribute more changes what its kind says, and nothing else.
pub one_more : (all : List RouteAttribute) (i : ℕ) (x a : RouteAttribute) (old last new : LastAttributes) → i < length all → x ≡ get_or all i x → x ≡ a
    → HasLastOf (take i all) old → last ≡ new → option_copied new.destination ≡ option_or (destination_in a) (option_copied old.destination)
    → option_copied new.gateway ≡ option_or (gateway_in a) (option_copied old.gateway) → new.oif ≡ option_or (oif_in a) old.oif
    → new.priority ≡ option_or (priority_in a) old.priority → new.table ≡ option_or (table_in a) old.table → HasLastOf (take (i + 1) all) last
one_more all i x a old last new lt item is had changed d g o p t =
    let more : take (i + 1) all ≡ take i all ++ a ∷ [] = rw add-one (take-suc all i x lt ∙ ap (λ y. take i all ++ y ∷ []) (sym item ∙ is)) in
    subst (HasLastOf (take (i + 1) all)) (sym changed) (subst (λ xs. HasLastOf xs new) (sym more) (record {
      destination = d ∙ ap (option_or (destination_in a)) had.destination ∙ sym (last_more destination_in (take i all) a);
      gateway = g ∙ ap (option_or (gateway_in a)) had.gateway ∙ sym (last_more gateway_in (take i all) a);
      oif = o ∙ ap (option_or (oif_in a)) had.oif ∙ sym (last_more oif_in (take i all) a);
      priority = p ∙ ap (option_or (priority_in a)) had.priority ∙ sym (last_more priority_in (take i all) a);
      table = t ∙ ap (option_or (table_in a)) had.table ∙ sym (last_more table_in (take i all) a);
    }))
