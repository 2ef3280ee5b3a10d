-- What holds of all elements of a list, and lists that are made piece by piece.
use Rattle.std.proofs.Common.{◌≡◌, Bool, true, false, cond, List, [], ◌∷◌, ◌++◌, length, suc, map, flat_map, refl, sym, ◌∙◌, ap, append_assoc}
use Rattle.std.specs.List.{filter, AllByRecursion}

-- ---- what holds of all

-- What holds of all elements holds of all images.
pub all_map : {A B : Type 0} (P : A → Type 0) (Q : B → Type 0) (f : A → B) → ((x : A) → P x → Q (f x))
    → (xs : List A) → AllByRecursion P xs → AllByRecursion Q (map f xs)
all_map P Q f h [] all = tt
all_map P Q f h (x ∷ xs) all = (h x all.0, all_map P Q f h xs all.1)

-- It holds of a joined list.
pub all_append : {A : Type 0} (P : A → Type 0) (xs ys : List A) → AllByRecursion P xs → AllByRecursion P ys → AllByRecursion P (xs ++ ys)
all_append P [] ys a b = b
all_append P (x ∷ xs) ys a b = (a.0, all_append P xs ys a.1 b)

-- It holds of all pieces.
pub all_flat : {A B : Type 0} (P : A → Type 0) (Q : B → Type 0) (f : A → List B) → ((x : A) → P x → AllByRecursion Q (f x))
    → (xs : List A) → AllByRecursion P xs → AllByRecursion Q (flat_map f xs)
all_flat P Q f h [] all = tt
all_flat P Q f h (x ∷ xs) all = all_append Q (f x) (flat_map f xs) (h x all.0) (all_flat P Q f h xs all.1)

-- It holds of those that a test keeps.
pub all_filter : {A : Type 0} (P Q : A → Type 0) (p : A → Bool) → ((x : A) → P x → Q x)
    → (xs : List A) → AllByRecursion P xs → AllByRecursion Q (filter p xs)
all_filter P Q p h [] all = tt
all_filter P Q p h (x ∷ xs) all = elim (p x) as (λ b. AllByRecursion Q (cond b (x ∷ filter p xs) (filter p xs))) [
  | true ↦ (h x all.0, all_filter P Q p h xs all.1)
  | false ↦ all_filter P Q p h xs all.1
]

-- What follows from it holds of all.
pub all_same : {A : Type 0} (P Q : A → Type 0) → ((x : A) → P x → Q x) → (xs : List A) → AllByRecursion P xs → AllByRecursion Q xs
all_same P Q h [] all = tt
all_same P Q h (x ∷ xs) all = (h x all.0, all_same P Q h xs all.1)

-- A filter that drops each element with a property keeps none that has it.
pub filter_out : {A : Type 0} (Q : A → Type 0) (keep : A → Bool) (xs : List A)
    → AllByRecursion (λ x. Q x → keep x ≡ false) xs → AllByRecursion (λ x. Q x → ⊥) (filter keep xs)
filter_out Q keep [] all = tt
filter_out Q keep (x ∷ xs) all =
    elim (keep x) as (λ b. keep x ≡ b → AllByRecursion (λ x. Q x → ⊥) (cond b (x ∷ filter keep xs) (filter keep xs))) [
      | true ↦ λ is. ((λ q. let never : true ≡ false = sym is ∙ all.0 q in cc), filter_out Q keep xs all.1)
      | false ↦ λ is. filter_out Q keep xs all.1
    ] refl

-- ---- lists made piece by piece

-- One element more is one more in length.
pub length_more : {A : Type 0} (xs : List A) (x : A) → length (xs ++ x ∷ []) ≡ suc (length xs)
length_more [] x = refl
length_more (y ∷ xs) x = ap suc (length_more xs x)

-- The images of a joined list.
pub map-append : {A B : Type 0} (f : A → B) (xs ys : List A) → map f (xs ++ ys) ≡ map f xs ++ map f ys
map-append f [] ys = refl
map-append f (x ∷ xs) ys = ap (λ zs. f x ∷ zs) (map-append f xs ys)

-- The pieces of a joined list.
pub flat-append : {A B : Type 0} (f : A → List B) (xs ys : List A) → flat_map f (xs ++ ys) ≡ flat_map f xs ++ flat_map f ys
flat-append f [] ys = refl
flat-append f (x ∷ xs) ys = ap (λ zs. f x ++ zs) (flat-append f xs ys) ∙ sym (append_assoc (f x) (flat_map f xs) (flat_map f ys))

-- The pieces of images.
pub flat-map : {A B C : Type 0} (f : A → B) (g : B → List C) (xs : List A) → flat_map g (map f xs) ≡ flat_map (λ x. g (f x)) xs
flat-map f g [] = refl
flat-map f g (x ∷ xs) = ap (λ ys. g (f x) ++ ys) (flat-map f g xs)

-- A function of lists that takes each piece into another goes along all of them.
pub along : {A B C : Type 0} (f : A → List B) (g : A → List C) (h : List B → List C) → h [] ≡ []
    → ((xs ys : List B) → h (xs ++ ys) ≡ h xs ++ h ys) → (P : A → Type 0) → ((x : A) → P x → g x ≡ h (f x))
    → (xs : List A) → AllByRecursion P xs → flat_map g xs ≡ h (flat_map f xs)
along f g h nil app P each [] all = sym nil
along f g h nil app P each (x ∷ xs) all =
    ap (λ ys. ys ++ flat_map g xs) (each x all.0)
    ∙ ap (λ ys. h (f x) ++ ys) (along f g h nil app P each xs all.1)
    ∙ sym (app (f x) (flat_map f xs))
