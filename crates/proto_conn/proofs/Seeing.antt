-- What is seen, one part after another.
use Rattle.std.proofs.Common.{◌≡◌, ◌+◌, ◌≤◌, ◌<◌, ◌⊎◌, ◌||◌, inl, inr, ℕ, Bool, true, false, List, [], ◌∷◌, ◌++◌, length, flat_map, Option, Some, None, Result, OnErr, Ok, Err, refl, sym, ◌∙◌, ap, arith, append_assoc}
use Rattle.std.proofs.lemmas.Grind.{flat_map-append}
use Rattle.std.proofs.lemmas.List.{length-append}
use Rattle.nl_core.specs.declared.error.DecodeError.{DecodeError}
use Rattle.session_model.specs.Events.{Event, arrival_of, arrivals}
use Rattle.session_model.specs.Streams.{is_shut, shuts}
use Rattle.proto_conn.specs.Links.{Meaning, HasRisen, IsLater, with_front}
use Rattle.proto_conn.specs.Seen.{Framing, DidSee, DidRead, arrived_in, brings, pending}

pub append-nil : {X : Type 0} (xs : List X) → xs ++ [] ≡ xs
append-nil [] = refl
append-nil (x ∷ xs) = ap (λ zs. x ∷ zs) (append-nil xs)

pub front_nil : {X : Type 0} (w : Option (List X)) → w ≡ with_front [] w
front_nil None = refl
front_nil (Some xs) = refl

pub front_more : {X : Type 0} (xs ys : List X) (w : Option (List X)) → with_front xs (with_front ys w) ≡ with_front (xs ++ ys) w
front_more xs ys None = refl
front_more xs ys (Some zs) = ap Some (sym (append_assoc xs ys zs))

pub on_err : {T E : Type 0} {P : Type 0} (r : Result T E) → P → OnErr r P
on_err (Ok x) p = tt
on_err (Err e) p = p

pub risen_before : (a b c : ℕ) → a ≤ b → HasRisen b c → HasRisen a c
risen_before a b c le (inl h) = inl (omega (arith, le, h))
risen_before a b c le (inr h) = inr h

pub risen_after : (a b c : ℕ) → HasRisen a b → b ≤ c → HasRisen a c
risen_after a b c (inl h) le = inl (omega (arith, le, h))
risen_after a b c (inr h) le = inr (omega (arith, le, h))

pub later_same : (m : Meaning) → IsLater m m
later_same m = record { faults = omega arith; stalls = omega arith; closings = omega arith; prompt = λ h. h; sure = λ h. h }

pub later_more : (a b c : Meaning) → IsLater a b → IsLater b c → IsLater a c
later_more a b c h k = record {
  faults = let x = h.faults in let y = k.faults in omega (arith, x, y);
  stalls = let x = h.stalls in let y = k.stalls in omega (arith, x, y);
  closings = let x = h.closings in let y = k.closings in omega (arith, x, y);
  prompt = λ p. k.prompt (h.prompt p);
  sure = λ p. k.sure (h.sure p);
}

pub arrivals-append : {M : Type 0} (es fs : List (Event M)) → arrivals (es ++ fs) ≡ arrivals es ++ arrivals fs
arrivals-append [] fs = refl
arrivals-append (e ∷ es) fs = ap (λ more. arrival_of e ++ more) (arrivals-append es fs) ∙ sym (append_assoc (arrival_of e) (arrivals es) (arrivals fs))

pub arrived-append : {M : Type 0} (es fs : List (Event M)) → arrived_in (es ++ fs) ≡ arrived_in es + arrived_in fs
arrived-append es fs = ap length (arrivals-append es fs) ∙ length-append (arrivals es) (arrivals fs)

pub either : (a b : Bool) → (a || b) ≡ true → (a ≡ true) ⊎ (b ≡ true)
either true b e = inl refl
either false b e = inr e

pub or_left : (a b : Bool) → a ≡ true → (a || b) ≡ true
or_left true b e = refl
or_left false b e = cc

pub or_right : (a b : Bool) → b ≡ true → (a || b) ≡ true
or_right true b e = refl
or_right false b e = e

pub shut-append : {M : Type 0} (es fs : List (Event M)) → is_shut (es ++ fs) ≡ (is_shut es || is_shut fs)
shut-append [] fs = refl
shut-append (e ∷ es) fs = ap (λ b. shuts e || b) (shut-append es fs) ∙ assoc (shuts e) (is_shut es) (is_shut fs)
  where
    assoc : (a b c : Bool) → (a || (b || c)) ≡ ((a || b) || c)
    assoc true b c = refl
    assoc false b c = refl

module _ {M : Type 0} (reads : ℕ → List ℕ → Result M DecodeError) {S : Type 0} (meaning : S → Meaning) where
  pub see_nothing : (s : S) (due : List (Event M)) → DidSee reads meaning s due [] s due
  see_nothing s due =
      record {
        taken = [];
        told = front_nil (meaning s).waits;
        seen = sym (append-nil due);
        later = later_same
            (meaning s);
        posted = refl;
        first = λ p. inl p;
      }

  pub see_more : (a b c : S) (du dv dw es fs : List (Event M)) → DidSee reads meaning a du es b dv → DidSee reads meaning b dv fs c dw
      → DidSee reads meaning a du (es ++ fs) c dw
  see_more a b c du dv dw es fs h k = record {
    taken = h.taken ++ k.taken;
    told = h.told ∙ ap (with_front h.taken) k.told ∙ front_more h.taken k.taken (meaning c).waits;
    seen = append_assoc es fs dw ∙ ap (λ r. es ++ r) k.seen ∙ sym (append_assoc es dv (flat_map (brings reads) k.taken))
        ∙ ap (λ r. r ++ flat_map (brings reads) k.taken) h.seen ∙ append_assoc du (flat_map (brings reads) h.taken) (flat_map (brings reads) k.taken)
        ∙ ap (λ r. du ++ r) (sym (flat_map-append (brings reads) h.taken k.taken));
    later = later_more (meaning a) (meaning b) (meaning c) h.later k.later;
    posted = k.posted ∙ h.posted;
    first = λ p. by (k.first p);
  }
    where
      sooner : (0 < (meaning a).closings) ⊎ (is_shut es ≡ true) → (0 < (meaning a).closings) ⊎ (is_shut (es ++ fs) ≡ true)
      sooner (inl q) = inl q
      sooner (inr q) = inr (shut-append es fs ∙ or_left (is_shut es) (is_shut fs) q)

      by : (0 < (meaning b).closings) ⊎ (is_shut fs ≡ true) → (0 < (meaning a).closings) ⊎ (is_shut (es ++ fs) ≡ true)
      by (inl q) = sooner (h.first q)
      by (inr q) = inr (shut-append es fs ∙ or_right (is_shut es) (is_shut fs) q)

  pub read_nothing : (f : Framing S) → DidRead reads meaning f [] f
  read_nothing f = record { saw = see_nothing f.link (pending reads f); writer = refl; destination = refl }

  pub read_more : (a b c : Framing S) (es fs : List (Event M)) → DidRead reads meaning a es b → DidRead reads meaning b fs c
      → DidRead reads meaning a (es ++ fs) c
  read_more a b c es fs h k = record {
    saw = see_more a.link b.link c.link (pending reads a) (pending reads b) (pending reads c) es fs h.saw k.saw;
    writer = k.writer ∙ h.writer;
    destination = k.destination ∙ h.destination;
  }
