-- What sources gave and sinks gained over several calls, and counts of faults that rose.
use Rattle.std.proofs.Common.{◌≡◌, ◌≤◌, inl, inr, ℕ, List, [], ◌++◌, take, drop, Option, Some, None, refl, sym, ◌∙◌, ap, append_assoc, arith}
use Rattle.std.proofs.lemmas.List.{append-nil, take-append-drop}
use Rattle.transcript_io.specs.Io.{Gained, HasRisen, with_back, with_front}

-- ---- counts of faults

-- A count that rose has risen since every earlier moment.
pub risen_since : (a b c : ℕ) → a ≤ b → HasRisen b c → HasRisen a c
risen_since a b c h (inl low) = inl (omega (arith, h, low))
risen_since a b c h (inr top) = inr top

-- A count that stays at none has not risen.
pub no_rise : HasRisen 0 0 → ⊥
no_rise (inl h) = omega (arith, h)
no_rise (inr h) = omega (arith, h)

-- ---- what is told, with more bytes

-- No bytes in front change nothing.
pub front_none : (o : Option (List ℕ)) → o ≡ with_front [] o
front_none None = refl
front_none (Some bytes) = refl

-- No bytes after it change nothing.
pub back_none : (o : Option (List ℕ)) → o ≡ with_back o []
back_none None = refl
back_none (Some bytes) = ap Some (sym (append-nil bytes))

-- Two pieces in front are one.
pub front_front : (a b : List ℕ) (o : Option (List ℕ)) → with_front a (with_front b o) ≡ with_front (a ++ b) o
front_front a b None = refl
front_front a b (Some bytes) = ap Some (sym (append_assoc a b bytes))

-- Two pieces after it are one.
pub back_back : (o : Option (List ℕ)) (a b : List ℕ) → with_back (with_back o a) b ≡ with_back o (a ++ b)
back_back None a b = refl
back_back (Some bytes) a b = ap Some (append_assoc bytes a b)

-- ---- what a sink gained

-- Nothing was written, and the whole text waits.
pub gained_none : (w : Option (List ℕ)) (text : List ℕ) → Gained w w text text
gained_none w text = record { shown = []; wrote = back_none w; parts = refl }

-- The whole text was written, and nothing waits.
pub gained_all : (w0 w1 : Option (List ℕ)) (text rest : List ℕ) → w1 ≡ with_back w0 text → rest ≡ [] → Gained w0 w1 text rest
gained_all w0 w1 text rest e none = record {
  shown = text;
  wrote = e;
  parts = sym (append-nil text) ∙ ap (λ r. text ++ r) (sym none);
}

-- A sink that gained the first bytes of a text gains the first n of the rest.
pub gained_took : (w0 w1 w2 : Option (List ℕ)) (text rest later : List ℕ) (n : ℕ) → Gained w0 w1 text rest
    → w2 ≡ with_back w1 (take n rest) → later ≡ drop n rest → Gained w0 w2 text later
gained_took w0 w1 w2 text rest later n g e is =
    let whole : rest ≡ take n rest ++ later = sym (take-append-drop n rest) ∙ ap (λ z. take n rest ++ z) (sym is) in
    record {
      shown = g.shown ++ take n rest;
      wrote = e ∙ ap (λ o. with_back o (take n rest)) g.wrote ∙ back_back w0 g.shown (take n rest);
      parts = g.parts ∙ ap (λ z. g.shown ++ z) whole ∙ sym (append_assoc g.shown (take n rest) later);
    }

-- A sink that gained the first bytes of a text gains the first bytes of the rest.
pub gained_more : (w0 w1 w2 : Option (List ℕ)) (text x y : List ℕ) → Gained w0 w1 text x → Gained w1 w2 x y → Gained w0 w2 text y
gained_more w0 w1 w2 text x y g h = record {
  shown = g.shown ++ h.shown;
  wrote = h.wrote ∙ ap (λ o. with_back o h.shown) g.wrote ∙ back_back w0 g.shown h.shown;
  parts = g.parts ∙ ap (λ z. g.shown ++ z) h.parts ∙ sym (append_assoc g.shown h.shown y);
}

-- A longer text leaves more waiting.
pub gained_longer : (w0 w1 : Option (List ℕ)) (text x more : List ℕ) → Gained w0 w1 text x → Gained w0 w1 (text ++ more) (x ++ more)
gained_longer w0 w1 text x more g = record {
  shown = g.shown;
  wrote = g.wrote;
  parts = ap (λ t. t ++ more) g.parts ∙ append_assoc g.shown x more;
}
