-- The laws of a view through a relation of items.
use Rattle.std.proofs.Common.{◌≡◌, ℕ, ◌∙◌, sym, subst, refl}
use Rattle.trie_model.specs.Nets.{Net}
use Rattle.trie_model.specs.Views.{ViewValue, IsView, TookData, TookChild, IsChild, Moved, data_net}
use Rattle.view_model.specs.Through.{through_told, wasteful_told, AnswersAsFunction, AnswersBy, Decides, answer_of}

-- The laws hold where each item has one answer.
pub through_laws : {X Y : Type 0} (w : ℕ) (R : X → Y → Type 0) (t : ViewValue X) → IsView w t → ((x : X) (a b : Y) → R x a → R x b → a ≡ b) →
    ((n : Net) (x : X) → t.at n x → (y : Y) × R x y) → IsView w (through_told R t)
through_laws w R t ok one total = record {
  place_ok = ok.place_ok;
  data_fit = ok.data_fit;
  children_fit = ok.children_fit;
  pairs = λ n y p. ok.pairs n p.0 p.1;
  one = λ n a b p q. one q.0 a b (subst (λ x. R x a) (ok.one n p.0 q.0 p.1 q.1) p.2) q.2;
  told = λ bit small set. let h = ok.told bit small set in let y = total (data_net w t.place bit) h.0 h.1 in (y.0, (h.0, h.1, y.1));
  untold = λ bit y small p. ok.untold bit p.0 small p.1;
  below = λ n y p deep. ok.below n p.0 p.1 deep;
  deep = ok.deep;
}

-- After a pair was taken.
pub through_took : {X Y : Type 0} (w bit : ℕ) (R : X → Y → Type 0) (t u : ViewValue X) → TookData w bit t u
    → TookData w bit (through_told R t) (through_told R u)
through_took w bit R t u took = record {
  place = took.place;
  child_bits = took.child_bits;
  at = λ n y. (
    (λ p. let q = (took.at n p.0).0 p.1 in ((p.0, q.0, p.2), q.1)),
    (λ p. (p.0.0, (took.at n p.0.0).1 (p.0.1, p.1), p.0.2)),
  );
  frugal = took.frugal;
}

-- After a child was taken.
pub through_took_child : {X Y : Type 0} (w bit : ℕ) (R : X → Y → Type 0) (t u : ViewValue X) → TookChild w bit t u →
    TookChild w bit (through_told R t) (through_told R u)
through_took_child w bit R t u took = record {
  place = took.place;
  data_bits = took.data_bits;
  others = took.others;
  gone = took.gone;
  at = λ n y. (
    (λ p. let q = (took.at n p.0).0 p.1 in ((p.0, q.0, p.2), q.1)),
    (λ p. (p.0.0, (took.at n p.0.0).1 (p.0.1, p.1), p.0.2)),
  );
  frugal = took.frugal;
}

-- The child.
pub through_child : {X Y : Type 0} (w bit : ℕ) (R : X → Y → Type 0) (t u : ViewValue X) → IsChild w bit t u
    → IsChild w bit (through_told R t) (through_told R u)
through_child w bit R t u is = record {
  place = is.place;
  at = λ n y. (
    (λ p. let q = (is.at n p.0).0 p.1 in ((p.0, q.0, p.2), q.1)),
    (λ p. (p.0.0, (is.at n p.0.0).1 (p.0.1, p.1), p.0.2)),
  );
  frugal = is.frugal;
}

-- The view at a new place.
pub through_moved : {X Y : Type 0} (w : ℕ) (to : Net) (R : X → Y → Type 0) (t u : ViewValue X) → Moved w to t u
    → Moved w to (through_told R t) (through_told R u)
through_moved w to R t u moved = record {
  place = moved.place;
  at = λ n y. (
    (λ p. let q = (moved.at n p.0).0 p.1 in ((p.0, q.0, p.2), q.1)),
    (λ p. (p.0.0, (moved.at n p.0.0).1 (p.0.1, p.1), p.0.2)),
  );
  frugal = moved.frugal;
}

-- The laws of a view through a closure.
pub answers_laws : {T X U : Type 0} (w : ℕ) (item : T → X) (post : T → U → Type 0) (t : ViewValue X) → ((x : X) → (s : T) × (item s ≡ x)) →
    AnswersAsFunction item post → IsView w t → IsView w (through_told (answer_of item post) t)
answers_laws w item post t onto f ok =
    through_laws w (answer_of item post) t ok
    (λ x a b p q. f.one p.0 q.0 a b (p.1 ∙ sym q.1) p.2 q.2)
    (λ n x at. let s = onto x in let u = f.total s.0 in (u.0, (s.0, s.1, u.1)))

-- A view that takes memory keeps the laws.
pub wasteful_laws : {X : Type 0} (w : ℕ) (t : ViewValue X) → IsView w t → IsView w (wasteful_told t)
wasteful_laws w t ok = record {
  place_ok = ok.place_ok;
  data_fit = ok.data_fit;
  children_fit = ok.children_fit;
  pairs = ok.pairs;
  one = ok.one;
  told = ok.told;
  untold = ok.untold;
  below = ok.below;
  deep = ok.deep;
}

-- What is decided by what contracts see is a function of it.
pub decided : {T X U : Type 0} (item : T → X) (f : T → U) → Decides item f → AnswersAsFunction item (AnswersBy f)
decided item f d = record {
  one = λ s t a b e p q. sym p ∙ d s t e ∙ q;
  total = λ t. (f t, refl);
}
