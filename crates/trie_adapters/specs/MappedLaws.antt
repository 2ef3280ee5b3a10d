-- Views with related items keep the laws.
use Rattle.std.specs.Prelude.{◌≡◌, ℕ, Bool}
use Rattle.std.proofs.Common.{subst, sym, ◌∙◌, refl}
use Rattle.trie_model.specs.Views.{ViewValue, IsView}
use Rattle.trie_adapters.specs.Mapped.{mapped, IsFunction, AnswersOf, PointsTo}
use Rattle.trie_adapters.specs.Answers.{AnswersByItem, TellsTarget}

-- A view whose items are related to one each keeps the laws.
pub mapped_laws : {X Y : Type 0} (w : ℕ) (relates : X → Y → Type 0) (frugal : Bool) (t : ViewValue X) → IsView w t
    → IsFunction relates → IsView w (mapped relates frugal t)
mapped_laws w relates frugal t ok is = record {
  place_ok = ok.place_ok;
  data_fit = ok.data_fit;
  children_fit = ok.children_fit;
  pairs = λ n y p. ok.pairs n p.0 p.1;
  one = λ n a b p q. is.0 q.0 a b (subst (λ x. relates x a) (ok.one n p.0 q.0 p.1 q.1) p.2) q.2;
  told = λ bit small set. let h = ok.told bit small set in let y = is.1 h.0 in (y.0, (h.0, h.1, y.1));
  untold = λ bit y small p. ok.untold bit p.0 small p.1;
  below = λ n y p deep. ok.below n p.0 p.1 deep;
  deep = ok.deep;
}

-- A function that answers by item relates each item to one answer.
pub answers_function : {T X U : Type 0} (item : T → X) (post : T → U → Type 0) → ((x : X) → (t : T) × (item t ≡ x))
    → AnswersByItem item post → IsFunction (AnswersOf item post)
answers_function item post onto by = (
  (λ x a b p q. by.one p.0 q.0 a b (p.1 ∙ sym q.1) p.2 q.2),
  (λ x. let t = onto x in let u = by.some t.0 in (u.0, (t.0, t.1, u.1))),
)

-- What references point to is one thing for each item.
pub target_function : {T X U : Type 0} (item : T → X) (now : T → U) → ((x : X) → (t : T) × (item t ≡ x))
    → TellsTarget item now → IsFunction (PointsTo item now)
target_function item now onto tells = (
  (λ x a b p q. sym p.2 ∙ tells p.0 q.0 (p.1 ∙ sym q.1) ∙ q.2),
  (λ x. let t = onto x in (now t.0, (t.0, t.1, refl))),
)
