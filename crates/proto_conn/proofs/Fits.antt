-- Which messages fit, as requests are taken and batches leave.
use Rattle.std.proofs.Common.{◌≡◌, ◌+◌, ◌<◌, ◌≤◌, ◌^◌, ◌&&◌, ℕ, zero, suc, Bool, true, List, [], ◌∷◌, length, refl, sym, ◌∙◌, ap, subst, arith, length-append}
use Rattle.std.specs.Prelude.{IfNone, None, Option, Some, get_or, take}
use Rattle.std.specs.List.{list_all}
use Rattle.std.proofs.lemmas.List.Folds.{list_all_at}
use Rattle.nl_core.specs.Frames.{message_fits, message_text}
use Rattle.nl_core.specs.declared.message.NetlinkMessage.{NetlinkMessage}
use Rattle.session_model.specs.Awaited.{numbered}
use Rattle.proto_core.specs.Refused.{IsCause}
use Rattle.proto_core.specs.Session.{Session, requested}
use Rattle.proto_core.specs.declared.messages.Outgoing.{Outgoing}
use Rattle.proto_core.specs.declared.request.Request.{Request}
use Rattle.proto_core.specs.declared.request.RequestRefusal.{RequestRefusal}
use Rattle.proto_core.specs.declared.request.RequestRefusal.TheVariants as refusal
use Rattle.proto_conn.specs.Fitting.{BatchesFit, RequestsFit}
use Rattle.proto_conn.specs.Sending.{texts}
use Rattle.proto_conn.proofs.Counts.{all-append}

-- The texts of the messages before one, and that of this one, are a part of all.
pub texts_part : {T : Type 0} (text : T → List ℕ) (ms : List (NetlinkMessage T)) (i : ℕ) (m : NetlinkMessage T) → i < length ms → m ≡ get_or ms i m
    → length (texts text (take i ms)) + length (message_text text m) ≤ length (texts text ms)
texts_part text [] i m h is = omega (arith, h)
texts_part text (x ∷ ms) zero m h is =
    let l = length-append (message_text text x) (texts text ms) in
    let e = ap (λ n. length (message_text text n)) is in
    omega (arith, l, e)
texts_part text (x ∷ ms) (suc i) m h is =
    let l = length-append (message_text text x) (texts text ms) in
    let k = length-append (message_text text x) (texts text (take i ms)) in
    let rest = texts_part text ms i m (omega (arith, h)) is in
    omega (arith, l, k, rest)

-- What holds anyway holds where there is none.
pub on_none : {X P : Type 0} (o : Option X) → P → IfNone o P
on_none (Some x) p = tt
on_none None p = p

module _ {T : Type 0} (text : T → List ℕ) (fits : T → Bool) where
  -- A request whose numbers are left and whose messages fit is refused for want of memory alone.
  pub memory_alone : (used : ℕ) (ms : List (NetlinkMessage T)) (e : RequestRefusal) → IsCause text fits used ms e → used + length ms < 2 ^ 32
      → list_all (message_fits text fits) ms ≡ true → e ≡ refusal.NoMemory
  memory_alone used ms refusal.NoMemory c left fit = refl
  memory_alone used ms (refusal.SequenceExhausted u asked) c left fit = absurd (let more = c.2 in omega (arith, more, left))
  memory_alone used [] (refusal.Unfit index) c left fit = absurd (let within = c.2 in omega (arith, within))
  memory_alone used (m ∷ ms) (refusal.Unfit index) c left fit =
      let unfit = list_all_at (message_fits text fits) (m ∷ ms) index m c.2 (c.3 m) in cc

  -- Messages under numbers fit as they did without.
  pub numbered_fit : (kind : T → ℕ) (last : ℕ) (ms : List (NetlinkMessage T))
      → list_all (message_fits text fits) (numbered kind text last ms) ≡ list_all (message_fits text fits) ms
  numbered_fit kind last [] = refl
  numbered_fit kind last (m ∷ ms) = ap (λ b. message_fits text fits m && b) (numbered_fit kind (last + 1) ms)

  -- The batches of a session that took a request fit.
  pub requested_fit : (kind : T → ℕ) (s s2 : Session T ℕ) (r : Request T ℕ) → s2 ≡ requested kind text s r → BatchesFit text fits s.outgoing
      → list_all (message_fits text fits) r.messages ≡ true → BatchesFit text fits s2.outgoing
  requested_fit kind s s2 r is batches fit =
      subst (λ (x : Session T ℕ). BatchesFit text fits x.outgoing) (sym is)
      (all-append (λ (o : Outgoing T). list_all (message_fits text fits) o.messages ≡ true) s.outgoing _ batches
      (numbered_fit kind s.last r.messages ∙ fit, tt))

  -- Of requests that all fit the oldest fits.
  pub first_fits : (r : Request T ℕ) (rs q : List (Request T ℕ)) → q ≡ r ∷ rs → RequestsFit text fits q → list_all (message_fits text fits) r.messages ≡ true
  first_fits r rs q cut h = (subst (λ x. RequestsFit text fits x) cut h).0

  -- The others fit too.
  pub rest_fits : (r : Request T ℕ) (rs q : List (Request T ℕ)) → q ≡ r ∷ rs → RequestsFit text fits q → RequestsFit text fits rs
  rest_fits r rs q cut h = (subst (λ x. RequestsFit text fits x) cut h).1
