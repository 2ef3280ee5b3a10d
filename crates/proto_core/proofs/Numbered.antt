-- The numbers that a request takes.
use Rattle.std.proofs.Common.{◌≡◌, ◌+◌, ◌≤◌, ◌==◌, ◌++◌, ℕ, true, false, List, [], ◌∷◌, map, length, refl, ap, arith}
use Rattle.std.proofs.lemmas.Bool.Decides.{nat_tests}
use Rattle.std.proofs.lemmas.List.Folds.{list_any-append}
use Rattle.nl_core.specs.declared.message.NetlinkMessage.{NetlinkMessage}
use Rattle.session_model.specs.declared.awaited.Awaited.{Awaited}
use Rattle.session_model.specs.Awaited.{numbered}
use Rattle.proto_core.specs.declared.request.ExpectResponse.{ExpectResponse}
use Rattle.proto_core.specs.declared.request.Request.{Request}
use Rattle.proto_core.specs.declared.messages.Outgoing.{Outgoing}
use Rattle.proto_core.specs.Noted.{noted, noted_of, noted_one, is_expected}
use Rattle.proto_core.specs.Numbers.{is_awaited, numbers_after}
use Rattle.proto_core.specs.Session.{Session, Continues, requested}

-- Messages under the numbers that follow one have these numbers.
pub numbers-numbered : {T : Type 0} (kind : T → ℕ) (text : T → List ℕ) (last : ℕ) (ms : List (NetlinkMessage T))
    → map (λ (m : NetlinkMessage T). m.header.sequence_number) (numbered kind text last ms) ≡ numbers_after last (length ms)
numbers-numbered kind text last [] = refl
numbers-numbered kind text last (m ∷ ms) = ap (λ ns. (last + 1) ∷ ns) (numbers-numbered kind text (last + 1) ms)

module _ {T M : Type 0} where
  -- A request awaits no number that was used before it.
  noted_above : (expect : ExpectResponse) (i last : ℕ) (tag : M) (port : ℕ) (ms : List (NetlinkMessage T)) (n : ℕ) → n ≤ last → is_awaited n (noted expect i last tag port ms) ≡ false
  noted_above expect i last tag port [] n h = refl
  noted_above expect i last tag port (m ∷ ms) n h =
      let rest : is_awaited n (noted expect (i + 1) (last + 1) tag port ms) ≡ false = noted_above expect (i + 1) (last + 1) tag port ms n (omega arith) in
      let apart : (last + 1 == n) ≡ false = grind (arith, nat_tests) in
      elim (is_expected expect i m.header) as (λ b. is_awaited n (noted_one b (last + 1) tag port m.header ++ noted expect (i + 1) (last + 1) tag port ms) ≡ false) [
        | true ↦ rw apart rest
        | false ↦ rest
      ]

  -- After a request no number is used again.
  pub continues_requested : (kind : T → ℕ) (text : T → List ℕ) (s : Session T M) (r : Request T M) → Continues s (requested kind text s r)
  continues_requested kind text s r = record {
    rises = omega arith;
    stays_ended = λ n h e. rw (list_any-append (λ (w : Awaited M). w.number == n) s.awaited (noted_of r s.last), e)
        (noted_above r.expect_response 0 s.last r.metadata r.destination.port r.messages n h);
  }

  -- Where nothing changes no number is used again.
  pub continues_same : (s now : Session T M) → now ≡ s → Continues s now
  continues_same s now e = record {
    rises = omega (arith, ap (λ (o : Session T M). o.last) e);
    stays_ended = λ n h f. rw e f;
  }

  -- The session as it was opened, with what a request puts in, is the session after the request.
  pub request_step : (kind : T → ℕ) (text : T → List ℕ) (opened s : Session T M) (r : Request T M) (ws : List (Awaited M)) (os : List (Outgoing T)) → opened ≡ s
      → ws ≡ opened.awaited ++ noted_of r opened.last
      → os ≡ opened.outgoing ++ record { messages = numbered kind text opened.last r.messages; destination = r.destination } ∷ []
      → record opened { last = opened.last + length r.messages; awaited = ws; outgoing = os } ≡ requested kind text s r
  request_step kind text opened s r ws os view e f = rw (e, f, view) refl

  -- No number is used again, over the session after a request.
  pub continues_step : (kind : T → ℕ) (text : T → List ℕ) (s now : Session T M) (r : Request T M) → now ≡ requested kind text s r → Continues s now
  continues_step kind text s now r e = rw e (continues_requested kind text s r)
