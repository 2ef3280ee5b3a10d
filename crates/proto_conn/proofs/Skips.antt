-- Losses before the next message.
use Rattle.std.proofs.Common.{◌≡◌, ℕ, List, [], ◌∷◌, ◌++◌, Result, refl, sym, subst, ◌∙◌, ap}
use Rattle.nl_core.specs.declared.error.DecodeError.{DecodeError}
use Rattle.session_model.specs.declared.address.SocketAddr.{SocketAddr}
use Rattle.session_model.specs.Events.{Event}
use Rattle.proto_conn.specs.declared.framed.Dropped.{Dropped}
use Rattle.proto_conn.specs.Links.{Meaning, IsLater}
use Rattle.proto_conn.specs.Seen.{Framing, DidRead, loss}
use Rattle.proto_conn.specs.Next.{Skipped, losses_of}
use Rattle.proto_conn.proofs.Seeing.{append-nil, read_nothing, read_more}

module _ {M : Type 0} (reads : ℕ → List ℕ → Result M DecodeError) {S : Type 0} (meaning : S → Meaning) where
  pub skipped_nothing : (f : Framing S) → Skipped reads meaning f [] f
  skipped_nothing f = record { losses = []; read = read_nothing reads meaning f }

  losses-append : (ls ks : List (Dropped × SocketAddr)) → losses_of {M = M} (ls ++ ks) ≡ losses_of ls ++ losses_of ks
  losses-append [] ks = refl
  losses-append (l ∷ ls) ks = ap (λ (es : List (Event M)). loss l.0 l.1 ∷ es) (losses-append ls ks)

  pub skipped_lost : (a b c : Framing S) (d : Dropped) (source : SocketAddr) → Skipped reads meaning a [] b
      → DidRead reads meaning b (loss d source ∷ []) c → Skipped reads meaning a [] c
  skipped_lost a b c d source h k =
      let ls = h.losses in record {
        losses = ls ++ (d, source) ∷ [];
        read = subst (λ (es : List (Event M)). DidRead reads meaning a es c)
            (ap (λ (es : List (Event M)). es ++ loss d source ∷ []) (append-nil (losses_of ls)) ∙ sym (losses-append ls ((d, source) ∷ []))
            ∙ sym (append-nil (losses_of (ls ++ (d, source) ∷ []))))
            (read_more reads meaning a b c (losses_of ls ++ []) (loss d source ∷ []) h.read k);
      }

  -- and then these events
  pub skipped_then : (a b c : Framing S) (es : List (Event M)) → Skipped reads meaning a [] b → DidRead reads meaning b es c → Skipped reads meaning a es c
  skipped_then a b c es h k = record {
    losses = h.losses;
    read = subst (λ (fs : List (Event M)). DidRead reads meaning a fs c) (ap (λ (fs : List (Event M)). fs ++ es) (append-nil
        (losses_of h.losses))) (read_more reads meaning a b c (losses_of h.losses ++ []) es h.read k);
  }

  pub later_of : (a b : Framing S) → Skipped reads meaning a [] b → IsLater (meaning a.link) (meaning b.link)
  later_of a b h = h.read.saw.later
