-- The messages of a datagram, one after another.
use Rattle.std.proofs.Common.{◌≡◌, ◌+◌, ◌*◌, ◌≤◌, ◌<◌, ℕ, true, List, [], ◌∷◌, ◌++◌, map, length, Result, refl, sym, ◌∙◌, ap, subst, append_assoc, arith}
use Rattle.std.proofs.lemmas.List.{map-append}
use Rattle.nl_core.specs.declared.error.DecodeError.{DecodeError}
use Rattle.nl_core.specs.declared.message.NetlinkMessage.{NetlinkMessage}
use Rattle.session_model.specs.declared.address.SocketAddr.{SocketAddr}
use Rattle.session_model.specs.Events.{arrivals}
use Rattle.proto_core.specs.Codec.{front, without_front}
use Rattle.proto_core.specs.Session.{arrival_of}
use Rattle.proto_core.specs.declared.codec.Decoded.{Decoded}
use Rattle.proto_core.specs.declared.codec.Decoded.TheVariants as decoded
use Rattle.proto_conn.specs.Seen.{arrived_in, events_in, front_seen}
use Rattle.proto_conn.proofs.Seeing.{append-nil, arrivals-append}
use Rattle.proto_conn.proofs.Steps.{count_front, filled, less, nothing_in_front, seen_front}

module _ {M : Type 0} (reads : ℕ → List ℕ → Result M DecodeError) where
  -- These messages, from any address, and then those of these bytes, are those of all bytes.
  abbrev pub GoOn : List (NetlinkMessage M) → List ℕ → List ℕ → Type 0
  GoOn ms bytes whole = (source : SocketAddr)
      → map (λ (m : NetlinkMessage M). arrival_of m source) ms ++ arrivals (events_in reads source bytes) ≡ arrivals (events_in reads source whole)

  pub go_on_from : (bytes : List ℕ) → GoOn [] bytes bytes
  go_on_from bytes source = refl

  by_front : (source : SocketAddr) (bytes : List ℕ) (d : Decoded M) → front reads bytes ≡ d
      → arrivals (events_in reads source bytes) ≡ arrivals (front_seen source d) ++ arrivals (events_in reads source (without_front bytes))
  by_front source bytes d is =
      ap arrivals (seen_front reads source bytes) ∙ arrivals-append (front_seen source (front reads bytes)) (events_in reads source (without_front bytes))
      ∙ ap (λ (x : Decoded M). arrivals (front_seen source x) ++ arrivals (events_in reads source (without_front bytes))) is

  -- One message more is read.
  pub go_on_message : (ms : List (NetlinkMessage M)) (m : NetlinkMessage M) (bytes now whole : List ℕ) → decoded.Message m ≡ front reads bytes
      → now ≡ without_front bytes
      → GoOn ms bytes whole → GoOn (ms ++ m ∷ []) now whole
  go_on_message ms m bytes now whole is left h source =
      ap (λ xs. xs ++ arrivals (events_in reads source now)) (map-append (λ (x : NetlinkMessage M). arrival_of x source) ms (m ∷ []))
      ∙ append_assoc (map (λ (x : NetlinkMessage M). arrival_of x source) ms) (arrival_of m source ∷ []) (arrivals (events_in reads source now))
      ∙ ap (λ rest. map (λ (x : NetlinkMessage M). arrival_of x source) ms ++ rest)
      (ap (λ (b : List ℕ). arrival_of m source ∷ arrivals (events_in reads source b)) left ∙ sym (by_front source bytes (decoded.Message m) (sym is)))
      ∙ h source

  -- What can't be read is skipped.
  skip : (ms : List (NetlinkMessage M)) (d : Decoded M) (bytes now whole : List ℕ) → d ≡ front reads bytes → now ≡ without_front bytes
      → ((source : SocketAddr) → arrivals (front_seen source d) ≡ []) → GoOn ms bytes whole → GoOn ms now whole
  skip ms d bytes now whole is left none h source =
      ap (λ rest. map (λ (x : NetlinkMessage M). arrival_of x source) ms ++ rest)
      (ap (λ (b : List ℕ). arrivals (events_in reads source b)) left
      ∙ ap (λ xs. xs ++ arrivals (events_in reads source (without_front bytes))) (sym (none source)) ∙ sym (by_front source bytes d (sym is)))
      ∙ h source

  pub go_on_unreadable : (ms : List (NetlinkMessage M)) (kind number : ℕ) (bytes now whole : List ℕ)
      → decoded.Unreadable kind number ≡ front reads bytes → now ≡ without_front bytes
      → GoOn ms bytes whole → GoOn ms now whole
  go_on_unreadable ms kind number bytes now whole is left h = skip ms (decoded.Unreadable kind number) bytes now whole is left (λ source. refl) h

  pub go_on_rest : (ms : List (NetlinkMessage M)) (n : ℕ) (bytes now whole : List ℕ) → decoded.Rest n ≡ front reads bytes → now ≡ without_front bytes
      → GoOn ms bytes whole → GoOn ms now whole
  go_on_rest ms n bytes now whole is left h = skip ms (decoded.Rest n) bytes now whole is left (λ source. refl) h

  -- Nothing is left to be read.
  pub go_on_nothing : (ms : List (NetlinkMessage M)) (bytes whole : List ℕ) → decoded.Empty ≡ front reads bytes → GoOn ms bytes whole
      → (source : SocketAddr) → arrivals (events_in reads source whole) ≡ map (λ (m : NetlinkMessage M). arrival_of m source) ms
  unfolding events_in
  go_on_nothing ms bytes whole is h source =
      let none : bytes ≡ [] = nothing_in_front reads bytes (sym is) in
      sym (h source) ∙ ap (λ (b : List ℕ). map (λ (m : NetlinkMessage M). arrival_of m source) ms ++ arrivals (events_in reads source b)) none
      ∙ append-nil (map (λ (m : NetlinkMessage M). arrival_of m source) ms)

  -- There are fewer bytes, and sixteen fewer for a message.
  pub fewer : (bytes now : List ℕ) (d : Decoded M) → d ≡ front reads bytes → filled d ≡ true → now ≡ without_front bytes → length now < length bytes
  fewer bytes now d is some left = let l = less reads bytes (ap filled (sym is)
      ∙ some) in let e : length now ≡ length (without_front bytes) = ap length left in omega (arith, l, e)

  pub sixteen : (n : ℕ) (whole bytes now : List ℕ) (m : NetlinkMessage M) → decoded.Message m ≡ front reads bytes → now ≡ without_front bytes
      → 16 * n + length bytes ≤ length whole → 16 * (n + 1) + length now ≤ length whole
  sixteen n whole bytes now m is left h =
      let source : SocketAddr = record { port = 0; groups = 0 } in
      let c = subst (λ (d : Decoded M). 16 * arrived_in (front_seen source d) + length (without_front bytes) ≤ length bytes) (sym is)
      (count_front reads source bytes) in
      let e : length now ≡ length (without_front bytes) = ap length left in
      omega (arith, c, e, h)
