-- Each line is a record's or no record's, and which of both can be found.
use Rattle.std.proofs.Common.{◌≡◌, ◌==◌, ◌+◌, ◌<◌, ◌≤◌, ◌^◌, ◌⊎◌, ℕ, nat_lt, Bool, true, false, List, [], ◌∷◌, ◌++◌, length, Result, Ok, Err, refl, sym, subst, inl, inr, ◌∙◌, ap, arith}
use Rattle.std.specs.Prelude.{IsOk}
use Rattle.std.specs.List.{AllByRecursion}
use Rattle.std.proofs.lemmas.Bool.Decides.{nat_tests}
use Rattle.nl_core.specs.declared.error.DecodeError.{DecodeError}
use Rattle.nl_core.specs.Frames.{frame_at, length_at}
use Rattle.session_model.specs.Networks.{IsHost, IsNetwork}
use Rattle.session_model.specs.Transcript.{AreBytes, HasWholeFrames, IsAddress, IsRecord, IsSpelled, IsWholeFrame, record_line, record_words}
use Rattle.session_model.specs.Causes.{IsNoRecord}
use Rattle.session_model.specs.declared.address.SocketAddr.{SocketAddr}
use Rattle.session_model.specs.declared.network.Address.{Address}
use Rattle.session_model.specs.declared.network.Address.TheVariants as address
use Rattle.session_model.specs.declared.network.Network.{Network}
use Rattle.session_model.specs.declared.network.Network.TheVariants as network
use Rattle.session_model.specs.declared.transcript.BatchFrame.{BatchFrame}
use Rattle.session_model.specs.declared.transcript.Record.{Record}
use Rattle.session_model.specs.declared.transcript.Record.TheVariants.{Recv, Overrun, Close, Batch, Resync, Block, Unblock, Lookup}
use Rattle.transcript_lines.specs.Words.{words_of}
use Rattle.transcript_lines.proofs.Candidates.{candidate, candidate_back}
use Rattle.transcript_lines.proofs.Lines.{words_of_line, line_of_words}

-- It holds or it doesn't.
abbrev Decided : Type 0 → Type 0
Decided P = P ⊎ (P → ⊥)

both : {P Q : Type 0} → Decided P → Decided Q → Decided (P × Q)
both (inl p) (inl q) = inl (p, q)
both (inl p) (inr q) = inr (λ h. q h.1)
both (inr p) q = inr (λ h. p h.0)

each : {X : Type 0} (P : X → Type 0) → ((x : X) → Decided (P x)) → (xs : List X) → Decided (AllByRecursion P xs)
each P decide [] = inl tt
each P decide (x ∷ xs) = both (decide x) (each P decide xs)

below : (a b : ℕ) → Decided (a < b)
below a b = by (nat_lt a b) refl
  where
    by : (t : Bool) → nat_lt a b ≡ t → Decided (a < b)
    by true e = inl (grind (arith, nat_tests))
    by false e = inr (λ h. let low : a < b = h in grind (arith, nat_tests))

same_number : (a b : ℕ) → Decided (a ≡ b)
same_number a b = by (a == b) refl
  where
    by : (t : Bool) → (a == b) ≡ t → Decided (a ≡ b)
    by true e = inl (grind (arith, nat_tests))
    by false e = inr (λ h. let is : a ≡ b = h in grind (arith, nat_tests))

same_list : {X : Type 0} → ((x y : X) → Decided (x ≡ y)) → (xs ys : List X) → Decided (xs ≡ ys)
same_list decide [] [] = inl refl
same_list decide [] (y ∷ ys) = inr (λ e. cc)
same_list decide (x ∷ xs) [] = inr (λ e. cc)
same_list decide (x ∷ xs) (y ∷ ys) = by (decide x y) (same_list decide xs ys)
  where
    by : Decided (x ≡ y) → Decided (xs ≡ ys) → Decided (x ∷ xs ≡ y ∷ ys)
    by (inl h) (inl k) = inl (cc)
    by (inl h) (inr k) = inr (λ e. let rest : xs ≡ ys = cc in k rest)
    by (inr h) k = inr (λ e. let first : x ≡ y = cc in h first)

same_words : (xs ys : List (List ℕ)) → Decided (xs ≡ ys)
same_words xs ys = same_list (same_list same_number) xs ys

are_bytes : (bytes : List ℕ) → Decided (AreBytes bytes)
are_bytes bytes = each (λ b. b < 256) (λ b. below b 256) bytes

is_address : (a : SocketAddr) → Decided (IsAddress a)
is_address a = by (both (below a.port (2 ^ 32)) (below a.groups (2 ^ 32)))
  where
    by : Decided ((a.port < 2 ^ 32) × (a.groups < 2 ^ 32)) → Decided (IsAddress a)
    by (inl h) = inl (record { port = h.0; groups = h.1 })
    by (inr h) = inr (λ is. h (is.port, is.groups))

at_most : (a b : ℕ) → Decided (a ≤ b)
at_most a b = by (below a (b + 1))
  where
    by : Decided (a < b + 1) → Decided (a ≤ b)
    by (inl h) = inl (omega (arith, h))
    by (inr h) = inr (λ le. h (omega (arith, le)))

is_host : (a : Address) → Decided (IsHost a)
is_host (address.V4 n) = below n (2 ^ 32)
is_host (address.V6 n) = below n (2 ^ 128)

is_network : (n : Network) → Decided (IsNetwork n)
is_network (network.V4 p) = both (below p.0 (2 ^ 32)) (at_most p.1 32)
is_network (network.V6 p) = both (below p.0 (2 ^ 128)) (at_most p.1 128)

is_spelled : (r : Record) → Decided (IsSpelled r)
is_spelled (Recv a bytes) = by (both (is_address a) (both (are_bytes bytes) (at_most (length bytes) 65536)))
  where
    by : Decided (IsAddress a × (AreBytes bytes × (length bytes ≤ 65536))) → Decided (IsAddress a × AreBytes bytes × (length bytes ≤ 65536))
    by (inl h) = inl (h.0, h.1.0, h.1.1)
    by (inr h) = inr (λ k. h (k.0, (k.1, k.2)))
is_spelled Overrun = inl tt
is_spelled Close = inl tt
is_spelled (Batch a frames) = both (is_address a) (each (λ (f : BatchFrame). AreBytes f.bytes) (λ f. are_bytes f.bytes) frames)
is_spelled Resync = inl tt
is_spelled (Block n) = is_network n
is_spelled (Unblock n) = is_network n
is_spelled (Lookup a) = is_host a

is_whole_frame : {M : Type 0} (reads : ℕ → List ℕ → Result M DecodeError) (bytes : List ℕ) → Decided (IsWholeFrame reads bytes)
is_whole_frame reads bytes = by (both (below 15 (length bytes)) (both (same_number (length_at bytes) (length bytes)) (is_ok (frame_at reads bytes))))
  where
    is_ok : {X E : Type 0} (r : Result X E) → Decided (IsOk r)
    is_ok (Ok x) = inl refl
    is_ok (Err e) = inr (λ h. cc)

    by : Decided ((15 < length bytes) × ((length_at bytes ≡ length bytes) × IsOk (frame_at reads bytes))) → Decided (IsWholeFrame reads bytes)
    by (inl h) = inl (record { frame = record { header = omega (arith, h.0); whole = h.1.0 }; readable = h.1.1 })
    by (inr h) = inr (λ is. h (omega (arith, is.frame.header), (is.frame.whole, is.readable)))

has_whole_frames : {M : Type 0} (reads : ℕ → List ℕ → Result M DecodeError) (r : Record) → Decided (HasWholeFrames reads r)
has_whole_frames reads (Recv a bytes) = inl tt
has_whole_frames reads Overrun = inl tt
has_whole_frames reads Close = inl tt
has_whole_frames reads (Batch a frames) = each (λ (f : BatchFrame). IsWholeFrame reads f.bytes) (λ f. is_whole_frame reads f.bytes) frames
has_whole_frames reads Resync = inl tt
has_whole_frames reads (Block n) = inl tt
has_whole_frames reads (Unblock n) = inl tt
has_whole_frames reads (Lookup a) = inl tt

-- A line is that of a record, or of none.
pub line_decided : {M : Type 0} (reads : ℕ → List ℕ → Result M DecodeError) (line : List ℕ)
    → ((r : Record) × IsRecord reads r × (line ++ 10 ∷ [] ≡ record_line r)) ⊎ IsNoRecord (IsRecord reads) line
line_decided reads line =
    by (both (both (is_spelled r) (has_whole_frames reads r)) (same_words (words_of line) (record_words r)))
  where
    r : Record
    r = candidate (words_of line)

    by : Decided ((IsSpelled r × HasWholeFrames reads r) × (words_of line ≡ record_words r))
        → ((q : Record) × IsRecord reads q × (line ++ 10 ∷ [] ≡ record_line q)) ⊎ IsNoRecord (IsRecord reads) line
    by (inl h) = inl (r, h.0, line_of_words line r h.1)
    by (inr h) = inr (λ q is e.
        let words = words_of_line line q is.0 e in
        let same : q ≡ r = sym (candidate_back q is.0) ∙ ap candidate (sym words) in
        h (subst (IsRecord reads) same is, words ∙ ap record_words same))
