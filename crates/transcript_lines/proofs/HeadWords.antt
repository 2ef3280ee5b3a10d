-- What the first three words of a line tell of its record, where a fourth follows.
use Rattle.std.proofs.Common.{◌≡◌, ◌≢◌, ◌==◌, ◌<◌, ◌⊎◌, ℕ, List, [], ◌∷◌, length, codes, None, refl, sym, inl, inr, ◌∙◌, ap, arith, flat_map}
use Rattle.std.specs.Fmt.{decimal}
use Rattle.std.proofs.lemmas.List.Splits.{length-slice_split}
use Rattle.session_model.specs.Transcript.{IsAddress, IsSpelled, record_words}
use Rattle.session_model.specs.declared.address.SocketAddr.{SocketAddr}
use Rattle.session_model.specs.declared.transcript.Record.{Record}
use Rattle.session_model.specs.declared.transcript.Record.TheVariants.{Recv, Overrun, Close, Batch, Resync, Block, Unblock, Lookup}
use Rattle.transcript_lines.specs.Decoding.{AreWords, BeginsNoRecord, spaced}
use Rattle.transcript_lines.specs.Line.{IsAddressOf, IsKindOf, keyword}
use Rattle.transcript_lines.specs.Words.{words_of}
use Rattle.transcript_lines.specs.declared.line.Kind.{Kind}
use Rattle.transcript_lines.specs.declared.line.Kind.TheVariants.{Recv as ForRecv, Overrun as ForOverrun, Close as ForClose, Batch as ForBatch, Resync as ForResync, Block as ForBlock, Unblock as ForUnblock, Lookup as ForLookup}
use Rattle.transcript_lines.proofs.Heads.{begins_none, words_after}
use Rattle.transcript_lines.proofs.RecordWords.{tag, tag_of}

-- Three words are those of a record with an address.
record HasHead (first second third : List ℕ) : Type 0 where
  pub a : SocketAddr
  pub address : IsAddress a
  pub port : second ≡ decimal a.port
  pub groups : third ≡ decimal a.groups
  pub kind : (first ≡ codes "recv") ⊎ (first ≡ codes "batch")

head_of : (first second third fourth : List ℕ) (left : List (List ℕ)) (r : Record) → IsSpelled r
    → first ∷ second ∷ third ∷ fourth ∷ left ≡ record_words r → HasHead first second third
head_of first second third fourth left (Recv a bytes) h e = record { a = a; address = h.0; port = (cc); groups = (cc); kind = inl (cc) }
head_of first second third fourth left Overrun h e = absurd (cc)
head_of first second third fourth left Close h e = absurd (cc)
head_of first second third fourth left (Batch a frames) h e = record { a = a; address = h.0; port = (cc); groups = (cc); kind = inr (cc) }
head_of first second third fourth left Resync h e = absurd (cc)
head_of first second third fourth left (Block n) h e = absurd (cc)
head_of first second third fourth left (Unblock n) h e = absurd (cc)
head_of first second third fourth left (Lookup a) h e = absurd (cc)

some_words : (line : List ℕ) → 0 < length (words_of line)
some_words line = omega (arith, length-slice_split (λ b. b == 32) line)

-- Three words that aren't those of a record with an address begin no line of one with a fourth.
no_head : (first second third : List ℕ) → AreWords (first ∷ second ∷ third ∷ []) → (HasHead first second third → ⊥)
    → BeginsNoRecord (flat_map spaced (first ∷ second ∷ third ∷ []))
no_head first second third apart not =
    begins_none _ (λ more r h e. by (words_of more) (some_words more) r h (sym (words_after (first ∷ second ∷ third ∷ []) more apart) ∙ e))
  where
    by : (left : List (List ℕ)) → 0 < length left → (r : Record) → IsSpelled r → first ∷ second ∷ third ∷ left ≢ record_words r
    by [] some r h e = omega (arith, some)
    by (fourth ∷ left) some r h e = not (head_of first second third fourth left r h e)

-- The first word is no keyword.
pub no_keyword : (first second third : List ℕ) → AreWords (first ∷ second ∷ third ∷ []) → IsKindOf first None
    → BeginsNoRecord (flat_map spaced (first ∷ second ∷ third ∷ []))
no_keyword first second third apart none = no_head first second third apart (λ k. by k.kind)
  where
    by : (first ≡ codes "recv") ⊎ (first ≡ codes "batch") → ⊥
    by (inl e) = none ForRecv e
    by (inr e) = none ForBatch e

-- The second and the third word are no address.
pub no_address : (first second third : List ℕ) → AreWords (first ∷ second ∷ third ∷ []) → IsAddressOf (second ∷ third ∷ []) None []
    → BeginsNoRecord (flat_map spaced (first ∷ second ∷ third ∷ []))
no_address first second third apart none =
    no_head first second third apart (λ k. none k.a [] k.address (ap (λ z. z ∷ third ∷ []) k.port ∙ ap (λ z. decimal k.a.port ∷ z ∷ []) k.groups))

is_recv : (kind : Kind) → keyword kind ≡ codes "recv" → kind ≡ ForRecv
is_recv ForRecv e = refl
is_recv ForOverrun e = let t : tag_of ForOverrun ≡ tag_of ForRecv = ap (λ w. tag (w ∷ [])) e in absurd (omega (arith, t))
is_recv ForClose e = let t : tag_of ForClose ≡ tag_of ForRecv = ap (λ w. tag (w ∷ [])) e in absurd (omega (arith, t))
is_recv ForBatch e = let t : tag_of ForBatch ≡ tag_of ForRecv = ap (λ w. tag (w ∷ [])) e in absurd (omega (arith, t))
is_recv ForResync e = let t : tag_of ForResync ≡ tag_of ForRecv = ap (λ w. tag (w ∷ [])) e in absurd (omega (arith, t))
is_recv ForBlock e = let t : tag_of ForBlock ≡ tag_of ForRecv = ap (λ w. tag (w ∷ [])) e in absurd (omega (arith, t))
is_recv ForUnblock e = let t : tag_of ForUnblock ≡ tag_of ForRecv = ap (λ w. tag (w ∷ [])) e in absurd (omega (arith, t))
is_recv ForLookup e = let t : tag_of ForLookup ≡ tag_of ForRecv = ap (λ w. tag (w ∷ [])) e in absurd (omega (arith, t))

is_batch : (kind : Kind) → keyword kind ≡ codes "batch" → kind ≡ ForBatch
is_batch ForBatch e = refl
is_batch ForRecv e = let t : tag_of ForRecv ≡ tag_of ForBatch = ap (λ w. tag (w ∷ [])) e in absurd (omega (arith, t))
is_batch ForOverrun e = let t : tag_of ForOverrun ≡ tag_of ForBatch = ap (λ w. tag (w ∷ [])) e in absurd (omega (arith, t))
is_batch ForClose e = let t : tag_of ForClose ≡ tag_of ForBatch = ap (λ w. tag (w ∷ [])) e in absurd (omega (arith, t))
is_batch ForResync e = let t : tag_of ForResync ≡ tag_of ForBatch = ap (λ w. tag (w ∷ [])) e in absurd (omega (arith, t))
is_batch ForBlock e = let t : tag_of ForBlock ≡ tag_of ForBatch = ap (λ w. tag (w ∷ [])) e in absurd (omega (arith, t))
is_batch ForUnblock e = let t : tag_of ForUnblock ≡ tag_of ForBatch = ap (λ w. tag (w ∷ [])) e in absurd (omega (arith, t))
is_batch ForLookup e = let t : tag_of ForLookup ≡ tag_of ForBatch = ap (λ w. tag (w ∷ [])) e in absurd (omega (arith, t))

-- The first word is a keyword of records that have no fourth word.
pub no_fourth : (first second third : List ℕ) (kind : Kind) → AreWords (first ∷ second ∷ third ∷ []) → first ≡ keyword kind
    → kind ≢ ForRecv → kind ≢ ForBatch → BeginsNoRecord (flat_map spaced (first ∷ second ∷ third ∷ []))
no_fourth first second third kind apart is recv batch = no_head first second third apart (λ k. by k.kind)
  where
    by : (first ≡ codes "recv") ⊎ (first ≡ codes "batch") → ⊥
    by (inl e) = recv (is_recv kind (sym is ∙ e))
    by (inr e) = batch (is_batch kind (sym is ∙ e))
