-- A generated text is a valid input.
use Rattle.std.proofs.Common.{◌≤◌, ℕ, List, [], ◌∷◌, ◌++◌, map, refl, arith}
use Rattle.std.specs.List.{AllByRecursion, filter}
use Rattle.nl_core.specs.Frames.{Format}
use Rattle.session_model.specs.declared.transcript.Record.{Record}
use Rattle.session_model.specs.Causes.{IsValid}
use Rattle.session_model.specs.Transcript.{IsRecord}
use Rattle.session_model.specs.Usual.{usual}
use Rattle.transcript_generator.specs.Generated.{block_record, done_frame, from_kernel, gen_text, generated, lookup_record, numbers, route_record, most_routes}
use Rattle.transcript_generator.proofs.Octets.{route-bytes, done-bytes, address-fits, leading-fits}
use Rattle.transcript_generator.proofs.Taken.{IsCalm, calm-taken, asked-free}
use Rattle.transcript_generator.proofs.Lengths.{text-within}

all-append : (P : Record → Type 0) (xs ys : List Record) → AllByRecursion P xs → AllByRecursion P ys → AllByRecursion P (xs ++ ys)
all-append P [] ys a b = b
all-append P (x ∷ xs) ys a b = (a.0, all-append P xs ys a.1 b)

all-map : (P : Record → Type 0) (f : ℕ → Record) → ((i : ℕ) → P (f i)) → (ns : List ℕ) → AllByRecursion P (map f ns)
all-map P f h [] = tt
all-map P f h (n ∷ ns) = (h n, all-map P f h ns)

route-calm : (i : ℕ) → IsCalm (route_record i)
route-calm i = (record { port = omega arith; groups = omega arith }, route-bytes i, omega arith)

done-calm : IsCalm (from_kernel done_frame)
done-calm = (record { port = omega arith; groups = omega arith }, done-bytes, omega arith)

block-calm : (i : ℕ) → IsCalm (block_record i)
block-calm i = (leading-fits i 16, omega arith)

lookup-calm : (i : ℕ) → IsCalm (lookup_record i)
lookup-calm i = address-fits i

-- A generated text is a valid input under the usual settings.
pub generated-valid : {M : Type 0} (f : Format M) (n : ℕ) → n ≤ most_routes → IsValid f usual (IsRecord f.reads) (gen_text n) (generated n)
generated-valid f n h = record {
  spelled = refl;
  taken =
      let ns = numbers n in
      let blocks = map block_record (filter _ ns) in
      let asides = all-append IsCalm blocks _ (all-map IsCalm block_record block-calm (filter _ ns)) (all-map IsCalm lookup_record lookup-calm ns) in
      let all = all-append IsCalm (map route_record ns) _ (all-map IsCalm route_record route-calm ns) (done-calm, asides) in
      ((tt, tt), refl, calm-taken f _ _ (asked-free f) all);
  within = text-within n h;
}
