-- A source and a sink in memory: their bytes, and how their calls go.
use Rattle.std.specs.Prelude.{◌≡◌, ◌+◌, ◌-◌, ◌^◌, ◌==◌, ℕ, if◌then◌else◌, Bool, List, drop, length, min}
use Rattle.std.specs.List.{list_any}
use Rattle.transcript_io.specs.declared.memory.FailPlan.{FailPlan}
use Rattle.transcript_io.specs.declared.memory.MemorySource.{MemorySource}
use Rattle.transcript_io.specs.declared.memory.MemorySink.{MemorySink}

-- One more than a count. A count that has reached the greatest number stays there.
abbrev pub one_more : ℕ → ℕ
one_more count = min (count + 1) (2 ^ 64 - 1)

-- Whether the next call fails: its number, from 1, is listed.
abbrev pub fails_next : FailPlan → Bool
fails_next p = list_any (λ number. number == one_more p.calls) p.failing.items

-- A plan after one more call.
abbrev pub after_call : FailPlan → FailPlan
after_call p = record p {
  calls = one_more p.calls;
  faults = if fails_next p then one_more p.faults else p.faults;
}

-- A plan of no calls so far.
abbrev pub IsFresh : FailPlan → ℕ → List ℕ → Type 0
IsFresh p piece failing = (p.piece ≡ piece) × (p.failing.items ≡ failing) × (p.calls ≡ 0) × (p.faults ≡ 0)

-- How the calls of a source go.
abbrev pub source_plan : MemorySource → FailPlan
source_plan s = s.plan

-- How the calls of a sink go.
abbrev pub sink_plan : MemorySink → FailPlan
sink_plan s = s.plan

-- The bytes that a source has not given.
abbrev pub bytes_left : MemorySource → List ℕ
bytes_left s = drop s.at s.bytes.items

-- The bytes that a sink has taken.
abbrev pub bytes_written : MemorySink → List ℕ
bytes_written s = s.bytes.items

-- How many bytes a read into a buffer of this size gives.
abbrev pub read_count : MemorySource → ℕ → ℕ
read_count s size = min (min (length (bytes_left s)) (source_plan s).piece) size

-- How many bytes of a piece of this size a write takes.
abbrev pub write_count : MemorySink → ℕ → ℕ
write_count s size = min size (sink_plan s).piece
