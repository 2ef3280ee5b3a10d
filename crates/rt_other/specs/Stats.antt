-- Counters of eight bytes.
use Rattle.std.specs.Prelude.{◌≡◌, ℕ, ◌*◌, ◌/◌, ◌%◌, ◌-◌, ◌^◌, ◌<◌, ◌==◌, Bool, nat_le, List, map, length, if◌then◌else◌, Result, Ok, Err}
use Rattle.std.specs.List.{AllByRecursion, range_with_len}
use Rattle.nl_core.specs.declared.error.DecodeError.{DecodeError}
use Rattle.nl_core.specs.declared.error.DecodeError.TheVariants.{BadLength}
use Rattle.nl_core.specs.Numbers.{AreBytes, u64_at, words64}
use Rattle.rt_other.specs.declared.stats64.Stats64.{Stats64}

-- The first counters of bytes, so many: the one at k stands at the byte 8 k.
abbrev pub counters : ℕ → List ℕ → List ℕ
counters n bytes = map (λ k. u64_at bytes (k * 8)) (range_with_len 0 n)

-- The counters that bytes are; refused where the last one is cut short.
abbrev pub stats_at : List ℕ → Result Stats64 DecodeError
stats_at bytes = if length bytes % 8 == 0 then Ok (record { 0 = counters (length bytes / 8) bytes }) else Err BadLength

-- Whether the count of bytes is a `usize`.
abbrev pub stats_fit : Stats64 → Bool
stats_fit s = nat_le (length s.0) ((2 ^ 64 - 1) / 8)

-- Counters of eight bytes each read back from their bytes.
abbrev pub CountersReadBack : Type 0
CountersReadBack = (s : Stats64) → AllByRecursion (λ n. n < 2 ^ 64) s.0 → stats_at (words64 s.0) ≡ Ok s

-- Counters that were read have the bytes that they were read from, and read back from them.
abbrev pub ReadCountersReadBack : Type 0
ReadCountersReadBack = (bytes : List ℕ) (s : Stats64) → AreBytes bytes → stats_at bytes ≡ Ok s → words64 s.0 ≡ bytes
