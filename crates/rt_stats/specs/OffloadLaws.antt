-- What hardware counts reads back.
use Rattle.std.proofs.Common.{◌≡◌, ◌==◌, ◌≤◌, ◌<◌, ◌^◌, ◌+◌, ◌*◌, ◌/◌, ◌%◌, ℕ, zero, suc, Bool, true, false, List, map, length, Ok, Err, refl, subst, arith}
use Rattle.std.specs.Prelude.{if◌then◌else◌}
use Rattle.std.specs.List.{AllByRecursion, range_with_len}
use Rattle.nl_core.specs.declared.error.DecodeError.TheVariants.{BadLength}
use Rattle.nl_core.specs.Numbers.{AreBytes, u64_at}
use Rattle.nl_core.specs.Attribute.{is_checked}
use Rattle.nl_core.specs.AttributeReadBack.{ReadsAgain}
use Rattle.nl_core.proofs.Bytes.{u64-below}
use Rattle.rt_other.specs.Stats.{counters, stats_at}
use Rattle.rt_other.specs.declared.stats64.Stats64.{Stats64}
use Rattle.rt_other.proofs.Counters.{counters-again}
use Rattle.rt_layout.specs.Rows.{read_by}
use Rattle.rt_layout.specs.FixedLaws.{sized-again, sized-read}
use Rattle.rt_layout.specs.RowLaws.{◌&◌, row-again, other-again, row-reads, attribute-reads}
use Rattle.rt_stats.specs.HwInfo.{info_at}
use Rattle.rt_stats.specs.HwInfoLaws.{info-again}
use Rattle.rt_stats.specs.HwStats as hw_stats
use Rattle.rt_stats.specs.HwStatsLaws.{length-hw_stats, hw_stats-again, hw_stats-read}
use Rattle.rt_stats.specs.declared.stats.hw_stats_info.HwStatsInfo.{HwStatsInfo as Information}
use Rattle.rt_stats.specs.declared.stats.hw_stats.HwStats64.{HwStats64}
use Rattle.rt_stats.specs.declared.stats.offload.OffloadXstat.{OffloadXstat}
use Rattle.rt_stats.specs.declared.stats.offload.OffloadXstat.TheVariants.{CpuHit, HwStatsInfo, L3Stats, Other}
use Rattle.rt_stats.specs.Offload.{hw_stats_at, rows, kind, value, attribute_at, CountersFit, ReadsBack}

-- ---- counters

each-below : (bytes : List ℕ) (a n : ℕ) → AreBytes bytes → AllByRecursion (λ n. n < 2 ^ 64) (map (λ k. u64_at bytes (k * 8)) (range_with_len a n))
each-below bytes a zero are = tt
each-below bytes a (suc n) are = (u64-below bytes (a * 8) are, each-below bytes (a + 1) n are)

whole-if : (b : Bool) (x s : Stats64) → (if b then Ok x else Err BadLength) ≡ Ok s → x ≡ s
whole-if true x s is = cc
whole-if false x s is = absurd cc

-- Counters that were read from bytes fit their fields.
pub counters-read : (bytes : List ℕ) (s : Stats64) → AreBytes bytes → stats_at bytes ≡ Ok s → CountersFit s
counters-read bytes s are is =
    let n = length bytes / 8 in
    subst (λ (t : Stats64). CountersFit t) (whole-if (length bytes % 8 == 0) (record { 0 = counters n bytes }) s is) (each-below bytes 0 n are)

-- ---- structs

hw_stats-value-again : (s : HwStats64) → hw_stats.ReadsBack s → hw_stats_at (hw_stats.hw_stats_text s) ≡ Ok s
hw_stats-value-again s back =
    sized-again 72 hw_stats.hw_stats_text hw_stats.hw_stats_at s (length-hw_stats s) (λ more. hw_stats-again s more back)

hw_stats-value-read : (bytes : List ℕ) (s : HwStats64) → AreBytes bytes → hw_stats_at bytes ≡ Ok s → hw_stats.ReadsBack s
hw_stats-value-read bytes s are is =
    subst (λ (t : HwStats64). hw_stats.ReadsBack t) (sized-read 72 bytes (hw_stats.hw_stats_at bytes) s is) (hw_stats-read bytes are)

-- ---- attributes

again : (x : OffloadXstat) → kind x < 65536 → length (value x) ≤ 65531
    → ((o : OffloadXstat) → read_by rows (kind x % 16384) (value x) o ≡ Ok x) → ReadsAgain kind value attribute_at x
again x fits short is = row-again rows (λ n. Other n) kind value x fits short is

-- An attribute that reads back does so, where its length fits its field.
pub attribute-again : (p : Unit {0}) (x : OffloadXstat) → ReadsBack x → length (value x) ≤ 65531
    → ReadsAgain kind value attribute_at x
attribute-again p (CpuHit s) h short = again (CpuHit s) (omega arith) short (λ o. rw (counters-again s h) refl)
attribute-again p (HwStatsInfo i) h short = again (HwStatsInfo i) (omega arith) short (λ o. rw (info-again i) refl)
attribute-again p (L3Stats s) h short = again (L3Stats s) (omega arith) short (λ o. rw (hw_stats-value-again s h) refl)
attribute-again p (Other n) h short = other-again rows (λ n. Other n) kind value n refl refl h short

info-read : (bytes : List ℕ) (i : Information) → AreBytes bytes → info_at bytes ≡ Ok i → Unit {0}
info-read bytes i are is = tt

-- An attribute that was read from bytes reads back.
pub attribute-read : (p : Unit {0}) (bytes : List ℕ) (x : OffloadXstat) → AreBytes bytes → is_checked bytes ≡ true
    → attribute_at bytes ≡ Ok x → ReadsBack x
attribute-read p bytes x are checked is =
    attribute-reads ReadsBack rows (λ n. Other n) bytes x are (
    row-reads (λ s. CountersFit s) ReadsBack stats_at (λ s. CpuHit s) 1 counters-read (λ s fits. fits)
    & row-reads (λ i. Unit {0}) ReadsBack info_at (λ i. HwStatsInfo i) 2 info-read (λ i back. back)
    & row-reads (λ s. hw_stats.ReadsBack s) ReadsBack hw_stats_at (λ s. L3Stats s) 3 hw_stats-value-read (λ s fits. fits)
    & tt
    ) (λ n none. none) is
