-- The effect of reader and writer calls on the failure counts.
use Rattle.std.specs.Prelude.{◌≡◌, ◌≢◌, ℕ, ◌+◌, ◌%◌, ◌^◌, ◌<◌, List, length, refl, Result, Ok, Err, MatchResult}
use Rattle.std.specs.Coded.{Coded, code_by, coded×, coded_ℕ}
use Rattle.counted_io.specs.ReaderWriter.{WriteCounts}
use Rattle.counted_io.specs.declared.writing.WriteFault.{WriteFault}
use Rattle.counted_io.specs.declared.writing.WriteFault.TheVariants.{Write, WriteZero}

-- a failed read changes the count; any other leaves it unchanged
abbrev pub CountsFailure : {V E : Type 0} → Result V E → ℕ → ℕ → Type 0
CountsFailure result old new = MatchResult result (λ _. new ≡ old) (λ _. new ≢ old)

-- a writer's fault changes its own count and leaves the others unchanged
abbrev pub CountsFault : WriteFault → WriteCounts → WriteCounts → Type 0
CountsFault Write old new = (new.failed ≢ old.failed) × (new.empty ≡ old.empty) × (new.flushes ≡ old.flushes)
CountsFault WriteZero old new = (new.failed ≡ old.failed) × (new.empty ≢ old.empty) × (new.flushes ≡ old.flushes)

-- a failed write counts as fault Write, a nonempty write that writes 0 bytes counts as WriteZero, and any other write is not counted
abbrev pub CountsWrite : {E : Type 0} → Result ℕ E → List ℕ → WriteCounts → WriteCounts → Type 0
CountsWrite (Ok taken) bytes old new =
    (0 < taken → new ≡ old) × (length bytes ≡ 0 → new ≡ old) × (taken ≡ 0 → 0 < length bytes → CountsFault WriteZero old new)
CountsWrite (Err error) bytes old new = CountsFault Write old new

-- every flush changes the count of flushes; a failed one also changes the count of failed calls
abbrev pub CountsFlush : {V E : Type 0} → Result V E → WriteCounts → WriteCounts → Type 0
CountsFlush (Ok done) old new = (new.failed ≡ old.failed) × (new.empty ≡ old.empty) × (new.flushes ≢ old.flushes)
CountsFlush (Err error) old new = (new.failed ≢ old.failed) × (new.empty ≡ old.empty) × (new.flushes ≢ old.flushes)

-- one more; a full count wraps to 0
abbrev pub next_count : ℕ → ℕ
next_count count = (count + 1) % 2 ^ 64

-- a failed read adds one to the count; any other leaves it unchanged
abbrev pub AddsFailure : {V E : Type 0} → Result V E → ℕ → ℕ → Type 0
AddsFailure result old new = MatchResult result (λ _. new ≡ old) (λ _. new ≡ next_count old)

-- the counts with one more fault, and with one more flush
abbrev pub with_fault : WriteFault → WriteCounts → WriteCounts
with_fault Write counts = record counts { failed = next_count counts.failed }
with_fault WriteZero counts = record counts { empty = next_count counts.empty }

abbrev pub with_flush : WriteCounts → WriteCounts
with_flush counts = record counts { flushes = next_count counts.flushes }

-- like CountsWrite and CountsFlush, with each fault and each flush counted as exactly one
abbrev pub AddsWrite : {E : Type 0} → Result ℕ E → List ℕ → WriteCounts → WriteCounts → Type 0
AddsWrite (Ok taken) bytes old new =
    (0 < taken → new ≡ old) × (length bytes ≡ 0 → new ≡ old) × (taken ≡ 0 → 0 < length bytes → new ≡ with_fault WriteZero old)
AddsWrite (Err error) bytes old new = new ≡ with_fault Write old

abbrev pub AddsFlush : {V E : Type 0} → Result V E → WriteCounts → WriteCounts → Type 0
AddsFlush (Ok done) old new = new ≡ with_flush old
AddsFlush (Err error) old new = new ≡ with_flush (with_fault Write old)

-- a reader or writer with its counts
pub record CountingParts (T : Type 0) : Type 0 where
  pub inner : T
  pub failed_reads : ℕ
  pub counts : WriteCounts

abbrev pub counting_code : {T : Type 0} → Coded T → Coded (CountingParts T)
counting_code {T} code =
    code_by (T × (ℕ × (ℕ × (ℕ × ℕ)))) (coded× code (coded× coded_ℕ (coded× coded_ℕ (coded× coded_ℕ coded_ℕ)))) (λ c. (c.inner, (c.failed_reads, (c.counts.failed, (c.counts.empty, c.counts.flushes))))) (λ p. record { inner = p.0; failed_reads = p.1.0; counts = record { failed = p.1.1.0; empty = p.1.1.1.0; flushes = p.1.1.1.1 } }) (λ _. refl)
