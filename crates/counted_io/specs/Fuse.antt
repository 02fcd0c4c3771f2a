-- A reader or writer that fails in one call.
use Rattle.std.specs.Prelude.{◌≡◌, ℕ, ◌-◌, ◌==◌, nat_lt, Bool, ◌&&◌, ◌||◌, not, min, if◌then◌else◌, Result, Ok, Err, IsErr}
use Rattle.counted_io.specs.Counting.{next_count}
use Rattle.counted_io.specs.declared.fuse.InjectedFailure.{InjectedFailure}
use Rattle.counted_io.specs.declared.fuse.InjectedFailure.TheVariants.{Fails, TakesNothing}
use Rattle.counted_io.specs.declared.fuse.Fuse.{Fuse}

-- a call with this many bytes must fail: no call has failed yet, and either no call is left, or no byte is left and the call has some
abbrev pub is_due : {T : Type 0} → Fuse T → ℕ → Bool
is_due fuse bytes = not fuse.is_blown && (fuse.calls_left == 0 || (fuse.bytes_left == 0 && nat_lt 0 bytes))

-- the fuse after such a call, apart from the effect on the inner reader or writer
abbrev pub after_call : {T : Type 0} → Fuse T → ℕ → Fuse T
after_call fuse bytes = record fuse {
  calls_left = fuse.calls_left - 1;
  is_blown = fuse.is_blown || is_due fuse bytes;
  calls = next_count fuse.calls;
}

-- the result of the failing write
abbrev pub IsInjectedFailure : {E : Type 0} → InjectedFailure → Result ℕ E → Type 0
IsInjectedFailure (Fails kind) result = IsErr result
IsInjectedFailure TakesNothing result = result ≡ Ok 0

-- the number of bytes that a passing write forwards: at most the number left to take, or all of them once the fuse has blown
abbrev pub room : {T : Type 0} → Fuse T → ℕ → ℕ
room fuse bytes = if fuse.is_blown then bytes else min bytes fuse.bytes_left

-- the number of bytes left to take after a write
abbrev pub bytes_left_after : {T E : Type 0} → Fuse T → Result ℕ E → ℕ
bytes_left_after fuse (Ok taken) = fuse.bytes_left - taken
bytes_left_after fuse (Err error) = fuse.bytes_left
