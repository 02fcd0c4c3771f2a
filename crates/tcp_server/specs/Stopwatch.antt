-- The time since a stopwatch's first reading.
use Rattle.std.specs.Prelude.{◌≡◌, ◌⊎◌, ℕ, ◌-◌, Option, None, Some, Result, Ok, Err}
use Rattle.std.specs.Duration.{as_nanos}
use Rattle.std.specs.IoError.{error_kind}
use Rattle.std.specs.Time.{instant_nanos}
use Rattle.std.specs.declared.io.Error.{Error}
use Rattle.std.specs.declared.io.ErrorKind.TheVariants.{TimedOut}
use Rattle.std.specs.declared.time.Duration.{Duration}
use Rattle.std.specs.declared.time.Instant.{Instant}
use Rattle.tcp_server.specs.Limits.{wait}
use Rattle.tcp_server.specs.declared.stopwatch.Stopwatch.{Stopwatch}

-- what a reading of a clock does: the clock before it, its result, and the clock after it
abbrev pub Shows : Type 0 → Type 1
Shows T = T → Result Instant Error → T → Type 0

-- the first reading is the start
abbrev pub start_of : Option Instant → Instant → Instant
start_of None now = now
start_of (Some start) now = start

-- the clock showed `now`, and so much time has passed since the start
pub record Shown {T : Type 0} (shows : Shows T) (elapsed : Duration) (old new : Stopwatch T) : Type 0 where
  pub now : Instant
  pub shown : shows old.timer (Ok now) new.timer
  pub start : new.start ≡ Some (start_of old.start now)
  pub elapsed_nanos : as_nanos elapsed ≡ instant_nanos now - instant_nanos (start_of old.start now)

-- the clock couldn't be read
pub record Fails {T : Type 0} (shows : Shows T) (error : Error) (old new : Stopwatch T) : Type 0 where
  pub fails : shows old.timer (Err error) new.timer
  pub start : new.start ≡ old.start

abbrev pub Elapses : {T : Type 0} → Shows T → Result Duration Error → Stopwatch T → Stopwatch T → Type 0
Elapses shows (Ok elapsed) old new = Shown shows elapsed old new
Elapses shows (Err error) old new = Fails shows error old new

-- a clock with the limits on some calls, in nanoseconds: on the wait of one call, and on all calls together
pub record Timing (T : Type 0) : Type 1 where
  pub shows : Shows T
  pub idle : ℕ
  pub limit : ℕ

-- the limit is over
pub record IsOver {T : Type 0} (timing : Timing T) (error : Error) (old new : Stopwatch T) : Type 0 where
  pub elapsed : Duration
  pub shown : Shown timing.shows elapsed old new
  pub over : wait timing.idle timing.limit (as_nanos elapsed) ≡ None
  pub kind : error_kind error ≡ TimedOut

-- the time that the next call may wait, after the time that the clock shows; an error if the limit is over or the clock can't be read
abbrev pub LeavesTime : {T : Type 0} → Timing T → Result Duration Error → Stopwatch T → Stopwatch T → Type 0
LeavesTime timing (Ok time) old new =
    (elapsed : Duration) × Shown timing.shows elapsed old new × (wait timing.idle timing.limit (as_nanos elapsed) ≡ Some (as_nanos time))
LeavesTime timing (Err error) old new = Fails timing.shows error old new ⊎ IsOver timing error old new
