-- Calls of a socket, none of which waits longer than its limits allow.
use Rattle.std.specs.Prelude.{◌≡◌, ◌≢◌, ◌⊎◌, ℕ, ◌-◌, ◌^◌, List, Result, Ok, Err}
use Rattle.std.specs.Duration.{as_nanos}
use Rattle.std.specs.IoError.{error_kind}
use Rattle.std.specs.declared.io.Error.{Error}
use Rattle.std.specs.declared.io.ErrorKind.TheVariants.{Interrupted, TimedOut}
use Rattle.std.specs.declared.time.Duration.{Duration}
use Rattle.tcp_server.specs.Repeats.{HasRepeated}
use Rattle.tcp_server.specs.Socket.{Calls}
use Rattle.tcp_server.specs.Stopwatch.{LeavesTime, Shows, Timing}
use Rattle.tcp_server.specs.declared.timed.Timed.{Timed}

-- what the socket's calls do, and the time for them
pub record Waiting (H T : Type 0) : Type 1 where
  pub calls : Calls H
  pub timing : Timing T

-- one limit for all calls, so each may wait as long
abbrev pub within : {H T : Type 0} → Calls H → Shows T → ℕ → Waiting H T
within calls shows limit = record { calls = calls; timing = record { shows = shows; idle = limit; limit = limit } }

-- one call with this result was made, and it waited no longer than for the time that was left before it
pub record MakesCall {H T : Type 0} (waiting : Waiting H T) (buffer : List ℕ) (result : Result ℕ Error) (old new : Timed H T) : Type 0 where
  pub time : Duration
  pub left : LeavesTime waiting.timing (Ok time) old.stopwatch new.stopwatch
  pub call : waiting.calls old.socket (record { wait = as_nanos time; buffer = buffer; result = result }) new.socket

-- one call was interrupted
pub record IsInterrupted {H T : Type 0} (waiting : Waiting H T) (old new : Timed H T) : Type 0 where
  pub buffer : List ℕ
  pub error : Error
  pub interrupted : error_kind error ≡ Interrupted
  pub call : MakesCall waiting buffer (Err error) old new

-- no call was made, because no time was left or the clock couldn't be read
pub record MakesNoCall {H T : Type 0} (waiting : Waiting H T) (error : Error) (old new : Timed H T) : Type 0 where
  pub left : LeavesTime waiting.timing (Err error) old.stopwatch new.stopwatch
  pub socket : new.socket ≡ old.socket

-- one call failed, and wasn't interrupted
pub record FailsCall {H T : Type 0} (waiting : Waiting H T) (buffer : List ℕ) (error : Error) (old new : Timed H T) : Type 0 where
  pub uninterrupted : error_kind error ≢ Interrupted
  pub call : MakesCall waiting buffer (Err error) old new

-- every call was interrupted, as often as can be counted
pub record IsAlwaysInterrupted {H T : Type 0} (count : ℕ) (result : Result ℕ Error) (old new : Timed H T) : Type 0 where
  pub all : count ≡ 2 ^ 64 - 1
  pub error : Error
  pub fails : result ≡ Err error
  pub kind : error_kind error ≡ TimedOut
  pub same : new ≡ old

-- how waiting ends: with a call that isn't interrupted, or without one
abbrev pub EndsWaiting : {H T : Type 0} → Waiting H T → List ℕ → Result ℕ Error → Timed H T → Timed H T → Type 0
EndsWaiting waiting buffer (Ok bytes) old new = MakesCall waiting buffer (Ok bytes) old new
EndsWaiting waiting buffer (Err error) old new = FailsCall waiting buffer error old new ⊎ MakesNoCall waiting error old new

-- a call was made, and repeated after each interruption, always within the time left
pub record Waits {H T : Type 0} (waiting : Waiting H T) (buffer : List ℕ) (result : Result ℕ Error) (old new : Timed H T) : Type 0 where
  pub now : Timed H T
  pub interrupted : HasRepeated (IsInterrupted waiting) old now
  pub ends : EndsWaiting waiting buffer result now new ⊎ IsAlwaysInterrupted interrupted.count result now new
