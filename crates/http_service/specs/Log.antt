-- Writing to a log.
use Rattle.std.specs.Prelude.{◌≡◌, ◌≤◌, ℕ, ◌-◌, ◌/◌, ◌^◌, min, Option, Some, None, option_map, Result, Ok, Err}
use Rattle.std.specs.Time.{instant_nanos, system_time_nanos}
use Rattle.std.specs.declared.io.Error.{Error}
use Rattle.std.specs.declared.time.Instant.{Instant}
use Rattle.std.specs.declared.time.SystemTime.{SystemTime}
use Rattle.httpdate.specs.Date.{unix_secs}
use Rattle.httpdate.specs.declared.date.HttpDate.{HttpDate}
use Rattle.counted_io.specs.ReaderWriter.{Writer}
use Rattle.counted_io.specs.Writing.{WritesText}
use Rattle.counted_io.specs.declared.writing.WriteFault.{WriteFault}
use Rattle.http_service.specs.Line.{line}
use Rattle.http_service.specs.declared.entry.Entry.{Entry}
use Rattle.http_service.specs.declared.entry.EntrySubject.{EntrySubject}

-- what a reading of the date does: the clock before it, its result, and the clock after it
abbrev pub Dates : Type 0 → Type 1
Dates T = T → Result SystemTime Error → T → Type 0

-- the second in which a time falls, unless the year has more than four digits
abbrev pub IsSecondOf : SystemTime → Option HttpDate → Type 0
IsSecondOf time (Some date) = unix_secs date ≡ system_time_nanos time / 1_000_000_000
IsSecondOf time None = 253_402_300_800 ≤ system_time_nanos time / 1_000_000_000

-- the date that a reading gives, or none if it failed
abbrev pub IsDate : Result SystemTime Error → Option HttpDate → Type 0
IsDate (Ok time) date = IsSecondOf time date
IsDate (Err error) date = date ≡ None

-- the clock was read for the date
pub record ReadsDate {T : Type 0} (dates : Dates T) (date : Option HttpDate) (old new : T) : Type 0 where
  pub reading : Result SystemTime Error
  pub reads : dates old reading new
  pub is_date : IsDate reading date

-- the clock was read for the second of its date
abbrev pub ReadsSecond : {T : Type 0} → Dates T → Option ℕ → T → T → Type 0
ReadsSecond dates second old new = (date : Option HttpDate) × ReadsDate dates date old new × (second ≡ option_map unix_secs date)

-- the microseconds between two readings, if both succeeded
abbrev pub micros_between : Result Instant Error → Result Instant Error → Option ℕ
micros_between (Ok start) (Ok end) = Some (min ((instant_nanos end - instant_nanos start) / 1_000) (2 ^ 64 - 1))
micros_between start end = None

-- the entry's line was written, completely or up to a fault of the writer, which isn't reported
pub record WritesEntry (entry : Entry) (old new : Writer) : Type 0 where
  pub written : Result (Unit {0}) WriteFault
  pub writes : WritesText (line entry) written old new

-- the entry of something else than a request
abbrev pub event_entry : Option HttpDate → EntrySubject → Entry
event_entry date subject =
    record { peer = None; date = date; subject = subject; status = None; length = None; received = None; micros = None }

-- its line was written, with the date of the clock
pub record LogsEvent {T : Type 0} (dates : Dates T) (subject : EntrySubject) (timer timer' : T) (old new : Writer) : Type 0 where
  pub date : Option HttpDate
  pub reads : ReadsDate dates date timer timer'
  pub writes : WritesEntry (event_entry date subject) old new
