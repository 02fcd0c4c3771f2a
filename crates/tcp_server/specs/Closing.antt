-- Closing a client's connection.
use Rattle.std.specs.Prelude.{◌≡◌, ◌⊎◌, ℕ, ◌+◌, ◌^◌, ◌<◌, Bool, true, false, List, Result, Ok, Err, None}
use Rattle.std.specs.declared.io.Error.{Error}
use Rattle.tcp_server.specs.Repeats.{HasRepeated}
use Rattle.tcp_server.specs.Socket.{Calls}
use Rattle.tcp_server.specs.Stopwatch.{Shows}
use Rattle.tcp_server.specs.Timed.{Waiting, Waits, within}
use Rattle.tcp_server.specs.declared.service.Close.{Close}
use Rattle.tcp_server.specs.declared.service.Close.TheVariants.{AtOnce, Lingering}
use Rattle.tcp_server.specs.declared.timed.Timed.{Timed}

-- a socket with its stopwatch, and how many more of its bytes may be dropped
pub record Dropping (H T : Type 0) : Type 0 where
  pub timed : Timed H T
  pub room : ℕ

-- one read of at least one byte, which were dropped
pub record DropsBytes {H T : Type 0} (waiting : Waiting H T) (old new : Dropping H T) : Type 0 where
  pub buffer : List ℕ
  pub count : ℕ
  pub waits : Waits waiting buffer (Ok count) old.timed new.timed
  pub some : 0 < count
  pub room : old.room ≡ count + new.room

-- the last read found the end or failed
pub record ReadsNone {H T : Type 0} (waiting : Waiting H T) (old new : Timed H T) : Type 0 where
  pub buffer : List ℕ
  pub result : Result ℕ Error
  pub waits : Waits waiting buffer result old new
  pub none : (result ≡ Ok 0) ⊎ (error : Error) × (result ≡ Err error)

-- nothing more may be dropped
pub record HasNoRoom {H T : Type 0} (old : Dropping H T) (new : Timed H T) : Type 0 where
  pub full : old.room ≡ 0
  pub same : new ≡ old.timed

-- bytes were read and dropped until the end, a failure, or 2 ^ 20 bytes
pub record DropsUnread {H T : Type 0} (waiting : Waiting H T) (old new : Timed H T) : Type 0 where
  pub now : Dropping H T
  pub drops : HasRepeated (DropsBytes waiting) (record { timed = old; room = 2 ^ 20 }) now
  pub ends : ReadsNone waiting now.timed new ⊎ HasNoRoom now new

-- how a socket is closed: its calls, the clock, and the limit in nanoseconds on reads after a request
pub record Closing (H T : Type 0) : Type 1 where
  pub reads : Calls H
  pub looks : H → Bool → H → Type 0
  pub ends_output : H → H → Type 0
  pub shows : Shows T
  pub timer : T
  pub limit : ℕ

-- the sending side was ended, and then all that the client still sent was dropped, within the limit
pub record Lingers {H T : Type 0} (closing : Closing H T) (old new : H) : Type 0 where
  pub ended : closing.ends_output old new
  pub last : Timed H T
  pub drops : DropsUnread (within closing.reads closing.shows closing.limit)
      (record { socket = new; stopwatch = record { timer = closing.timer; start = None } }) last

abbrev pub LingersIf : {H T : Type 0} → Bool → Closing H T → H → H → Type 0
LingersIf true closing old new = Lingers closing old new
LingersIf false closing old new = new ≡ old

-- A connection lingers exactly if the service wants that, or a look finds bytes that the client has sent and that weren't read.
abbrev pub Closes : {H T : Type 0} → Closing H T → Close → H → H → Type 0
Closes closing Lingering old new = Lingers closing old new
Closes {H} closing AtOnce old new = (unread : Bool) × (now : H) × closing.looks old unread now × LingersIf unread closing now new
