-- Accepts of a listener, up to the next connection.
use Rattle.std.specs.Prelude.{◌≡◌, ◌⊎◌, ◌+◌, ◌-◌, ◌<◌, ◌^◌, Bool, true, false, Result, Ok, Err}
use Rattle.std.specs.IoError.{error_kind}
use Rattle.std.specs.declared.io.Error.{Error}
use Rattle.std.specs.declared.io.ErrorKind.{ErrorKind}
use Rattle.std.specs.declared.io.ErrorKind.TheVariants.{ConnectionAborted, Interrupted}
use Rattle.std.specs.declared.net.socket_addr.SocketAddr.{SocketAddr}
use Rattle.tcp_server.specs.Repeats.{HasRepeated}
use Rattle.tcp_server.specs.declared.acceptor.Acceptor.{Acceptor}
use Rattle.tcp_server.specs.declared.acceptor.Connection.{Connection}

-- an accept failed for a single connection, which its client aborted, or because of a signal: the next connection can be accepted
abbrev pub is_transient : ErrorKind → Bool
is_transient ConnectionAborted = true
is_transient Interrupted = true
is_transient kind = false

-- what an accept does: the listener before it, its result, a stream with the address of the client, and the listener after it
abbrev pub Accepts : Type 0 → Type 0 → Type 1
Accepts L S = L → Result (S × SocketAddr) Error → L → Type 0

-- one accept was made and counted, with this result
pub record MakesAccept {L S : Type 0} (accepts : Accepts L S) (result : Result (S × SocketAddr) Error) (old new : Acceptor L) : Type 0 where
  pub room : old.attempts < 2 ^ 64 - 1
  pub counted : new.attempts ≡ old.attempts + 1
  pub accept : accepts old.listener result new.listener

-- one accept failed for a single connection or because of a signal
pub record SkipsAccept {L S : Type 0} (accepts : Accepts L S) (old new : Acceptor L) : Type 0 where
  pub error : Error
  pub transient : is_transient (error_kind error) ≡ true
  pub accept : MakesAccept accepts (Err error) old new

-- the listener's next connection was accepted, after accepts that were skipped, and has the number of its accept
pub record AcceptsConnection {L S : Type 0} (accepts : Accepts L S) (connection : Connection S) (old new : Acceptor L) : Type 0 where
  pub now : Acceptor L
  pub skips : HasRepeated (SkipsAccept accepts) old now
  pub accept : MakesAccept accepts (Ok (connection.stream, connection.peer)) now new
  pub number : connection.number ≡ new.attempts

-- the last accept failed for another reason than a single connection or a signal
pub record FailsLast {L S : Type 0} (accepts : Accepts L S) (error : Error) (old new : Acceptor L) : Type 0 where
  pub permanent : is_transient (error_kind error) ≡ false
  pub accept : MakesAccept accepts (Err error) old new

-- no accept can be counted any more
pub record IsFull {L : Type 0} (old new : Acceptor L) : Type 0 where
  pub full : old.attempts ≡ 2 ^ 64 - 1
  pub same : new ≡ old

-- no connection was accepted: the error is that of the last accept, which came after accepts that were skipped
pub record FailsToAccept {L S : Type 0} (accepts : Accepts L S) (error : Error) (old new : Acceptor L) : Type 0 where
  pub now : Acceptor L
  pub skips : HasRepeated (SkipsAccept accepts) old now
  pub fails : FailsLast accepts error now new ⊎ IsFull now new
