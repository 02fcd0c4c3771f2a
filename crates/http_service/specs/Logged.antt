-- The program's service, and a service and a listener with a log.
use Rattle.std.specs.Prelude.{◌≡◌, ℕ, Option, Some, Result, Ok, Err}
use Rattle.std.specs.Net.Socket.{socket_ip}
use Rattle.std.specs.declared.io.Error.{Error}
use Rattle.std.specs.declared.net.socket_addr.SocketAddr.{SocketAddr}
use Rattle.std.specs.declared.time.Instant.{Instant}
use Rattle.httpdate.specs.declared.date.HttpDate.{HttpDate}
use Rattle.counted_io.specs.ReaderWriter.{Writer}
use Rattle.http_service.specs.Log.{Dates, LogsEvent, ReadsDate, WritesEntry, micros_between}
use Rattle.http_service.specs.declared.entry.Entry.{Entry}
use Rattle.http_service.specs.declared.entry.EntrySubject.TheVariants.{FailedAccept, Request}
use Rattle.http_service.specs.declared.logged.Logged.{Logged}
use Rattle.http_service.specs.declared.logged_listener.LoggedListener.{LoggedListener}
use Rattle.jobs.specs.declared.event.Reply.{Reply as JobReply}
use Rattle.tcp_server.specs.Acceptor.{Accepts}
use Rattle.tcp_server.specs.Service.{ClientStreams}
use Rattle.tcp_server.specs.Stopwatch.{Shows}
use Rattle.tcp_server.specs.declared.service.Close.{Close}
use Rattle.tcp_server.specs.declared.service.Close.TheVariants.{AtOnce, Lingering}
use Rattle.wire.specs.Counting.{counted}
use Rattle.wire.specs.Serving.{Connection, IsServed, IsSummarized, ReturnsRequestRead}
use Rattle.wire.specs.State.{StateParts}
use Rattle.wire.specs.Turn.{MakesTurn}
use Rattle.wire.specs.declared.decision.RequestRead.{RequestRead}
use Rattle.wire.specs.declared.decision.RequestRead.TheVariants.{Complete, Partial}
use Rattle.wire.specs.declared.fault.WireFault.{WireFault}
use Rattle.wire.specs.declared.summary.Summary.{Summary}

-- how to close a connection: lingering if the reply was written before the request was read completely
abbrev pub close_of : Result RequestRead WireFault → Close
close_of (Ok Partial) = Lingering
close_of (Ok Complete) = AtOnce
close_of (Err fault) = AtOnce

abbrev pub connection : StateParts → ClientStreams → Connection
connection state streams = record { state = state; reader = streams.reader; writer = streams.writer }

-- a request over these streams was served, whatever the result, which has a summary and determines how to close the connection; then it was counted
pub record HasServed (old : StateParts) (streams : ClientStreams) (close : Close) (new : StateParts) (new_streams : ClientStreams)
    : Type 0 where
  pub result : Result RequestRead WireFault
  pub answered : StateParts
  pub is_served : IsServed result (connection old streams) (connection answered new_streams)
  pub returns_request_read : ReturnsRequestRead result (connection old streams) (connection answered new_streams)
  pub summary : Summary
  pub is_summarized : IsSummarized summary result (connection old streams) (connection answered new_streams)
  pub counts : new ≡ counted summary answered
  pub closes : close ≡ close_of result

-- a turn was made, or there was none to make
abbrev pub HasTurned : StateParts → StateParts → Type 0
HasTurned old new = (reply : Option JobReply) × MakesTurn old reply new

-- ---- with a log

-- the readings of a log's clock, and its writer as contracts see it
pub record LogRules (W T : Type 0) : Type 1 where
  pub shows : Shows T
  pub dates : Dates T
  pub writer_of : W → Writer

-- the clock was read for a line: the date, the time before serving, and the time after it
pub record ReadsClock {W T : Type 0} (rules : LogRules W T) (date : Option HttpDate) (micros : Option ℕ) (old new : T) : Type 0 where
  pub dated : T
  pub reads_date : ReadsDate rules.dates date old dated
  pub start : Result Instant Error
  pub started : T
  pub reads_start : rules.shows dated start started
  pub end : Result Instant Error
  pub reads_end : rules.shows started end new
  pub is_micros : micros ≡ micros_between start end

-- the entry of a request from this peer, with the number of bytes read
abbrev pub request_entry : SocketAddr → ℕ → Summary → Option HttpDate → Option ℕ → Entry
request_entry peer received summary date micros = record {
  peer = Some (socket_ip peer);
  date = date;
  subject = Request summary.named.verb summary.named.route;
  status = summary.status;
  length = summary.length;
  received = Some received;
  micros = micros;
}

-- a client was served, and then its line was written
pub record ServesLogged {A W T : Type 0} (rules : LogRules W T) (old : Logged A W T) (streams : ClientStreams) (close : Close) (new : Logged A W T)
    (new_streams : ClientStreams) : Type 0 where
  pub has_served : HasServed old.state streams close new.state new_streams
  pub date : Option HttpDate
  pub micros : Option ℕ
  pub reads_clock : ReadsClock rules date micros old.timer new.timer
  pub writes : WritesEntry (request_entry streams.input.peer new_streams.input.received has_served.summary date micros) (rules.writer_of old.log)
      (rules.writer_of new.log)

-- a turn was made; the log stays
pub record TurnsLogged {A W T : Type 0} (old new : Logged A W T) : Type 0 where
  pub has_turned : HasTurned old.state new.state
  pub log : new.log ≡ old.log
  pub timer : new.timer ≡ old.timer

-- an accept, and a line if it failed
abbrev pub AcceptsLogged : {L S W T : Type 0} → Accepts L S → Dates T → (W → Writer) → Accepts (LoggedListener L W T) S
AcceptsLogged accepts dates writer_of old (Ok accepted) new =
    accepts old.listener (Ok accepted) new.listener × (new.log ≡ old.log) × (new.timer ≡ old.timer)
AcceptsLogged accepts dates writer_of old (Err error) new =
    accepts old.listener (Err error) new.listener
    × LogsEvent dates FailedAccept old.timer new.timer (writer_of old.log) (writer_of new.log)
