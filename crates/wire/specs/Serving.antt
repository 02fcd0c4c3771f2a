-- The effect of serving a connection on the state and on both ends of the connection.
use Rattle.std.specs.Prelude.{◌≡◌, ◌<◌, ℕ, List, length, Option, Some, None, Result, Ok, Err, ⊤}
use Rattle.std.specs.Io.KnownBytes.{Keeps}
use Rattle.http_message.specs.Reply.{ReplyParts, reply_text}
use Rattle.http_message.specs.Reading.{FailsAfter, IsClosed, Takes}
use Rattle.counted_io.specs.ReaderWriter.{Reader, Writer}
use Rattle.counted_io.specs.Writing.{WritesText}
use Rattle.counted_io.specs.declared.writing.WriteFault.{WriteFault}
use Rattle.counted_io.specs.declared.writing.WriteFault.TheVariants as write_fault
use Rattle.wire.specs.Answer.{Replies}
use Rattle.wire.specs.Counting.{rows_of}
use Rattle.wire.specs.Decision.{IsEnough, IsUndecided, Names}
use Rattle.wire.specs.State.{StateParts}
use Rattle.wire.specs.declared.fault.WireFault.{WireFault}
use Rattle.wire.specs.declared.fault.WireFault.TheVariants.{Closed, Read, Write, WriteZero}
use Rattle.wire.specs.declared.decision.RequestRead.{RequestRead}
use Rattle.wire.specs.declared.summary.Summary.{Summary}

-- a server's state, with the reader and the writer of a connection
pub record Connection : Type 0 where
  pub state : StateParts
  pub reader : Reader
  pub writer : Writer

-- no read failed, and at least one byte was taken, but no more than a decision needs
pub record ReadsEnough (old new : Reader) : Type 0 where
  pub taken : List ℕ
  pub takes : Takes taken old new
  pub some : 0 < length taken
  pub enough : IsEnough taken

-- The reader had an input left, of which this much was read, and which has a reply. The reply was written, completely or up to the writer's
-- fault, and the state is the one after the reply.
pub record IsReplied (request_read : RequestRead) (written : Result (Unit {0}) WriteFault) (old new : Connection) : Type 0 where
  pub input : List ℕ
  pub is_input : Keeps old.reader.left (Some input)
  pub read : ReadsEnough old.reader new.reader
  pub reply : ReplyParts
  pub replies : Replies input request_read old.state reply new.state
  pub writes : WritesText (reply_text reply) written old.writer new.writer

-- nothing was written, and the state is unchanged
pub record IsUnanswered (old new : Connection) : Type 0 where
  pub state : new.state ≡ old.state
  pub writer : new.writer ≡ old.writer

-- a read failed after bytes that don't suffice for a decision
pub record FailsUndecided (old new : Reader) : Type 0 where
  pub taken : List ℕ
  pub fails : FailsAfter taken old new
  pub undecided : IsUndecided taken

-- How serving ends. Either a reply was written, completely or up to the writer's fault; or nothing was written, because there is no input or
-- because a read failed before the decision.
abbrev pub IsServed : {T : Type 0} → Result T WireFault → Connection → Connection → Type 0
IsServed (Ok done) old new = (request_read : RequestRead) × IsReplied request_read (Ok tt) old new
IsServed (Err Write) old new = (request_read : RequestRead) × IsReplied request_read (Err write_fault.Write) old new
IsServed (Err WriteZero) old new = (request_read : RequestRead) × IsReplied request_read (Err write_fault.WriteZero) old new
IsServed (Err Closed) old new = IsUnanswered old new × IsClosed old.reader new.reader
IsServed (Err Read) old new = IsUnanswered old new × FailsUndecided old.reader new.reader

-- a written reply comes with how much of the request was read
abbrev pub ReturnsRequestRead : Result RequestRead WireFault → Connection → Connection → Type 0
ReturnsRequestRead (Ok request_read) old new = IsReplied request_read (Ok tt) old new
ReturnsRequestRead (Err fault) old new = ⊤

-- the length of a body, if the reply was written completely
abbrev pub written_length : Result (Unit {0}) WriteFault → ℕ → Option ℕ
written_length (Ok done) length = Some length
written_length (Err fault) length = None

-- the number of rows in a reply, if it was written completely
abbrev pub written_rows : Result (Unit {0}) WriteFault → ℕ → ℕ
written_rows (Ok done) rows = rows
written_rows (Err fault) rows = 0

-- what an input names, the status of its reply, and the length of the reply's body and its rows if the reply was written completely
pub record IsSummaryOf (summary : Summary) (input : List ℕ) (reply : ReplyParts) (written : Result (Unit {0}) WriteFault) : Type 0 where
  pub names : Names input summary.named
  pub status : summary.status ≡ Some reply.status
  pub length_is : summary.length ≡ written_length written (length reply.body)
  pub rows_is : summary.rows ≡ written_rows written (rows_of summary.named.route reply)

-- a request was replied to, and this is the summary
pub record SummarizesReply (summary : Summary) (written : Result (Unit {0}) WriteFault) (old new : Connection) : Type 0 where
  pub request_read : RequestRead
  pub replied : IsReplied request_read written old new
  pub is_summary : IsSummaryOf summary replied.input replied.reply written

-- the summary without a request
abbrev pub nothing : Summary
nothing = record { named = record { verb = None; route = None }; status = None; length = None; rows = 0 }

-- the summary of serving a connection
abbrev pub IsSummarized : {T : Type 0} → Summary → Result T WireFault → Connection → Connection → Type 0
IsSummarized summary (Ok done) old new = SummarizesReply summary (Ok tt) old new
IsSummarized summary (Err Write) old new = SummarizesReply summary (Err write_fault.Write) old new
IsSummarized summary (Err WriteZero) old new = SummarizesReply summary (Err write_fault.WriteZero) old new
IsSummarized summary (Err Closed) old new = summary ≡ nothing
IsSummarized summary (Err Read) old new = summary ≡ nothing
