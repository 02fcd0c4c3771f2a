-- Internal definitions: the results of reading an input and replying to it.
use Rattle.std.specs.Prelude.{◌≡◌, ◌<◌, ℕ, List, length, Some, Result, Ok, Err}
use Rattle.std.specs.Io.KnownBytes.{Keeps}
use Rattle.http_message.specs.Reply.{ReplyParts, reply_text}
use Rattle.http_message.specs.Reading.{IsClosed}
use Rattle.http_message.specs.declared.head.HeadFault.{HeadFault}
use Rattle.http_message.specs.declared.head.HeadFault.TheVariants as head_fault
use Rattle.counted_io.specs.ReaderWriter.{Reader, Writer}
use Rattle.counted_io.specs.Writing.{WritesText}
use Rattle.counted_io.specs.declared.writing.WriteFault.{WriteFault}
use Rattle.wire.specs.Decision.{AnnouncesBody, RoutedParts, DecisionParts, IsDecided, Names}
use Rattle.wire.specs.Decision as parts
use Rattle.wire.specs.Counting.{line_feeds, rows_among}
use Rattle.wire.specs.Serving.{FailsUndecided, ReadsEnough, nothing, written_length, written_rows}
use Rattle.wire.specs.WireFault.{of_write}
use Rattle.wire.specs.declared.fault.WireFault.{WireFault}
use Rattle.wire.specs.declared.decision.RoutedRequest.{RoutedRequest}
use Rattle.wire.specs.declared.decision.Decision.{Decision}
use Rattle.wire.specs.declared.decision.Decision.TheVariants.{Refuses, Disallows, Accepts}
use Rattle.wire.specs.declared.decision.ReadFault.{ReadFault}
use Rattle.wire.specs.declared.decision.ReadFault.TheVariants.{Closed, Read, Memory}
use Rattle.wire.specs.declared.decision.RequestRead.{RequestRead}
use Rattle.wire.specs.declared.serving.Served.{Served}
use Rattle.wire.specs.declared.summary.Named.{Named}
use Rattle.wire.specs.declared.summary.Sent.{Sent}
use Rattle.wire.specs.declared.summary.Summary.{Summary}

abbrev pub of_head : HeadFault → ReadFault
of_head head_fault.Closed = Closed
of_head head_fault.Read = Read

abbrev pub routed_of : {A : Type 0} → RoutedRequest A → RoutedParts
routed_of request = record { action = request.action; path = request.target.path.now; query = request.target.query.now; body = request.body.items }

abbrev pub decision_of : {A : Type 0} → Decision A → DecisionParts
decision_of (Refuses status) = parts.Refuses status
decision_of (Disallows route) = parts.Disallows route
decision_of (Accepts request) = parts.Accepts (routed_of request)

-- the reader had an input left, which names this and has this decision
pub record Decides (named : Named) (decision : DecisionParts) (old new : Reader) : Type 0 where
  pub input : List ℕ
  pub is_input : Keeps old.left (Some input)
  pub names : Names input named
  pub decided : IsDecided input decision
  pub read : ReadsEnough old new

-- the reader had an input left whose head names this, and announces a body that isn't empty
pub record StopsInBody (named : Named) (old new : Reader) : Type 0 where
  pub input : List ℕ
  pub is_input : Keeps old.left (Some input)
  pub names : Names input named
  pub announced : AnnouncesBody input
  pub nonempty : 0 < announced.count
  pub read : ReadsEnough old new

abbrev pub FailsToDecide : ReadFault → Reader → Reader → Type 0
FailsToDecide Closed old new = IsClosed old new
FailsToDecide Read old new = FailsUndecided old new
FailsToDecide (Memory named) old new = StopsInBody named old new

-- the result of serving, once a reply was written completely or in part
abbrev pub result_of : RequestRead → Result (Unit {0}) WriteFault → Result RequestRead WireFault
result_of request_read (Ok done) = Ok request_read
result_of request_read (Err fault) = Err (of_write fault)

-- a reply was written, completely or up to the writer's fault, and `sent` says so
pub record Sends (reply : ReplyParts) (sent : Sent) (old new : Writer) : Type 0 where
  pub status : sent.status ≡ reply.status
  pub media_is : sent.media ≡ reply.media
  pub length_is : sent.length ≡ length reply.body
  pub lines_is : sent.lines ≡ line_feeds reply.body
  pub writes : WritesText (reply_text reply) sent.written old new

-- the same of such a reply
pub record WritesReply (is_reply : ReplyParts → Type 0) (sent : Sent) (old new : Writer) : Type 0 where
  pub reply : ReplyParts
  pub is_such : is_reply reply
  pub sends : Sends reply sent old new

abbrev pub summary_of : Named → Sent → Summary
summary_of named sent = record {
  named = named;
  status = Some sent.status;
  length = written_length sent.written sent.length;
  rows = written_rows sent.written (rows_among named.route sent.status sent.media sent.lines);
}

-- a reply was written, completely or in part
abbrev pub after_reply : Named → RequestRead → Sent → Served
after_reply named request_read sent = record { result = result_of request_read sent.written; summary = summary_of named sent }

-- no reply was written
abbrev pub without_reply : WireFault → Served
without_reply fault = record { result = Err fault; summary = nothing }
