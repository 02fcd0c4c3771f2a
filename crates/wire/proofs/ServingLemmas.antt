-- The result of serving, from what was sent.
use Rattle.std.proofs.Common.{◌≡◌, length, Some, inl, inr, refl, ap}
use Rattle.std.specs.Prelude.{Result, Ok, Err}
use Rattle.counted_io.specs.declared.writing.WriteFault.{WriteFault}
use Rattle.counted_io.specs.declared.writing.WriteFault.TheVariants.{Write, WriteZero}
use Rattle.wire.proofs.CountingLemmas.{same_rows}
use Rattle.wire.specs.Answer.{Answers, memory_reply}
use Rattle.wire.specs.Counting.{line_feeds}
use Rattle.wire.specs.Decision.{DecisionParts, Names, request_read_of}
use Rattle.wire.specs.Reading.{Decides, Sends, StopsInBody, WritesReply, after_reply, result_of}
use Rattle.wire.specs.Serving.{Connection, IsReplied, IsServed, IsSummarized, IsSummaryOf, ReturnsRequestRead, written_length, written_rows}
use Rattle.wire.specs.declared.fault.WireFault.{WireFault}
use Rattle.wire.specs.declared.decision.RequestRead.{RequestRead}
use Rattle.wire.specs.declared.decision.RequestRead.TheVariants.{Partial}
use Rattle.wire.specs.declared.serving.Served.{Served}
use Rattle.wire.specs.declared.summary.Named.{Named}
use Rattle.wire.specs.declared.summary.Sent.{Sent}
use Rattle.wire.specs.declared.summary.Summary.{Summary}

-- an input that names this was replied to, and `sent` is about the reply
pub record RepliesSo (named : Named) (request_read : RequestRead) (sent : Sent) (old new : Connection) : Type 0 where
  pub is_replied : IsReplied request_read sent.written old new
  pub names : Names is_replied.input named
  pub status : sent.status ≡ is_replied.reply.status
  pub media_is : sent.media ≡ is_replied.reply.media
  pub length_is : sent.length ≡ length is_replied.reply.body
  pub lines_is : sent.lines ≡ line_feeds is_replied.reply.body

-- ---- what such a reply means for the result

served_so : (request_read : RequestRead) (written : Result (Unit {0}) WriteFault) (result : Result RequestRead WireFault) (old new : Connection)
    → result ≡ result_of request_read written → IsReplied request_read written old new → IsServed result old new
served_so request_read (Ok done) result old new is replied = rw is (request_read, replied)
served_so request_read (Err Write) result old new is replied = rw is (request_read, replied)
served_so request_read (Err WriteZero) result old new is replied = rw is (request_read, replied)

returns_so : (request_read : RequestRead) (written : Result (Unit {0}) WriteFault) (result : Result RequestRead WireFault) (old new : Connection)
    → result ≡ result_of request_read written → IsReplied request_read written old new → ReturnsRequestRead result old new
returns_so request_read (Ok done) result old new is replied = rw is replied
returns_so request_read (Err fault) result old new is replied = rw is tt

summarized_so : (request_read : RequestRead) (written : Result (Unit {0}) WriteFault) (result : Result RequestRead WireFault) (summary : Summary)
    (old new : Connection) → result ≡ result_of request_read written → (replied : IsReplied request_read written old new)
    → IsSummaryOf summary replied.input replied.reply written → IsSummarized summary result old new
summarized_so request_read (Ok done) result summary old new is replied about =
    rw is (record { request_read = request_read; replied = replied; is_summary = about })
summarized_so request_read (Err Write) result summary old new is replied about =
    rw is (record { request_read = request_read; replied = replied; is_summary = about })
summarized_so request_read (Err WriteZero) result summary old new is replied about =
    rw is (record { request_read = request_read; replied = replied; is_summary = about })

module _ (named : Named) (request_read : RequestRead) (sent : Sent) (old new : Connection) (replies : RepliesSo named request_read sent old new)
    (given : Served) (is : given ≡ after_reply named request_read sent) where
  is_result : given.result ≡ result_of request_read sent.written
  is_result = ap (λ (given : Served). given.result) is

  pub served : IsServed given.result old new
  served = served_so request_read sent.written given.result old new is_result replies.is_replied

  pub returns_request_read : ReturnsRequestRead given.result old new
  returns_request_read = returns_so request_read sent.written given.result old new is_result replies.is_replied

  pub summarized : IsSummarized given.summary given.result old new
  summarized =
      summarized_so request_read sent.written given.result given.summary old new is_result replies.is_replied
      (rw (ap (λ (given : Served). given.summary) is) (record {
        names = replies.names;
        status = ap Some replies.status;
        length_is = ap (written_length sent.written) replies.length_is;
        rows_is = ap (written_rows sent.written)
            (same_rows named.route replies.status replies.media_is replies.lines_is);
      }))

-- ---- such replies

-- the decision was answered
pub answered : (named : Named) (decision : DecisionParts) (request_read : RequestRead) (sent : Sent) (old new : Connection)
    → request_read ≡ request_read_of decision → Decides named decision old.reader new.reader
    → WritesReply (λ reply. Answers old.state decision reply new.state) sent old.writer new.writer → RepliesSo named request_read sent old new
answered named decision request_read sent old new is_extent decides writes = record {
  is_replied = record {
    input = decides.input;
    is_input = decides.is_input;
    read = decides.read;
    reply = writes.reply;
    replies = inl (decision, decides.decided, is_extent, writes.is_such);
    writes = writes.sends.writes;
  };
  names = decides.names;
  status = writes.sends.status;
  media_is = writes.sends.media_is;
  length_is = writes.sends.length_is;
  lines_is = writes.sends.lines_is;
}

-- an allocation failed for the body
pub out_of_memory : (named : Named) (sent : Sent) (old new : Connection) → StopsInBody named old.reader new.reader → new.state ≡ old.state
    → Sends memory_reply sent old.writer new.writer → RepliesSo named Partial sent old new
out_of_memory named sent old new stops same sends = record {
  is_replied = record {
    input = stops.input;
    is_input = stops.is_input;
    read = stops.read;
    reply = memory_reply;
    replies = inr (stops.announced, stops.nonempty, refl, refl, same);
    writes = sends.writes;
  };
  names = stops.names;
  status = sends.status;
  media_is = sends.media_is;
  length_is = sends.length_is;
  lines_is = sends.lines_is;
}
