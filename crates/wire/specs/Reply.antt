-- Internal definitions: the reply that an answer stands for.
use Rattle.std.specs.Prelude.{None}
use Rattle.http_message.specs.Reply.{ReplyParts}
use Rattle.http_message.specs.declared.status.Status.TheVariants as status
use Rattle.wire.specs.Answer.{disallowed, line_reply, plain, refusal_reply, rows_reply, status_reply}
use Rattle.wire.specs.declared.answer.Response.{Response}
use Rattle.wire.specs.declared.answer.Response.TheVariants.{Status, Disallowed, Text, Made, Refused, RefusedLines, BadLine, Line, Rows}

abbrev pub reply_of : {A : Type 0} → Response A → ReplyParts
reply_of (Status status) = status_reply status
reply_of (Disallowed route) = disallowed route
reply_of (Text text) = plain status.Ok text.now
reply_of (Made media body) = record { status = status.Ok; media = media; allow = None; body = body.items }
reply_of (Refused refusal) = refusal_reply refusal
reply_of (RefusedLines lines) = plain status.UnprocessableEntity lines.items
reply_of (BadLine line) = plain status.BadRequest line.items
reply_of (Line status line) = line_reply status line.bytes
reply_of (Rows done total rows) = rows_reply done total rows.now
