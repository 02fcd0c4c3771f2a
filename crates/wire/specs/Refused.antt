-- Internal definitions: the answer to a query with a fault.
use Rattle.std.specs.Prelude.{◌≡◌, ◌⊎◌, Option}
use Rattle.http_message.specs.Reply.{ReplyParts}
use Rattle.wire.specs.Answer.{ReportsParameter, memory_reply}
use Rattle.wire.specs.ParameterFault.{ParameterFaultParts}

-- the first fault of a query is reported, unless memory ran out
abbrev pub ReportsUnlessMemory : Option ParameterFaultParts → ReplyParts → Type 0
ReportsUnlessMemory fault reply = ReportsParameter fault reply ⊎ (reply ≡ memory_reply)
