use Rattle.std.proofs.Common.{map, take}
use Rattle.std.specs.Prelude.{codes}
use Rattle.httparse.specs.Spans.{header_bytes}
use Rattle.http_message.proofs.LengthLemmas.{IsFound, values_in}
use Rattle.http_message.proofs.request.Request.announced_length.Given as goal

abbrev pub invariant-loop-header : goal.invariant-loop-header
invariant-loop-header l =
    IsFound l.found (values_in (codes "content-length")
    (map (header_bytes l.self-inside.bytes.now) (take l.header-index l.self-inside.headers.now)))
