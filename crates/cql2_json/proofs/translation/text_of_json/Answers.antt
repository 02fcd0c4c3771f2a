use Rattle.std.proofs.Common.{◌≡◌, Err, None, ap}
use Rattle.json.specs.Json.{document}
use Rattle.json.specs.Reads.{token_of}
use Rattle.cql2_json.specs.declared.fault.JsonFlaw.TheVariants.{Syntax}
use Rattle.cql2_json.proofs.FaultLemmas.{placed, unread-rest, unread-value}
use Rattle.cql2_json.proofs.translation.text_of_json.Goals as goal

pub returns-in-Err-Invalid-clause-value : goal.returns-in-Err-Invalid-clause-value
returns-in-Err-Invalid-clause-value g c =
    let none = c.in-Err-Invalid.ensures.invalid (ap Err c.in-Err-Invalid.field-0-is) in
    let unread : document c.args.json.now ≡ None = unread-value c.args.json.now _ c.in_ok-reader.ensures.ok none in
    placed c.args.json.now c.as_bytes.result.now c.args.limit c.offset.result Syntax _ unread c.as_bytes.ensures.value c.syntax_fault.ensures

pub returns-in-Some-clause-value : goal.returns-in-Some-clause-value
returns-in-Some-clause-value g c =
    let unread : document c.args.json.now ≡ None =
    unread-rest c.args.json.now _ c.read.new.reader c.next.new.self (token_of c.in-Some.field-0) _ c.in_ok-reader.ensures.ok c.in-Ok.ensures.ok
    c.in-Some.ensures.value in
    placed c.args.json.now c.as_bytes-in-Some.result.now c.args.limit c.offset-in-Some.result Syntax _ unread c.as_bytes-in-Some.ensures.value
    c.syntax_fault-in-Some.ensures
