use Rattle.csv.specs.Records.{fields_of}
use Rattle.addresses.proofs.StepLemmas.{IsBefore, after-whole, as-failed, as-whole}
use Rattle.addresses.proofs.records.read_next.Goals as goal

pub returns-in-Ok-clause-read : goal.returns-in-Ok-clause-read
returns-in-Ok-clause-read c =
    let reads = rw c.in-Ok.is at c.read_record.ensures.reads in
    let text = rw c.in-Ok.is at c.read_record.ensures.text in
    let start = c.requires.before in
    let before : IsBefore c.args.first.file.now c.args.first.text.now c.args.first.rest.now c.args.reader.now =
    record { whole = c.requires.whole; split = c.requires.split; in_step = start } in
    as-whole before c.args.line c.read_record.new.self c.in-Ok.found (fields_of c.read_record.new.row) (reads start.plain start.ready)
    (text start.plain)

pub returns-in-Ok-clause-after : goal.returns-in-Ok-clause-after
returns-in-Ok-clause-after c =
    let reads = rw c.in-Ok.is at c.read_record.ensures.reads in
    let began = rw c.in-Ok.is at c.read_record.ensures.ready in
    let start = c.requires.before in
    let before : IsBefore c.args.first.file.now c.args.first.text.now c.args.first.rest.now c.args.reader.now =
    record { whole = c.requires.whole; split = c.requires.split; in_step = start } in
    after-whole before c.read_record.new.self c.in-Ok.found (fields_of c.read_record.new.row) (reads start.plain start.ready)
    (began start.plain)

pub returns-in-Err-clause-read : goal.returns-in-Err-clause-read
returns-in-Err-clause-read c =
    let why = rw c.in-Err.is at c.read_record.ensures.why in
    let start = c.requires.before in
    let before : IsBefore c.args.first.file.now c.args.first.text.now c.args.first.rest.now c.args.reader.now =
    record { whole = c.requires.whole; split = c.requires.split; in_step = start } in
    rw c.fault_of.ensures (as-failed before c.args.line c.read_record.new.self (fields_of c.read_record.new.row) c.in-Err.error.kind
    (why start.plain start.ready))
