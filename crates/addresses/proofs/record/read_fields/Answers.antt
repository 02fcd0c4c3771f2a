use Rattle.std.proofs.Common.{◌∙◌, refl, inl}
use Rattle.csv.specs.Records.{fields_of}
use Rattle.addresses.proofs.ReadLemmas.{as-read, read-more, read-none, read-one}
use Rattle.addresses.proofs.record.read_fields.Goals as goal

pub returns-in-Ok-false : goal.returns-in-Ok-false
returns-in-Ok-false c =
    let fresh = c.text_reader-reader.ensures in
    let reads = rw (c.in-Ok-false.is, c.in-Ok-false.field-0-test) at c.read_record.ensures.reads in
    read-none c.text_reader-reader.result c.read_record.new.self c.args.text.now (fields_of c.read_record.new.row) fresh
    (reads fresh.plain fresh.ready)

pub returns-in-Ok-true-read_byte_record : goal.returns-in-Ok-true-read_byte_record
returns-in-Ok-true-read_byte_record c =
    let fresh = c.text_reader-reader.ensures in
    let reads = rw (c.in-Ok-true.is, c.in-Ok-true.field-0-test) at c.read_record.ensures.reads in
    let text = rw c.in-Ok-true.is at c.read_record.ensures.text in
    let began = rw c.in-Ok-true.is at c.read_record.ensures.ready in
    let second = c.in-Ok-true-read_byte_record in
    let again = rw (second.is, second.field-0-test) at c.read_byte_record.ensures.reads in
    let first = reads fresh.plain fresh.ready in (
      refl,
      read-more c.args.text.now (fields_of c.read_record.new.row) (record {
        a = c.text_reader-reader.result;
        b = c.read_record.new.self;
        c = c.read_byte_record.new.self;
        others = fields_of c.read_byte_record.new.row;
        fresh = fresh;
        reads = first;
        utf8 = text fresh.plain;
        more = again (first.3 ∙ fresh.plain) (inl (began fresh.plain));
      }),
    )

pub returns-in-Ok-false-read_byte_record : goal.returns-in-Ok-false-read_byte_record
returns-in-Ok-false-read_byte_record c =
    let fresh = c.text_reader-reader.ensures in
    let reads = rw (c.in-Ok-true.is, c.in-Ok-true.field-0-test) at c.read_record.ensures.reads in
    let text = rw c.in-Ok-true.is at c.read_record.ensures.text in
    let began = rw c.in-Ok-true.is at c.read_record.ensures.ready in
    let second = c.in-Ok-false-read_byte_record in
    let again = rw (second.is, second.field-0-test) at c.read_byte_record.ensures.reads in
    let first = reads fresh.plain fresh.ready in
    read-one c.args.text.now (fields_of c.read_record.new.row) (record {
      a = c.text_reader-reader.result;
      b = c.read_record.new.self;
      c = c.read_byte_record.new.self;
      others = fields_of c.read_byte_record.new.row;
      fresh = fresh;
      reads = first;
      utf8 = text fresh.plain;
      more = again (first.3 ∙ fresh.plain) (inl (began fresh.plain));
    })

pub returns-in-Err : goal.returns-in-Err
returns-in-Err c =
    let fresh = c.text_reader-reader.ensures in
    let why = rw c.in-Err.is at c.read_record.ensures.why in
    rw c.fault_of.ensures (as-read c.args.line c.text_reader-reader.result c.read_record.new.self c.args.text.now
    (fields_of c.read_record.new.row) c.in-Err.error.kind fresh (why fresh.plain fresh.ready))
