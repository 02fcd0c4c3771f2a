use Rattle.std.proofs.Common.{◌∙◌, sym}
use Rattle.addresses.proofs.StepLemmas.{after-blank, blank, no-record-in}
use Rattle.addresses.proofs.records.read_record.Goals as goal

pub returns-then-is_blank-clause-read : goal.returns-then-is_blank-clause-read
returns-then-is_blank-clause-read c =
    no-record-in c.args.first.text.now (sym c.requires.open ∙ c.if-first.false) c.if-first-gt-MAX_RECORD_LENGTH.false
    (blank c.args.first.text.now (sym c.is_blank.ensures ∙ c.if-is_blank.true))

pub returns-then-is_blank-clause-after : goal.returns-then-is_blank-clause-after
returns-then-is_blank-clause-after c =
    after-blank c.args.first.file.now c.args.first.text.now c.args.first.rest.now c.args.reader.now c.requires.split
    (blank c.args.first.text.now (sym c.is_blank.ensures ∙ c.if-is_blank.true)) c.requires.before
