use Rattle.std.proofs.Common.{ℕ, List, Ok, Err, subst, ◌∙◌}
use Rattle.addresses.specs.Address.{address_in}
use Rattle.addresses.specs.Listing.{addresses_left}
use Rattle.counted_io.specs.Writing.{WritesText}
use Rattle.commands.specs.Failure.{WritesAs}
use Rattle.commands.proofs.BatchLemmas.{batch_done, batch_further, batch_stopped, batch_unread, header_stopped, header_unread, header_written}
use Rattle.commands.proofs.geocode_batch.write_batch.Goals as goal

pub returns-in-Err : goal.returns-in-Err
returns-in-Err g c = λ addresses are.
    let out = g.W.CountedWrite.writer c.args.out.now in
    let out' = g.W.CountedWrite.writer c.write.new.out in
    header_stopped _ addresses c.in-Err.failure out out'
    (subst (λ (text : List ℕ). WritesAs text (Err c.in-Err.failure) out out') (c.as_bytes.ensures.value ∙ c.header.ensures) c.in-Err.ensures)

pub returns-in-Err-of : goal.returns-in-Err-of
returns-in-Err-of g c = λ addresses are.
    let out = g.W.CountedWrite.writer c.args.out.now in
    let out' = g.W.CountedWrite.writer c.write.new.out in
    rw c.refusal.ensures (header_unread _ c.args.file.now addresses c.in-Err-of.fault out out'
    are c.in-Err-of.ensures
    (subst (λ (text : List ℕ). WritesText text (Ok tt) out out') (c.as_bytes.ensures.value ∙ c.header.ensures) c.in-Ok.ensures))

pub loop-lines-init : goal.loop-lines-init
loop-lines-init g c =
    let out = g.W.CountedWrite.writer c.args.out.now in
    let out' = g.W.CountedWrite.writer c.write.new.out in
    header_written _ c.args.file.now (addresses_left c.in-Ok-of.addresses) out out'
    c.in-Ok-of.ensures
    (subst (λ (text : List ℕ). WritesText text (Ok tt) out out') (c.as_bytes.ensures.value ∙ c.header.ensures) c.in-Ok.ensures)

pub returns-in-Ok-false : goal.returns-in-Ok-false
returns-in-Ok-false g c = λ addresses are.
    let ended = rw c.in-Ok-false.field-0-test at c.in-Ok-false.ensures.next in
    batch_done _ c.loop-lines.invariant addresses are ended.0

pub returns-in-Err-read : goal.returns-in-Err-read
returns-in-Err-read g c = λ addresses are.
    rw c.refusal-in-Err-read.ensures (batch_unread _ c.loop-lines.invariant addresses are
    (address_in c.read.new.row) (addresses_left c.read.new.self) c.in-Err-read.fault c.in-Err-read.ensures.next)

pub loop-lines-preserved : goal.loop-lines-preserved
loop-lines-preserved g c =
    batch_further _ c.loop-lines.invariant (address_in c.read.new.row)
    (addresses_left c.read.new.self) (g.W.CountedWrite.writer c.write_row.new.out)
    (rw c.in-Ok-true.field-0-test at c.in-Ok-true.ensures.next) c.in-Ok-write_row.ensures

pub returns-in-Err-write_row : goal.returns-in-Err-write_row
returns-in-Err-write_row g c = λ addresses are.
    batch_stopped _ c.loop-lines.invariant addresses are (address_in c.read.new.row)
    (addresses_left c.read.new.self) c.in-Err-write_row.failure
    (g.W.CountedWrite.writer c.write_row.new.out) (rw c.in-Ok-true.field-0-test at c.in-Ok-true.ensures.next)
    c.in-Err-write_row.ensures
