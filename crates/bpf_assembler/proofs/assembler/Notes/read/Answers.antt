use Rattle.std.proofs.Common.{◌≡◌, Err, sym, rules, arith}
use Rattle.bpf_assembler.specs.Notes.{places_in}
use Rattle.bpf_assembler.proofs.NoteLemmas.{read-none, read-more, reads-fault, read-all, read-counted, noted-new}
use Rattle.bpf_assembler.proofs.assembler.Notes.read.Goals as goal

pub loop-rest-init : goal.loop-rest-init
loop-rest-init g c = record {
  read = read-none c.args.text.now c.new.result.items (places_in c.new-2.result) 0
      (noted-new c.new.result.items c.new-2.result c.new.ensures.items c.new-2.ensures.empty);
  few = omega arith;
  within = omega arith;
}

pub loop-rest-preserved : goal.loop-rest-preserved
loop-rest-preserved g c =
    let before = c.loop-rest.invariant.read in
    let number = read-counted c.args.text.now c.loop-rest.rest.now c.loop-rest.number _ _ _ before in
    let step = c.in_ok-add.ensures.noted before.statements before.noted number in
    record {
      read = read-more c.first_line.result.1.now before c.first_line.ensures.cut step.1 step.2 step.3;
      few = omega (arith, c.loop-rest.invariant.few, c.first_line.ensures.shorter);
      within = c.in_ok-add.ensures.within;
    }

pub returns-in_err-add-clause-err : goal.returns-in_err-add-clause-err
returns-in_err-add-clause-err g c =
    let before = c.loop-rest.invariant.read in
    let number = read-counted c.args.text.now c.loop-rest.rest.now c.loop-rest.number _ _ _ before in
    let given : c.from_residual.result ≡ Err c.in_err-add.field-0.0 = search rules in
    rw given (reads-fault c.first_line.result.1.now before c.first_line.ensures.cut
    (c.in_err-add.ensures.noted before.statements before.noted number))

pub returns-clause-notes : goal.returns-clause-notes
returns-clause-notes g c = read-all c.args.text.now c.loop-rest.rest.now c.loop-rest.number _ _ _ c.loop-rest.invariant.read
    (sym c.loop-rest-test.ensures)
