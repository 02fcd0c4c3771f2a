use Rattle.std.proofs.Common.{◌*◌, ◌≤◌, length, arith}
use Rattle.bpf_insn.specs.declared.code.TheConstants.{MAX_WORDS}
use Rattle.named_files.proofs.ProgramLemmas.{all_stored, not_whole, too_long}
use Rattle.named_files.proofs.files.complete.Goals as goal

pub returns-then-len-clause-ok : goal.returns-then-len-clause-ok
returns-then-len-clause-ok g c = λ program is.
    let few : length c.args.stored.items ≤ 8 * MAX_WORDS = omega (arith, c.if-len.true, c.len.ensures) in
    (all_stored program c.args.stored.items is few, few)

pub returns-then-remainder-eq0-clause-err : goal.returns-then-remainder-eq0-clause-err
returns-then-remainder-eq0-clause-err g c = λ program is of.
    too_long program c.args.stored.items is (omega (arith, c.if-len.false, c.len.ensures)) (omega (arith, c.if-remainder-eq0.true, of))

pub returns-clause-err : goal.returns-clause-err
returns-clause-err g c = λ program is of.
    not_whole program c.args.stored.items is c.args.remainder (omega (arith, c.if-len.false, c.len.ensures)) of
    (omega (arith, c.if-remainder-eq0.false))
