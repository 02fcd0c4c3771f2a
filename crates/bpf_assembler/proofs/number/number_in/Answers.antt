use Rattle.std.proofs.Common.{◌+◌, ◌≤◌, length, take, arith}
use Rattle.std.proofs.lemmas.Grind.{common_steps}
use Rattle.bpf_assembler.proofs.NumberLemmas.{digits-lt, digits-small, digits-next, all-next}
use Rattle.bpf_assembler.proofs.number.number_in.Goals as goal

pub overflow_mul-number : goal.overflow_mul-number
overflow_mul-number c =
    let digits = c.args.digits.now in
    let i = c.loop-byte.byte-index in
    let next = digits-next c.args.radix digits i c.loop-byte.number c.loop-byte-test.true c.loop-byte.invariant.value in
    let all = all-next c.args.radix digits i c.loop-byte-test.true c.in-Some.ensures.value.0 c.loop-byte.invariant.digits in
    let few : length (take (i + 1) digits) ≤ 20 = grind (arith, common_steps) in
    let small = digits-small c.args.radix (take (i + 1) digits) c.requires.radixes.0 c.requires.radixes.1 few all in
    rw c.from.ensures (omega arith)

pub overflow_add-number : goal.overflow_add-number
overflow_add-number c =
    let digits = c.args.digits.now in
    let i = c.loop-byte.byte-index in
    let next = digits-next c.args.radix digits i c.loop-byte.number c.loop-byte-test.true c.loop-byte.invariant.value in
    let all = all-next c.args.radix digits i c.loop-byte-test.true c.in-Some.ensures.value.0 c.loop-byte.invariant.digits in
    let few : length (take (i + 1) digits) ≤ 20 = grind (arith, common_steps) in
    let small = digits-small c.args.radix (take (i + 1) digits) c.requires.radixes.0 c.requires.radixes.1 few all in
    rw (c.from.ensures, c.from-in-loop-byte.ensures, c.in-Some.ensures.value.1) (omega arith)

pub loop-byte-preserved : goal.loop-byte-preserved
loop-byte-preserved c =
    let digits = c.args.digits.now in
    let i = c.loop-byte.byte-index in
    record {
      digits = all-next c.args.radix digits i c.loop-byte-test.true c.in-Some.ensures.value.0 c.loop-byte.invariant.digits;
      value = rw (c.from.ensures, c.from-in-loop-byte.ensures, c.in-Some.ensures.value.1)
          (digits-next c.args.radix digits i c.loop-byte.number c.loop-byte-test.true c.loop-byte.invariant.value);
    }

pub returns-clause-small : goal.returns-clause-small
returns-clause-small c =
    let digits = c.args.digits.now in
    let few : length (take c.loop-byte.byte-index digits) ≤ c.args.most = grind (arith, common_steps) in
    rw c.loop-byte.invariant.value (digits-lt c.args.radix c.args.most _ c.requires.radixes.0 few c.loop-byte.invariant.digits)
