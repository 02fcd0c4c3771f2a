use Rattle.std.proofs.Common.{◌<◌, ◌^◌, ◌≤◌, length, take, arith, rules}
use Rattle.std.specs.Str.Parse.{digits_value}
use Rattle.std.proofs.lemmas.Grind.{common_steps}
use Rattle.numerals.proofs.NumeralLemmas.{digits_value-lt, digits_value-next, list_all-next}
use Rattle.numerals.proofs.numeral.value_of.Goals as goal

pub overflow_mul-value : goal.overflow_mul-value
overflow_mul-value c =
    let digits = c.args.digits.now in
    let few : length (take c.loop-byte.byte-index digits) ≤ 18 = grind (arith, common_steps) in
    let small : digits_value 10 (take c.loop-byte.byte-index digits) < 10 ^ 18 = digits_value-lt _ 18 c.loop-byte.invariant.digits few in
    omega (arith, c.loop-byte.invariant.value)

pub overflow_add-value : goal.overflow_add-value
overflow_add-value c =
    let digits = c.args.digits.now in
    let few : length (take c.loop-byte.byte-index digits) ≤ 18 = grind (arith, common_steps) in
    let small : digits_value 10 (take c.loop-byte.byte-index digits) < 10 ^ 18 = digits_value-lt _ 18 c.loop-byte.invariant.digits few in
    omega (arith, c.loop-byte.invariant.value)

pub loop-byte-preserved : goal.loop-byte-preserved
loop-byte-preserved c =
    let digits = c.args.digits.now in
    record {
      digits = list_all-next digits c.loop-byte.byte-index c.loop-byte-test.true (search rules) c.loop-byte.invariant.digits;
      value = rw c.from.ensures (digits_value-next digits c.loop-byte.byte-index _ c.loop-byte-test.true
          (search rules) c.loop-byte.invariant.value);
    }
