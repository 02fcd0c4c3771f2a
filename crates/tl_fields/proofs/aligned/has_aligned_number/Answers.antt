use Rattle.std.proofs.Common.{◌≤◌, ◌+◌, ◌-◌, arith}
use Rattle.std.proofs.lemmas.Bool.{leb-true}
use Rattle.tl_fields.proofs.NumberLemmas.{aligned_field}
use Rattle.tl_fields.proofs.aligned.has_aligned_number.Goals as goal

pub returns : goal.returns
returns c is =
    let first = c.args.first in
    let count = c.args.last + 1 - first in
    let blanks = c.leading_blanks-blanks.result in
    let digits = c.leading_digits-digits.result in
    let least : c.args.last - (first - 1) - blanks ≤ c.min.result = leb-true _ _ is in
    aligned_field c.args.line.now (first - 1) count blanks digits (record {
      within = omega arith;
      some = omega arith;
      ends = omega (arith, c.min.ensures);
      few = omega (arith, c.min.ensures);
      blanks_few = c.leading_blanks-blanks.ensures.within;
      digits_few = c.leading_digits-digits.ensures.within;
      are_blanks = c.leading_blanks-blanks.ensures.blanks;
      are_digits = c.leading_digits-digits.ensures.digits;
    })
