use Rattle.std.proofs.Common.{◌≤◌, ◌∙◌, sym, length, arith}
use Rattle.std.proofs.lemmas.Bool.Decides.{nat_tests}
use Rattle.numerals.proofs.NumeralLemmas.{decimal_in-few, decimal_in-lt}
use Rattle.numerals.proofs.numeral.decimal_value.Goals as goal

pub returns-clause-value : goal.returns-clause-value
returns-clause-value c =
    let some : 1 ≤ length c.args.digits.now = grind (arith, nat_tests) in
    c.value_of.ensures ∙ sym (decimal_in-few c.args.most c.args.digits.now some (omega arith))

pub returns-clause-small : goal.returns-clause-small
returns-clause-small c = rw (returns-clause-value c) (decimal_in-lt c.args.most c.args.digits.now)
