use Rattle.std.proofs.Common.{◌≤◌, length, refl, arith}
use Rattle.std.proofs.lemmas.Bool.Decides.{nat_tests}
use Rattle.cql2_tokens.specs.Lexed.{unsigned_numeric_literal}
use Rattle.cql2_tokens.proofs.lexer.number.Goals as goal

pub returns-clause-is : goal.returns-clause-is
returns-clause-is c =
    let some : 1 ≤ length c.split_digits.result.0.now = grind (arith, nat_tests) in
    let split = c.split_digits.ensures in
    rw split.all (unsigned_numeric_literal _ _ _ refl (record { some = some; longest = split.longest }) c.fraction.ensures)
