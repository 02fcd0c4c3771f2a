use Rattle.std.proofs.Common.{◌≡◌, ◌≤◌, length, arith}
use Rattle.std.proofs.lemmas.Bool.Decides.{nat_tests}
use Rattle.cql2_tokens.specs.Lexed.{decimals, no_point}
use Rattle.cql2_tokens.proofs.LexerLemmas.{has-no-decimals}
use Rattle.cql2_tokens.proofs.lexer.fraction.Goals as goal

pub returns-in_default : goal.returns-in_default
returns-in_default c = no_point _ c.in_default.ensures

pub returns-then-is_empty : goal.returns-then-is_empty
returns-then-is_empty c =
    let none : length c.split_digits.result.0.now ≡ 0 = grind (arith, nat_tests) in
    let split = c.split_digits.ensures in
    has-no-decimals _ _ _ _ c.in-Some.ensures split.all split.longest none

pub returns : goal.returns
returns c =
    let some : 1 ≤ length c.split_digits.result.0.now = grind (arith, nat_tests) in
    let split = c.split_digits.ensures in
    rw (c.in-Some.ensures, split.all) (decimals _ _ (record { some = some; longest = split.longest }))
