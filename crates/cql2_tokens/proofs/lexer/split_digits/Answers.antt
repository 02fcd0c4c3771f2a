use Rattle.std.specs.Char.{is_ascii_digit}
use Rattle.cql2_tokens.proofs.LongestLemmas.{longest-found, longest-missing}
use Rattle.cql2_tokens.proofs.lexer.split_digits.Goals as goal

pub returns-in-Some-clause-longest : goal.returns-in-Some-clause-longest
returns-in-Some-clause-longest c = longest-found is_ascii_digit _ _ c.in-Some.ensures.value

pub returns-in-None-clause-longest : goal.returns-in-None-clause-longest
returns-in-None-clause-longest c = longest-missing is_ascii_digit _ c.in-None.ensures.value
