use Rattle.cql2_tokens.specs.Lexed.{is_name_byte}
use Rattle.cql2_tokens.proofs.LongestLemmas.{longest-found, longest-missing}
use Rattle.cql2_tokens.proofs.lexer.split_name.Goals as goal

pub returns-in-Some-clause-longest : goal.returns-in-Some-clause-longest
returns-in-Some-clause-longest c = longest-found is_name_byte _ _ c.in-Some.ensures.value

pub returns-in-None-clause-longest : goal.returns-in-None-clause-longest
returns-in-None-clause-longest c = longest-missing is_name_byte _ c.in-None.ensures.value
