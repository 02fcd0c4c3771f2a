use Rattle.cql2_tokens.proofs.LexerLemmas.{less-or-equal, not-equal, only-less}
use Rattle.cql2_tokens.proofs.lexer.less.Goals as goal

pub returns-in-Some : goal.returns-in-Some
returns-in-Some c = less-or-equal _ _ c.in-Some.ensures

pub returns-in-Some-after_byte : goal.returns-in-Some-after_byte
returns-in-Some-after_byte c = not-equal _ _ c.in-Some-after_byte.ensures

pub returns : goal.returns
returns c = only-less _ c.in_default.ensures c.in_default-after_byte.ensures
