use Rattle.cql2_tokens.proofs.LexerLemmas.{greater-or-equal, only-greater}
use Rattle.cql2_tokens.proofs.lexer.greater.Goals as goal

pub returns-in-Some : goal.returns-in-Some
returns-in-Some c = greater-or-equal _ _ c.in-Some.ensures

pub returns-in-None : goal.returns-in-None
returns-in-None c = only-greater _ c.in-None.ensures
