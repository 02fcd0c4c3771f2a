use Rattle.std.proofs.Common.{◌≤◌, List, [], length}
use Rattle.cql2_tokens.specs.Lexed.{Lexes}
use Rattle.cql2_tokens.specs.declared.token.Token.{Token}
use Rattle.cql2_tokens.proofs.CutLemmas.{MoreTokens}
use Rattle.cql2_tokens.proofs.lexer.Tokens.of.Given as goal

abbrev pub invariant-loop-byte : goal.invariant-loop-byte
invariant-loop-byte g l = record {
  lexes : Lexes l.text l.rest l.tokens.items;
  within : length l.rest ≤ length l.text;
  more : (words : List Token) → Lexes l.text [] words → MoreTokens l.tokens.items l.rest words;
}

abbrev pub decreases-loop-byte : goal.decreases-loop-byte
decreases-loop-byte g l = length l.rest
