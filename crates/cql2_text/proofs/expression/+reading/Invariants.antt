use Rattle.std.proofs.Common.{◌≡◌, ◌+◌, ◌*◌, List, false, length}
use Rattle.cql2.specs.declared.expression.Expression.{Expression}
use Rattle.cql2_text.specs.Expression.{Chain, SpellsNumber, goes_on, part_goes_on}
use Rattle.cql2_tokens.specs.declared.token.Token.{Token}
use Rattle.cql2_text.proofs.NumberLemmas.{ReadLinks, rank}
use Rattle.cql2_text.proofs.expression.+reading.Given as goal

abbrev pub decreases-chain : goal.decreases-chain
decreases-chain g l = 8 * l.depth + 4 + rank l.level

abbrev pub decreases-term : goal.decreases-term
decreases-term g l = 8 * l.depth + 3 + rank l.level

abbrev pub decreases-factor : goal.decreases-factor
decreases-factor g l = 8 * l.depth + 2

abbrev pub decreases-parenthesized_expression : goal.decreases-parenthesized_expression
decreases-parenthesized_expression g l = 8 * l.depth + 1

abbrev pub decreases-signed_factor : goal.decreases-signed_factor
decreases-signed_factor g l = 8 * l.depth + 1

abbrev pub invariant-chain-loop-operator : goal.invariant-chain-loop-operator
invariant-chain-loop-operator g l = record {
  spelled : SpellsNumber l.unit l.depth (Chain l.level) l.words l.rest l.first.expression;
  stops : part_goes_on l.level l.rest ≡ false;
  reads : (rest : List Token) (made : Expression _) → goes_on l.level rest ≡ false → SpellsNumber l.unit l.depth (Chain l.level) l.words rest made
      → ReadLinks l.unit l.depth l.level l.rest l.first.expression rest made;
}

abbrev pub decreases-chain-loop-operator : goal.decreases-chain-loop-operator
decreases-chain-loop-operator g l = length l.rest
