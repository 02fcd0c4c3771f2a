use Rattle.std.proofs.Common.{◌+◌, ◌*◌, List, length}
use Rattle.cql2.specs.declared.filter.Filter.{Filter}
use Rattle.cql2_text.specs.Connective.{IsBoth, IsEither}
use Rattle.cql2_text.specs.Read.{IsNotNext}
use Rattle.cql2_text.specs.Spelled.{Expression, Factor, Spells, Term}
use Rattle.cql2_tokens.specs.declared.token.Keyword.TheVariants as word
use Rattle.cql2_tokens.specs.declared.token.Token.{Token}
use Rattle.cql2_tokens.specs.declared.token.Token.TheVariants.{Keyword}
use Rattle.cql2_text.proofs.ChainLemmas.{ReadChain}
use Rattle.cql2_text.proofs.parser.+parsing.Given as goal

abbrev pub decreases-expression : goal.decreases-expression
decreases-expression g l = 4 * l.depth + 3

abbrev pub decreases-term : goal.decreases-term
decreases-term g l = 4 * l.depth + 2

abbrev pub decreases-factor : goal.decreases-factor
decreases-factor g l = 4 * l.depth + 1

abbrev pub decreases-primary : goal.decreases-primary
decreases-primary g l = 4 * l.depth

abbrev pub invariant-expression-loop-after : goal.invariant-expression-loop-after
invariant-expression-loop-after g l = record {
  spelled : Spells l.depth Expression l.words l.rest l.filter;
  reads : (rest : List Token) (made : Filter _) → IsNotNext word.And rest → IsNotNext word.Or rest → Spells l.depth Expression l.words rest made
      → ReadChain (Keyword word.Or) (Spells l.depth Term) IsEither l.rest l.filter rest made;
}

abbrev pub decreases-expression-loop-after : goal.decreases-expression-loop-after
decreases-expression-loop-after g l = length l.rest

abbrev pub invariant-term-loop-after : goal.invariant-term-loop-after
invariant-term-loop-after g l = record {
  spelled : Spells l.depth Term l.words l.rest l.filter;
  reads : (rest : List Token) (made : Filter _) → IsNotNext word.And rest → Spells l.depth Term l.words rest made
      → ReadChain (Keyword word.And) (Spells l.depth Factor) IsBoth l.rest l.filter rest made;
}

abbrev pub decreases-term-loop-after : goal.decreases-term-loop-after
decreases-term-loop-after g l = length l.rest
