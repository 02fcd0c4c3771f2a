use Rattle.std.proofs.Common.{List, ◌∷◌, length}
use Rattle.cql2.specs.declared.filter.Comparison.TheVariants.{Equal}
use Rattle.cql2.specs.declared.filter.Filter.{Filter}
use Rattle.cql2_text.specs.Connective.{IsEither}
use Rattle.cql2_text.specs.Predicate.{SpellsExchangedComparison, SpellsList}
use Rattle.cql2_tokens.specs.declared.token.Token.{Token}
use Rattle.cql2_tokens.specs.declared.token.Token.TheVariants.{Close, Comma}
use Rattle.cql2_text.proofs.ChainLemmas.{ReadChain}
use Rattle.cql2_text.proofs.text_first.list.Given as goal

abbrev pub invariant-loop-after : goal.invariant-loop-after
invariant-loop-after g l = record {
  spelled : SpellsList (SpellsExchangedComparison l.start Equal) l.words l.rest l.filter;
  reads : (rest : List Token) (made : Filter _) → SpellsList (SpellsExchangedComparison l.start Equal) l.words (Close ∷ rest) made
      → ReadChain Comma (SpellsExchangedComparison l.start Equal) IsEither l.rest l.filter (Close ∷ rest) made;
}

abbrev pub decreases-loop-after : goal.decreases-loop-after
decreases-loop-after g l = length l.rest
