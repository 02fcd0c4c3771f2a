use Rattle.std.proofs.Common.{◌≡◌, ◌-◌, ◌∷◌, ◌++◌, ℕ, List, false, length, take}
use Rattle.cql2_tokens.specs.Lexed.{ArePaired, begins, is_quote}
use Rattle.cql2_tokens.proofs.QuoteLemmas.{MorePairs}
use Rattle.cql2_tokens.proofs.lexer.closing_quote.Given as goal

abbrev pub invariant-loop-at : goal.invariant-loop-at
invariant-loop-at l = record {
  paired : ArePaired (take l.at l.text);
  more : (spelling rest : List ℕ) → l.text ≡ spelling ++ 39 ∷ rest → ArePaired spelling → begins is_quote rest ≡ false
      → MorePairs l.text l.at spelling rest;
}

abbrev pub decreases-loop-at : goal.decreases-loop-at
decreases-loop-at l = length l.initial.text - l.at
