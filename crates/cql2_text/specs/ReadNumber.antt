-- The result of reading tokens that spell a numeric expression. Only an allocation can fail.
use Rattle.std.specs.Prelude.{◌≡◌, ◌≢◌, List, ◌∷◌, Result, MatchResult}
use denote.Ref.{Bor}
use Rattle.cql2.specs.declared.expression.Expression.{Expression}
use Rattle.cql2_text.specs.ExpressionContent.{expression_content}
use Rattle.cql2_text.specs.declared.subexpression.Subexpression.{Subexpression}
use Rattle.cql2_text.specs.declared.syntax_fault.SyntaxFault.{SyntaxFault}
use Rattle.cql2_text.specs.declared.syntax_fault.SyntaxFault.TheVariants.{Memory}
use Rattle.cql2_tokens.specs.declared.token.Token.{Token}

abbrev pub IsReadNumber : {A : Type 0} → Result (Subexpression A × Bor (List Token)) SyntaxFault → List Token → Expression A → Type 0
IsReadNumber {A = A} result rest made =
    MatchResult result (λ read. (read.1.now ≡ rest) × (expression_content read.0.expression ≡ expression_content made)) (λ fault. fault ≡ Memory)

-- another token is the first
abbrev pub IsNotFirst : Token → List Token → Type 0
IsNotFirst token words = (rest : List Token) → words ≢ token ∷ rest
