-- The result of reading tokens that spell something: what they spell, and the tokens after it. Only an allocation can fail.
use Rattle.std.specs.Prelude.{◌≡◌, ◌≢◌, List, ◌∷◌, Result, MatchResult}
use denote.Ref.{Bor}
use Rattle.cql2.specs.declared.filter.Filter.{Filter}
use Rattle.cql2_text.specs.Content.{content}
use Rattle.cql2_text.specs.declared.syntax_fault.SyntaxFault.{SyntaxFault}
use Rattle.cql2_text.specs.declared.syntax_fault.SyntaxFault.TheVariants.{Memory}
use Rattle.cql2_tokens.specs.declared.token.Keyword.{Keyword as AKeyword}
use Rattle.cql2_tokens.specs.declared.token.Token.{Token}
use Rattle.cql2_tokens.specs.declared.token.Token.TheVariants.{Keyword}

abbrev pub IsRead : {A : Type 0} → Result (Filter A × Bor (List Token)) SyntaxFault → List Token → Filter A → Type 0
IsRead {A = A} result rest made =
    MatchResult result (λ read. (read.1.now ≡ rest) × (content read.0 ≡ content made)) (λ fault. fault ≡ Memory)

-- the same for tokens that spell something with this content
abbrev pub IsReadAs : {T C : Type 0} → (T → C) → Result (T × Bor (List Token)) SyntaxFault → List Token → C → Type 0
IsReadAs {T = T} {C = C} content_of result rest made =
    MatchResult result (λ read. (read.1.now ≡ rest) × (content_of read.0 ≡ made)) (λ fault. fault ≡ Memory)

-- the keyword is not the first of the tokens
abbrev pub IsNotNext : AKeyword → List Token → Type 0
IsNotNext word words = (rest : List Token) → words ≢ Keyword word ∷ rest
