-- Tokens that differ at most in where their bytes are in memory.
use Rattle.std.specs.Prelude.{◌≡◌, ℕ, List, [], ◌∷◌}
use denote.Ref.{Bor}
use Rattle.cql2_tokens.specs.declared.token.Numeral.{Numeral}
use Rattle.cql2_tokens.specs.declared.token.Token.{Token}
use Rattle.cql2_tokens.specs.declared.token.Token.TheVariants.{Number, Text}

pub data IsLike : Token → Token → Type 0 where
  same : (token : Token) → IsLike token token
  numbers : (numeral other : Numeral) → numeral.is_negative ≡ other.is_negative → numeral.whole.now ≡ other.whole.now
      → numeral.decimals.now ≡ other.decimals.now → IsLike (Number numeral) (Number other)
  texts : (spelling other : Bor (List ℕ)) → spelling.now ≡ other.now → IsLike (Text spelling) (Text other)

pub data AreLike : List Token → List Token → Type 0 where
  none : AreLike [] []
  next : (token other : Token) (tokens others : List Token) → IsLike token other → AreLike tokens others
      → AreLike (token ∷ tokens) (other ∷ others)
