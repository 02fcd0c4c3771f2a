-- signedNumericLiteral and unsignedNumericLiteral (CQL2, 21-065r2, annex B).
use Rattle.std.specs.Prelude.{◌≡◌, ℤ, true, List, ◌∷◌, Ok}
use Rattle.cql2_text.specs.Number.{number_of}
use Rattle.cql2_text.specs.declared.unit.Unit.{Unit}
use Rattle.cql2_tokens.specs.declared.token.Numeral.{Numeral}
use Rattle.cql2_tokens.specs.declared.token.Sign.TheVariants.{Plus, Minus}
use Rattle.cql2_tokens.specs.declared.token.Token.{Token}
use Rattle.cql2_tokens.specs.declared.token.Token.TheVariants.{Number, Sign}

-- a number's digits with a minus before them
abbrev pub below_zero : Numeral → Numeral
below_zero numeral = record { is_negative = true; whole = numeral.whole; decimals = numeral.decimals }

-- a number, which may have a sign
pub data IsNumeral : List Token → List Token → Numeral → Type 0 where
  unsigned : {numeral : Numeral} {rest : List Token} → IsNumeral (Number numeral ∷ rest) rest numeral
  positive : {numeral : Numeral} {rest : List Token} → IsNumeral (Sign Plus ∷ Number numeral ∷ rest) rest numeral
  negative : {numeral : Numeral} {rest : List Token} → IsNumeral (Sign Minus ∷ Number numeral ∷ rest) rest (below_zero numeral)

-- a number, which may have a sign, in a unit
pub record IsNumber (unit : Unit) (words rest : List Token) (number : ℤ) : Type 0 where
  pub numeral : Numeral
  pub spelled : IsNumeral words rest numeral
  pub value : number_of unit numeral ≡ Ok number
