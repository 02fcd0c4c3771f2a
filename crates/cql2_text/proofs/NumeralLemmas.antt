-- A number has at least one token.
use Rattle.std.proofs.Common.{◌<◌, ℤ, List, length, arith}
use Rattle.cql2_text.specs.Numeral.{IsNumber, IsNumeral, negative, positive, unsigned}
use Rattle.cql2_text.specs.declared.unit.Unit.{Unit}
use Rattle.cql2_tokens.specs.declared.token.Numeral.{Numeral}
use Rattle.cql2_tokens.specs.declared.token.Token.{Token}

pub numeral-shorter : (words rest : List Token) (numeral : Numeral) → IsNumeral words rest numeral → length rest < length words
numeral-shorter _ _ _ unsigned = omega arith
numeral-shorter _ _ _ positive = omega arith
numeral-shorter _ _ _ negative = omega arith

pub number-shorter : (unit : Unit) (words rest : List Token) (number : ℤ) → IsNumber unit words rest number
    → length rest < length words
number-shorter unit words rest number is = numeral-shorter words rest is.numeral is.spelled
