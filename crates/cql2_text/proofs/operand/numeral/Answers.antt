use Rattle.cql2_text.specs.Numeral.{negative, positive, unsigned}
use Rattle.cql2_text.proofs.TokenLemmas.{sign-is}
use Rattle.cql2_text.proofs.operand.numeral.Goals as goal

pub returns-in_ok-numeral-in-Some-Sign-Plus-default-clause-ok : goal.returns-in_ok-numeral-in-Some-Sign-Plus-default-clause-ok
returns-in_ok-numeral-in-Some-Sign-Plus-default-clause-ok c =
    let k = c.in-Some-Sign-Plus-default in
    let is = sign-is _ _ _ _ _ k.ensures k.field-0-0-is k.field-0-0-0-is in
    rw (is, c.in_ok-numeral-in-Some-Sign-Plus-default.ensures) positive

pub returns-in_ok-numeral-in-Some-Sign-Minus-default-clause-ok : goal.returns-in_ok-numeral-in-Some-Sign-Minus-default-clause-ok
returns-in_ok-numeral-in-Some-Sign-Minus-default-clause-ok c =
    let k = c.in-Some-Sign-Minus-default in
    let is = sign-is _ _ _ _ _ k.ensures k.field-0-0-is k.field-0-0-0-is in
    rw (is, c.in_ok-numeral-in-Some-Sign-Minus-default.ensures, c.below_zero.ensures) negative

pub returns-in_ok-numeral-in_default-clause-ok : goal.returns-in_ok-numeral-in_default-clause-ok
returns-in_ok-numeral-in_default-clause-ok c = rw c.in_ok-numeral-in_default.ensures unsigned
