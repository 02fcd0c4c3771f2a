use Rattle.std.proofs.Common.{refl}
use Rattle.cql2_text.specs.Function.{given, usual}
use Rattle.cql2_text.proofs.TokenLemmas.{first-is}
use Rattle.cql2_text.proofs.function.names.Goals as goal

pub returns-in-Ok-clause-ok : goal.returns-in-Ok-clause-ok
returns-in-Ok-clause-ok c =
    let k = c.in-Some-Comma-default in
    let is = first-is _ _ _ _ k.ensures k.field-0-0-is in
    rw is (given _ c.in_ok-numeral-in-Some-Comma-default.ensures.ok c.in-Ok.ensures)

pub returns-in_default-clause-ok : goal.returns-in_default-clause-ok
returns-in_default-clause-ok c = usual refl
