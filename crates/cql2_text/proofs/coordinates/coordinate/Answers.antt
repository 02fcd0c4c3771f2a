use Rattle.cql2_text.proofs.GeometryLemmas.{coordinate-flaw, coordinate-is, coordinate-same, read-small}
use Rattle.cql2_text.proofs.coordinates.coordinate.Goals as goal

pub returns-in-Ok-clause-ok : goal.returns-in-Ok-clause-ok
returns-in-Ok-clause-ok c =
    coordinate-is c.in-Ok.number c.in_ok-numeral.numeral c.in-Ok.ensures.small c.in_ok-numeral.ensures.ok c.in-Ok.ensures.value

pub returns-in-Ok-clause-small : goal.returns-in-Ok-clause-small
returns-in-Ok-clause-small c = read-small c.in-Ok.number c.in-Ok.ensures.small

pub returns-in_err-numeral-clause-reads : goal.returns-in_err-numeral-clause-reads
returns-in_err-numeral-clause-reads c = λ rest number is. absurd (c.in_err-numeral.ensures.reads _ _ is.spelled)

pub returns-in-Ok-clause-reads : goal.returns-in-Ok-clause-reads
returns-in-Ok-clause-reads c =
    λ rest number is.
    let read = c.in_ok-numeral.ensures.reads _ _ is.spelled in (
      read.0,
      coordinate-same c.in_ok-numeral.numeral is.numeral c.in-Ok.number number c.in-Ok.ensures.small read.1 c.in-Ok.ensures.value is.value,
    )

pub returns-in-Err-clause-reads : goal.returns-in-Err-clause-reads
returns-in-Err-clause-reads c =
    λ rest number is.
    let read = c.in_ok-numeral.ensures.reads _ _ is.spelled in
    absurd (coordinate-flaw c.in_ok-numeral.numeral is.numeral _ number read.1 c.in-Err.ensures.value is.value)
