use Rattle.std.proofs.Common.{sym, ap}
use Rattle.cql2.specs.declared.column.Column.{Column}
use Rattle.cql2_code.specs.Lowering.{if_asked, is_null}
use Rattle.cql2_code.proofs.Refused.{prepends_as}
use Rattle.cql2_code.proofs.Written.{null_written, written_as}
use Rattle.cql2_code.proofs.compiler.prepend_is_null.Goals as goal

pub returns-in-Numeric : goal.returns-in-Numeric
returns-in-Numeric g c =
    let same = ap (λ (column : Column). if_asked (is_null column) c.args.asked) (sym c.in-Numeric.is) in
    prepends_as c.prepend_test.result _
    (λ all written. written_as same
    (null_written c.args.asked c.if_asked.ensures.falls c.if_asked.ensures.skip (written_as c.has_value.ensures written)))
    c.prepend_test.ensures
