use Rattle.std.proofs.Common.{Bool, ap}
use Rattle.cql2_code.specs.Lowering.{asks_about, compares_bytes}
use Rattle.cql2_code.proofs.Refused.{prepends_as}
use Rattle.cql2_code.proofs.Written.{written_as}
use Rattle.cql2_code.proofs.text_columns.prepend_text.Goals as goal

pub returns : goal.returns
returns g c =
    let about = ap (λ (of_blanks : Bool). asks_about of_blanks (λ field. compares_bytes field c.args.comparison c.args.text.now) c.args.column)
    c.holds_of_blanks.ensures in
    prepends_as c.prepend_asks_about.result _ (λ all written. written_as about written) c.prepend_asks_about.ensures
