use Rattle.std.proofs.Common.{List, ap}
use Rattle.cql2.specs.declared.pattern.PatternPart.{PatternPart}
use Rattle.cql2_code.specs.Lowering.{asks_like}
use Rattle.cql2_code.proofs.Refused.{prepends_as}
use Rattle.cql2_code.proofs.Written.{written_as}
use Rattle.cql2_code.proofs.text_columns.prepend_like.Goals as goal

pub returns : goal.returns
returns g c =
    let same = ap (λ (pattern : List PatternPart). asks_like c.args.column pattern c.args.asked) c.as_slice.ensures.value in
    prepends_as c.prepend_asks_about.result _ (λ all written. written_as same written) c.prepend_asks_about.ensures
