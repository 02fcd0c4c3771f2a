use Rattle.std.proofs.Common.{◌≤◌, ap, ◌∙◌, arith}
use Rattle.cql2_code.specs.Lowering.{is_blank}
use Rattle.cql2_code.proofs.ChunkLemmas.{blank_bytes}
use Rattle.cql2_code.proofs.Refused.{prepends_as}
use Rattle.cql2_code.proofs.Written.{written_as}
use Rattle.cql2_code.proofs.texts.prepend_blanks.Goals as goal

pub returns : goal.returns
returns g c =
    let few : c.from.result ≤ 30 = omega arith in
    let blank = blank_bytes c.args.at c.from.result few ∙ ap (is_blank c.args.at) c.from.ensures in
    prepends_as c.prepend_bytes.result _ (λ all written. written_as blank written) c.prepend_bytes.ensures
