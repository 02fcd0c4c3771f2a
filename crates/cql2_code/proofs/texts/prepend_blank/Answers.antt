use Rattle.std.proofs.Common.{◌≤◌, ◌+◌, ap, ◌∙◌, arith}
use Rattle.cql2_code.specs.Lowering.{is_blank}
use Rattle.cql2_code.proofs.ChunkLemmas.{blank_bytes}
use Rattle.cql2_code.proofs.Refused.{prepends_as}
use Rattle.cql2_code.proofs.Written.{written_as}
use Rattle.cql2_code.proofs.texts.prepend_blank.Goals as goal

pub returns : goal.returns
returns g c =
    let narrow = c.requires.is_field.1 in
    let few : c.from-left.result ≤ 30 = omega arith in
    let at = c.args.field.offset + c.args.from in
    let blank = blank_bytes at c.from-left.result few ∙ ap (is_blank at) c.from-left.ensures in
    prepends_as c.prepend_bytes.result _ (λ all written. written_as blank written) c.prepend_bytes.ensures
