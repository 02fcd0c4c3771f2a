use Rattle.std.proofs.Common.{◌≤◌, Bool, false, length, sym, ap, ◌∙◌, arith}
use Rattle.cql2_code.specs.Lowering.{both, ends_so, has_bytes}
use Rattle.cql2_code.proofs.PatternLemmas.{is_piece-exact}
use Rattle.cql2_code.proofs.Refused.{prepends_as}
use Rattle.cql2_code.proofs.Written.{written_as}
use Rattle.cql2_code.proofs.texts.prepend_equal.Goals as goal

pub returns : goal.returns
returns g c =
    let field = c.args.field in
    let bytes = c.args.bytes.now in
    let short : length bytes ≤ field.width = omega arith in
    let like =
    ap (λ (filled : Bool). both (has_bytes field.offset bytes) (ends_so false filled field (length bytes))) c.is_filled.ensures
    ∙ sym (is_piece-exact field bytes false short) in
    prepends_as c.prepend_bytes.result _
    (λ all written. written_as like (c.in_ok-exits.ensures.before (has_bytes field.offset bytes) all written))
    c.prepend_bytes.ensures
