use Rattle.std.proofs.Common.{◌≡◌, ◌<◌, ◌^◌, Some, ap, sym, ◌∙◌, arith}
use Rattle.std.proofs.lemmas.List.{take_all}
use Rattle.tl_fields.proofs.NumberLemmas.{number_of_lt}
use Rattle.tl_fields.specs.Number.{number_of}
use Rattle.tl_segments.proofs.index_tables.feature_number.Goals as goal

pub overflow_cast-result : goal.overflow_cast-result
overflow_cast-result c =
    let feat = c.args.feat.now in
    let n = c.in_ok-number.field-0 in
    let is : number_of feat ≡ Some n = sym c.number.ensures.value ∙ c.in_ok-number.was in
    let short : n < 10 ^ 8 = number_of_lt feat 1 8 n (ap number_of (take_all 8 feat (omega (arith, c.requires))) ∙ is) in
    omega (arith, short)
