use Rattle.std.proofs.Common.{◌<◌, sym, arith}
use Rattle.cql2_code.proofs.ColumnParts.{same_with_both}
use Rattle.cql2_code.proofs.Refused.{prepends_as}
use Rattle.cql2_code.proofs.Written.{joined, written_as}
use Rattle.cql2_code.proofs.field_pairs.+prepend_same.Goals as goal

pub returns : goal.returns
returns g t c =
    let some : 0 < c.args.left = omega arith in
    let some_too : 0 < c.args.more = omega arith in
    let both = same_with_both c.args.at c.args.left c.args.other c.args.more some some_too in
    prepends_as c.prepend_pair.result _
    (λ all front. written_as (sym both)
    (joined c.words-words.ensures.value c.in_ok-prepend_same.ensures c.exits_before-exits.ensures.before front))
    c.prepend_pair.ensures
