use Rattle.std.proofs.Common.{◌∙◌, ap, arith, replicate, ℕ}
use Rattle.std.proofs.lemmas.List.{take-replicate}
use Rattle.cql2_code.proofs.CutLemmas.{rows_following}
use Rattle.cql2_code.proofs.Laying.{end_refused, grid_written}
use Rattle.cql2_code.proofs.Refused.{prepends_refused}
use Rattle.cql2_code.proofs.patterns.prepend_search.Goals as goal

pub returns-in_err-prepend_constant : goal.returns-in_err-prepend_constant
returns-in_err-prepend_constant g c =
    prepends_refused c.from_residual.result _ c.from_residual.ensures.1
    (end_refused (rows_following c.args.search.field c.args.from c.args.pattern.now) c.args.columns c.args.search.exits c.args.code.now
    c.in_err-prepend_constant.ensures)

pub returns : goal.returns
returns g c =
    let few = c.args.search.is_field.1 in
    let starts = take-replicate c.args.columns 31 c.words-starts.result (omega arith)
    ∙ ap (λ (words : ℕ). replicate c.args.columns words) c.words-starts.ensures.value in
    grid_written (rows_following c.args.search.field c.args.from c.args.pattern.now) c.args.columns c.args.search.exits c.args.code.now
    c.prepend_constant.new.self c.prepend_rows.new.code c.args.search.words _ c.prepend_rows.new.starts c.prepend_rows.result
    c.requires.words c.in_ok-prepend_constant.ensures starts c.prepend_rows.ensures
