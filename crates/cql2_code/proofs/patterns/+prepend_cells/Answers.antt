use Rattle.std.proofs.Common.{ℕ, ◌-◌, refl, ap, ◌∙◌}
use Rattle.cql2_code.proofs.Laying.{cell_laid, cell_refused, cells_more_refused, cells_none, laid_refused}
use Rattle.cql2_code.proofs.patterns.+prepend_cells.Goals as goal

pub returns-in_default : goal.returns-in_default
returns-in_default g t c =
    cells_none _ c.args.shift c.args.starts.now c.args.past c.args.code.now _ c.prepend_constant.result
    (record { none = c.in_default.ensures.cases; falls = c.requires.past }) c.prepend_constant.ensures

pub returns-in_err-prepend_cells : goal.returns-in_err-prepend_cells
returns-in_err-prepend_cells g t c =
    laid_refused _ c.from_residual.result _ _ c.from_residual.ensures.1
    (cells_more_refused _ c.args.shift c.in-Some.start.now c.args.starts.now c.in-Some.others.now c.args.past.skip c.args.code.now
    c.in-Some.ensures.cases.0 c.in_err-prepend_cells.ensures)

pub returns-in_err-prepend_cell : goal.returns-in_err-prepend_cell
returns-in_err-prepend_cell g t c =
    let over = c.saturating_sub-skip.ensures ∙ ap (λ (n : ℕ). n - c.in-Some.start.now) c.words.ensures.value in
    laid_refused _ c.from_residual-in_err-prepend_cell.result _ _ c.from_residual-in_err-prepend_cell.ensures.1
    (cell_refused _ c.args.shift c.in-Some.start.now c.args.starts.now c.in-Some.others.now c.args.past.skip c.args.code.now
    c.in-Some.ensures.cases.0 _ c.prepend_cells.new.code c.prepend_cells.new.starts (record { falls = refl; over = over })
    c.in_ok-prepend_cells.ensures c.in_err-prepend_cell.ensures)

pub returns : goal.returns
returns g t c =
    let over = c.saturating_sub-skip.ensures ∙ ap (λ (n : ℕ). n - c.in-Some.start.now) c.words.ensures.value in
    cell_laid _ c.args.shift c.in-Some.start.now c.args.starts.now c.in-Some.others.now c.args.past.skip c.args.code.now
    c.in-Some.ensures.cases.0 _ c.prepend_cells.new.code c.prepend_cell.new.code c.prepend_cells.new.starts c.words-2.result
    (record { falls = refl; over = over }) c.in_ok-prepend_cells.ensures c.in_ok-prepend_cell.ensures c.words-2.ensures.value
