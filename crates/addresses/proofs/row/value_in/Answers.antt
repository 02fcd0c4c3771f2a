use Rattle.std.proofs.Common.{◌∙◌, ap}
use Rattle.addresses.specs.Columns.{trimmed}
use Rattle.addresses.proofs.CellLemmas.{is-trimmed}
use Rattle.addresses.proofs.row.value_in.Goals as goal

pub returns-in-Some : goal.returns-in-Some
returns-in-Some c =
    rw c.in-Some.is (is-trimmed c.cell_in.result.now c.trim_ascii.result.now c.trim_ascii.ensures.value ∙ ap trimmed c.cell_in.ensures)
