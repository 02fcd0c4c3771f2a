use Rattle.addresses.proofs.CellLemmas.{is-named-trimmed, is-trimmed}
use Rattle.addresses.proofs.columns.is_named.Goals as goal

pub returns : goal.returns
returns c =
    is-named-trimmed c.args.name.now c.args.cell.now c.trim_ascii.result.now c.eq_ignore_ascii_case.result
    (is-trimmed c.args.cell.now c.trim_ascii.result.now c.trim_ascii.ensures.value) c.eq_ignore_ascii_case.ensures.test
