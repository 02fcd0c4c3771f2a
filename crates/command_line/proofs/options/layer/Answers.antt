use Rattle.std.proofs.Common.{codes, ◌∙◌}
use Rattle.std.proofs.lemmas.Result.{err_from_is_err_and}
use Rattle.command_line.specs.Values.{rows_in}
use Rattle.command_line.proofs.ValueLemmas.{first_value_in, layer_fault_is}
use Rattle.command_line.proofs.options.layer.Goals as goal

pub returns-in_err-layer_named-clause-fault : goal.returns-in_err-layer_named-clause-fault
returns-in_err-layer_named-clause-fault c =
    let matches = c.args.matches.now in
    let format = c.get_str-format.ensures ∙ first_value_in matches (codes "format") in
    let columns = c.get_str-columns.ensures ∙ first_value_in matches (codes "columns") in
    let geometry = c.get_str-geometry.ensures ∙ first_value_in matches (codes "geometry") in
    let returned = err_from_is_err_and c.from_residual.result c.from_residual.ensures.1 in
    rw returned.1
    (layer_fault_is (rows_in matches) c.in_err-layer_named.field-0.0 returned.0 returned.2
    (rw (format, columns, geometry) at c.in_err-layer_named.ensures.value) c.in_err-layer_named.ensures.nearest)
