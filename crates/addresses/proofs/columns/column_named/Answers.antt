use Rattle.std.proofs.Common.{◌≡◌, ◌∙◌, ◌<◌, ◌+◌, length, sym, arith, drop}
use Rattle.std.specs.List.{position_from}
use Rattle.csv.specs.Records.{fields_of}
use Rattle.addresses.specs.Columns.{is_named}
use Rattle.addresses.proofs.CellLemmas.{has-cell, is-column, is-no-column}
use Rattle.addresses.proofs.columns.column_named.Goals as goal
use Rattle.addresses.proofs.columns.column_named.Goals.{in-Some+else-is_named, in_default}

pub returns-then-is_named : goal.returns-then-is_named
returns-then-is_named c =
    sym (c.loop-column.invariant
    ∙ is-column (is_named c.args.name.now) (fields_of c.args.header.now) c.loop-column.column c.in-Some.cell.now
    (sym c.in-Some.ensures.value) (sym c.if-is_named.ensures))

pub loop-column-preserved : goal.loop-column-preserved
loop-column-preserved c =
    let header = fields_of c.args.header.now in
    let test = is_named c.args.name.now in
    let column = c.loop-column.column in
    let inside : column < length header = omega (arith, c.loop-column-test.true, c.len-column-end.ensures) in
    let next : Type 0 = position_from test column (drop column header) ≡ position_from test (column + 1) (drop (column + 1) header) in
    c.loop-column.invariant ∙ elim c.match-get.branch as (λ _. next) [
      | in-Some+else-is_named w ↦ is-no-column test header column w.in-Some.cell.now (sym w.in-Some.ensures.value)
          (sym w.if-is_named.ensures)
      | in_default w ↦ absurd (has-cell header column inside (sym w.in_default.ensures.value))
    ]
