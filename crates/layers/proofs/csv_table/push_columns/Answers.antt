use Rattle.std.proofs.Common.{ℕ, List, ◌∷◌, [], ◌++◌, length, length-append, decimal, ap, ◌∙◌, arith}
use Rattle.cql2.specs.declared.column.Column.{Column}
use Rattle.csv.specs.Writing.{default_writer, field_text}
use Rattle.layers.proofs.CellLemmas.{row_next}
use Rattle.layers.specs.CsvTable.{cell_of}
use Rattle.layers.specs.Value.{value_of}
use Rattle.layers.proofs.csv_table.push_columns.Goals as goal

pub loop-column-preserved : goal.loop-column-preserved
loop-column-preserved c =
    let now = c.loop-column.piece.items in
    let middle = c.push.new.piece.items in
    let cell : Column → List ℕ = λ column. cell_of (value_of column c.args.line.now) in
    record {
      so_far = row_next cell (decimal c.args.score) c.args.columns.now c.loop-column.column-index _ now middle c.push_value.new.piece.items
          c.loop-column-test.true c.loop-column.invariant.so_far c.push.ensures
          (c.push_value.ensures.text ∙ ap (λ value. middle ++ field_text default_writer (cell_of value)) c.value_of.ensures);
      short = omega (arith, c.push_value.ensures.short, c.loop-column.invariant.short, ap length c.push.ensures, length-append now (44 ∷ []));
    }
