use Rattle.std.proofs.Common.{◌∷◌, [], ◌++◌, length, length-append, codes, sym, ap, ◌∙◌, arith}
use Rattle.cql2.specs.Column.{column_name}
use Rattle.layers.proofs.CellLemmas.{row_next}
use Rattle.layers.proofs.NameLemmas.{field_text-column_name, name_short}
use Rattle.layers.proofs.csv_table.push_names.Goals as goal

pub loop-column-preserved : goal.loop-column-preserved
loop-column-preserved c =
    let now = c.loop-column.piece.items in
    let middle = c.push-in-loop-column.new.piece.items in
    let next = c.push-in-loop-column-2.new.piece.items in
    let name = c.as_bytes.ensures.value ∙ c.column_name.ensures in
    record {
      so_far = row_next column_name (codes "score") c.args.columns.now c.loop-column.column-index _ now middle next
          c.loop-column-test.true c.loop-column.invariant.so_far c.push-in-loop-column.ensures
          (c.push-in-loop-column-2.ensures ∙ ap (λ text. middle ++ text) (name ∙ sym (field_text-column_name _)));
      short = omega (
        arith,
        ap length name,
        name_short,
        c.loop-column.invariant.short,
        ap length c.push-in-loop-column.ensures,
        length-append now (44 ∷ []),
        ap length c.push-in-loop-column-2.ensures,
        length-append middle c.as_bytes.result.now,
      );
    }
