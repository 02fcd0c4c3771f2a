use Rattle.std.proofs.Common.{◌≡◌, ℕ, List, ◌++◌, ap, ap₂, subst, ◌∙◌}
use Rattle.counted_io.specs.Writing.{WritesText}
use Rattle.layers.proofs.RowLemmas.{header_is}
use Rattle.layers.specs.CsvTable.{header_text, names_text}
use Rattle.layers.specs.Layout.{LayoutParts}
use Rattle.layers.proofs.csv_table.write_header.Goals as goal

pub returns : goal.returns
returns g c =
    let value_of = g.W.CountedWrite.writer in
    let table : LayoutParts = record { columns = c.args.columns.now; geometry = c.args.geometry } in
    let names = c.push_names.ensures.text ∙ ap names_text c.as_slice.ensures.value in
    let text_is : c.as_slice-2.result.now ≡ header_text table =
    c.as_slice-2.ensures.value ∙ c.push.ensures ∙ ap₂ (λ names end. names ++ end) names c.end_of_header.ensures.text
    ∙ header_is table c.as_slice.ensures.some in
    subst (λ (text : List ℕ). WritesText text c.write_text.result (value_of c.args.out.now) (value_of c.write_text.new.out))
    text_is c.write_text.ensures
