use Rattle.std.proofs.Common.{◌≡◌, ◌++◌, List, ℕ, refl, subst, ◌∙◌}
use Rattle.std.specs.Prelude.{OnOk}
use Rattle.address_batch.specs.Lines.{line}
use Rattle.address_batch.proofs.CellLemmas.{with_cell}
use Rattle.address_batch.proofs.cells.push_match.Goals as goal

pub returns : goal.returns
returns c =
    let cells1 = with_cell c.new.ensures c.in_ok-with.ensures refl in
    let cells2 = with_cell cells1 c.in_ok-with-2.ensures (c.as_bytes.ensures.value ∙ c.text.ensures) in
    let cells3 = with_cell cells2 c.in_ok-with-3.ensures refl in
    let cells4 = with_cell cells3 c.in_ok-with-4.ensures (c.as_slice.ensures.value ∙ c.longitude_cell.ensures) in
    let cells5 = with_cell cells4 c.in_ok-with-5.ensures (c.as_slice-2.ensures.value ∙ c.latitude_cell.ensures) in
    let cells6 = with_cell cells5 c.in_ok-with-6.ensures (c.as_bytes-2.ensures.value ∙ c.format.ensures.text) in
    let cells7 = with_cell cells6 c.in_ok-with-7.ensures (c.as_bytes-3.ensures.value ∙ c.letter.ensures.value) in
    let cells8 = with_cell cells7 c.in_ok-with_field.ensures refl in
    let cells9 = with_cell cells8 c.in_ok-with_field-2.ensures refl in
    let cells10 = with_cell cells9 c.in_ok-with_field-3.ensures refl in
    let cells11 = with_cell cells10 c.in_ok-with_field-4.ensures refl in
    let cells12 = with_cell cells11 c.in_ok-with_field-5.ensures refl in
    let cells13 = with_cell cells12 c.in_ok-with-8.ensures (c.as_bytes-4.ensures.value ∙ c.code_at.ensures) in
    let cells14 = with_cell cells13 c.in_ok-with_field-6.ensures refl in
    let cells15 = with_cell cells14 c.in_ok-cells.ensures refl in
    subst (λ (cells : List (List ℕ)). OnOk c.push.result (c.push.new.self ≡ c.args.lines.now ++ line cells)) cells15
    c.push.ensures
