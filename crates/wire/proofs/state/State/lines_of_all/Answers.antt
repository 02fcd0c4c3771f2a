use Rattle.std.proofs.Common.{Bor, List, ap, map, ◌∙◌, ℕ}
use Rattle.std.specs.String.{string_bytes}
use Rattle.address_batch.specs.Batch.{BatchParts}
use Rattle.wire.proofs.state.State.lines_of_all.Goals as goal

pub returns-clause-ok : goal.returns-clause-ok
returns-clause-ok g c =
    let counties = ap (λ (batch : BatchParts). batch.counties) c.with-batch.ensures ∙ c.counties-counties.ensures.value
    ∙ ap (λ state. state.table.counties) c.self.view_is in
    let codes = ap (λ (batch : BatchParts). batch.codes) c.with-batch.ensures
    ∙ ap (λ (codes : List (Bor (List ℕ))). map (λ code. code.now) codes) c.as_slice-2.ensures.value ∙ c.in_ok-codes.ensures
    ∙ ap (map string_bytes) c.as_slice.ensures.value ∙ ap (λ state. state.codes) c.self.view_is in
    rw (counties, codes) at c.output.ensures.ok
