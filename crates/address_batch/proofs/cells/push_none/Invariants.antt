use Rattle.std.proofs.Common.{◌≡◌, ◌∷◌, [], replicate}
use Rattle.address_batch.specs.Lines.{cells_of, reason_text, status_text}
use Rattle.address_batch.specs.declared.lookup.MatchStatus.TheVariants.{NoMatch}
use Rattle.address_batch.proofs.cells.push_none.Given as goal

abbrev pub invariant-loop-empty : goal.invariant-loop-empty
invariant-loop-empty l = cells_of l.cells ≡ l.id ∷ status_text NoMatch ∷ reason_text l.fn.reason ∷ replicate l._empty []
