use Rattle.std.proofs.Common.{◌≡◌, ◌≤◌, length}
use Rattle.tl_fields.specs.Number.{without_blanks_before}
use Rattle.layers.proofs.value.without_leading_blanks.Given as goal

abbrev pub invariant-loop-rest : goal.invariant-loop-rest
invariant-loop-rest l = (without_blanks_before l.rest ≡ without_blanks_before l.fn.field) × (length l.rest ≤ length l.fn.field)

abbrev pub decreases-loop-rest : goal.decreases-loop-rest
decreases-loop-rest l = length l.rest
