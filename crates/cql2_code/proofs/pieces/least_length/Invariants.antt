use Rattle.std.proofs.Common.{◌≡◌, ◌≤◌, ◌+◌, drop}
use Rattle.cql2_code.specs.Pieces.{least_length}
use Rattle.cql2_code.proofs.pieces.least_length.Given as goal

abbrev pub invariant-loop-part : goal.invariant-loop-part
invariant-loop-part l = (l.count ≤ l.part-index) × (l.count + least_length (drop l.part-index l.pattern) ≡ least_length l.pattern)
