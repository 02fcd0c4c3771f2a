use Rattle.std.proofs.Common.{ℕ, ◌<◌, ◌≤◌, length}
use Rattle.tl_segments.specs.Shape.{sequence_at}
use Rattle.tl_segments.proofs.multi_map.place_of.Given as goal

abbrev pub invariant-loop-place : goal.invariant-loop-place
invariant-loop-place l = record {
  within : l.place ≤ length l.parts;
  before : (k : ℕ) → l.place ≤ k → k < length l.parts → l.sequence < sequence_at l.parts k;
}

abbrev pub decreases-loop-place : goal.decreases-loop-place
decreases-loop-place l = l.place
