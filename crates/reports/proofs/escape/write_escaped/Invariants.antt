use Rattle.std.proofs.Common.{◌≤◌, length}
use Rattle.reports.proofs.EscapeLemmas.{WritesFront}
use Rattle.reports.proofs.escape.write_escaped.Given as goal

abbrev pub invariant-loop-place : goal.invariant-loop-place
invariant-loop-place g l = record {
  wrote : WritesFront l.text l.rest (g.W.CountedWrite.writer l.initial.out) (g.W.CountedWrite.writer l.out);
  within : length l.rest ≤ length l.text;
}

abbrev pub decreases-loop-place : goal.decreases-loop-place
decreases-loop-place g l = length l.rest
