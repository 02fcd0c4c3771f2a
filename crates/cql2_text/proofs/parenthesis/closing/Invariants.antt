use Rattle.std.proofs.Common.{◌≡◌, ◌+◌, ◌≤◌, length}
use Rattle.cql2_text.specs.Parenthesis.{closing}
use Rattle.cql2_text.proofs.parenthesis.closing.Given as goal

abbrev pub invariant-loop-after : goal.invariant-loop-after
invariant-loop-after l = record {
  same : closing l.inside.open_parentheses l.inside.rest.now ≡ closing 0 l.words;
  few : l.inside.open_parentheses + length l.inside.rest.now ≤ length l.words;
}

abbrev pub decreases-loop-after : goal.decreases-loop-after
decreases-loop-after l = length l.inside.rest.now
