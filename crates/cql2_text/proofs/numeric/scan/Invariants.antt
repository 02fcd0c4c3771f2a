use Rattle.std.proofs.Common.{◌≡◌, ◌+◌, ◌≤◌, true, None, length}
use Rattle.cql2_text.specs.Scan.{scanned}
use Rattle.cql2_text.proofs.numeric.scan.Given as goal

abbrev pub invariant-loop-after : goal.invariant-loop-after
invariant-loop-after l = record {
  same : scanned l.scan.expects l.scan.open_parentheses l.scan.column l.scan.rest.now ≡ scanned true 0 None l.words;
  few : l.scan.open_parentheses + length l.scan.rest.now ≤ length l.words;
}

abbrev pub decreases-loop-after : goal.decreases-loop-after
decreases-loop-after l = length l.scan.rest.now
