use Rattle.std.proofs.Common.{◌≡◌, ◌-◌, ◌≤◌, length, take}
use Rattle.counted_io.specs.Content.{HasNoLineFeed}
use Rattle.counted_io.proofs.line_copy.copy_if_no_line_feed.Given as goal

abbrev pub invariant-loop-at : goal.invariant-loop-at
invariant-loop-at l = record {
  len : length l.to ≡ length l.from;
  within : l.at ≤ length l.from;
  copied : take l.at l.to ≡ take l.at l.from;
  no_line_feed : HasNoLineFeed (take l.at l.from);
}

abbrev pub decreases-loop-at : goal.decreases-loop-at
decreases-loop-at l = l.last - l.at
