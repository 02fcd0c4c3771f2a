use Rattle.std.proofs.Common.{◌≡◌, ◌+◌, ◌≤◌, drop}
use Rattle.wire.specs.Counting.{line_feeds}
use Rattle.wire.proofs.answer.line_feeds.Given as goal

-- the line feeds so far and those left are all, and there are no more than bytes
abbrev pub invariant-loop-byte : goal.invariant-loop-byte
invariant-loop-byte l = record {
  counted : l.count + line_feeds (drop l.byte-index l.text) ≡ line_feeds l.text;
  few : l.count ≤ l.byte-index;
}
