use Rattle.std.proofs.Common.{◌≡◌, ◌≤◌, ◌+◌, take}
use Rattle.cql2_json.specs.Position.{line_after}
use Rattle.cql2_json.proofs.position.line_after.Given as goal

abbrev pub invariant-loop-byte : goal.invariant-loop-byte
invariant-loop-byte l = record { value : l.line ≡ line_after (take l.byte-index l.front); small : l.line ≤ 1 + l.byte-index }
