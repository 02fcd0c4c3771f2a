use Rattle.std.proofs.Common.{◌≡◌, ◌≤◌, ◌+◌, take}
use Rattle.cql2_json.specs.Position.{column_after}
use Rattle.cql2_json.proofs.position.column_after.Given as goal

abbrev pub invariant-loop-byte : goal.invariant-loop-byte
invariant-loop-byte l = record { value : l.column ≡ column_after (take l.byte-index l.front); small : l.column ≤ 1 + l.byte-index }
