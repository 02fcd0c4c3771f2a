use Rattle.std.proofs.Common.{◌≡◌, ◌+◌, drop}
use Rattle.cql2_json.specs.Position.{offset_of}
use Rattle.cql2_json.proofs.position.offset_of.Given as goal

abbrev pub invariant-loop-offset : goal.invariant-loop-offset
invariant-loop-offset l = l.offset + offset_of l.left (drop l.offset l.text) ≡ offset_of l.column l.text
