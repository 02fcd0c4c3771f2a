use Rattle.std.proofs.Common.{◌≡◌, ◌≤◌, take}
use Rattle.cql2_text.specs.Pattern.{least_length}
use Rattle.cql2_text.proofs.pattern.least_length.Given as goal

abbrev pub invariant-loop-part : goal.invariant-loop-part
invariant-loop-part l = record { value : l.least ≡ least_length (take l.part-index l.parts); small : l.least ≤ l.part-index }
