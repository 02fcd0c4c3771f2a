use Rattle.std.proofs.Common.{◌≡◌, ◌≤◌, ◌-◌, ◌++◌, length}
use Rattle.cql2.specs.Folding.{is_alike}
use Rattle.cql2_code.specs.Lowering.{bytes_where}
use Rattle.cql2_code.proofs.pieces.bytes_alike.Given as goal

abbrev pub invariant-loop-above : goal.invariant-loop-above
invariant-loop-above l = (length l.bytes.items ≤ l.above)
    × (l.bytes.items ++ bytes_where (λ byte. is_alike l.folding byte l.required) (256 - l.above)
    ≡ bytes_where (λ byte. is_alike l.folding byte l.required) 256)
