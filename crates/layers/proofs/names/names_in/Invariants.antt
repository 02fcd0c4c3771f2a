use Rattle.std.proofs.Common.{◌≡◌}
use Rattle.layers.proofs.names.names_in.Given as goal

abbrev pub invariant-loop-name : goal.invariant-loop-name
invariant-loop-name g l = l.names.items ≡ l.yielded
