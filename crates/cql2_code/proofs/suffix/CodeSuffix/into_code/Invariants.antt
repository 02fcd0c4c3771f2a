use Rattle.std.proofs.Common.{◌≡◌, map}
use Rattle.cql2_code.proofs.suffix.CodeSuffix.into_code.Given as goal

abbrev pub invariant-loop-insn : goal.invariant-loop-insn
invariant-loop-insn g l = l.builder ≡ map (λ insn. insn.now) l.yielded
