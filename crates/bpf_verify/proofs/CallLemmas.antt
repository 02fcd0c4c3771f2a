-- The state after a call is proper.
use Rattle.std.proofs.Common.{ℕ, zero, suc, ◌+◌, List, ◌∷◌, ◌++◌, drop, replicate, get_or, sym, subst, arith}
use Rattle.std.proofs.lemmas.List.{get_or-drop, length-drop}
use Rattle.bpf_kinds.specs.Interval as interval
use Rattle.bpf_kinds.specs.Kind as kind
use Rattle.bpf_kinds.specs.declared.interval.Interval.{Interval}
use Rattle.bpf_kinds.specs.declared.kind.Kind.{Kind}
use Rattle.bpf_kinds.specs.declared.kind.Kind.TheVariants.{Number, Nothing}
use Rattle.bpf_verify.specs.Transfer.{state_after}
use Rattle.bpf_verify.specs.LiftedState.{IsProperState}
use Rattle.bpf_verify.specs.declared.abstract_state.AbstractState.{AbstractState}

after_proper : (answer : Interval) (kinds : List Kind) → interval.IsProper answer
    → ((register : ℕ) → kind.IsProper (get_or kinds register Nothing))
    → (register : ℕ) → kind.IsProper (get_or (Number answer ∷ replicate 5 Nothing ++ drop 6 kinds) register Nothing)
after_proper answer kinds proper all zero = proper
after_proper answer kinds proper all (suc (suc (suc (suc (suc (suc register)))))) =
    subst kind.IsProper (sym (get_or-drop 6 kinds register Nothing)) (all (6 + register))
after_proper answer kinds proper all register = tt

pub state_after_is_proper : (answer : Interval) (known : AbstractState) → interval.IsProper answer → IsProperState known
    → IsProperState (state_after answer known)
state_after_is_proper answer known answers proper = record {
  count = let rest = length-drop 6 known.registers in let all = proper.count in omega arith;
  kinds = after_proper answer known.registers answers proper.kinds;
  frame = proper.frame;
}
