-- Abstract states are partially ordered, and joins are least upper bounds.
use Rattle.std.proofs.Common.{◌≡◌, ℕ, List, sym, ap, ◌∙◌, subst, refl}
use Rattle.std.proofs.lemmas.List.{ext_get_or, length-set}
use Rattle.bpf_frame.specs.FrameMap.{Contents}
use Rattle.bpf_frame.specs.OrderLaws as maps
use Rattle.bpf_kinds.specs.Kind as kind
use Rattle.bpf_kinds.proofs.KindLemmas as kinds
use Rattle.bpf_kinds.proofs.ListLemmas.{get_or-join_kinds, length-join_kinds, set_each}
use Rattle.bpf_kinds.specs.declared.kind.Kind.{Kind}
use Rattle.bpf_kinds.specs.declared.kind.Kind.TheVariants.{Number, Nothing}
use Rattle.bpf_meaning.specs.State.{register_value}
use Rattle.bpf_meaning.specs.declared.state.State.{State}
use Rattle.bpf_insn.specs.declared.instruction.Source.{Source}
use Rattle.bpf_insn.specs.declared.instruction.Source.TheVariants.{Immediate, Register}
use Rattle.bpf_kinds.specs.Interval as interval
use Rattle.bpf_kinds.specs.declared.narrowing.Narrowed.{Narrowed}
use Rattle.bpf_verify.specs.LiftedState.{LiftedState, Unreached, Reached, kind_of, with_kind, IsProperState, AdmitsState, IsWithinState}
use Rattle.bpf_verify.specs.LiftedState.{join_states, IsProper, Admits, IsWithin, join}
use Rattle.bpf_verify.specs.Transfer.{with_narrowed}
use Rattle.bpf_verify.specs.declared.abstract_state.AbstractState.{AbstractState}

-- the kinds of a join
pub kind_of-join : (x y : AbstractState) (register : ℕ) → IsProperState x → IsProperState y
    → kind_of (join_states x y) register ≡ kind.join (kind_of x register) (kind_of y register)
kind_of-join x y register proper-x proper-y = get_or-join_kinds x.registers y.registers register (proper-x.count ∙ sym proper-y.count)

pub known_reflexive : (x : AbstractState) → IsWithinState x x
known_reflexive x = record { registers = λ register. kinds.reflexive (kind_of x register); frame = maps.reflexive x.frame }

pub known_transitive : (x y z : AbstractState) → IsWithinState x y → IsWithinState y z → IsWithinState x z
known_transitive x y z below above = record {
  registers = λ register. kinds.transitive _ _ _ (below.registers register) (above.registers register);
  frame = maps.transitive x.frame y.frame z.frame below.frame above.frame;
}

same_state : (registers others : List Kind) (frame other : Contents) → registers ≡ others → frame ≡ other
    → let x : AbstractState = record { registers = registers; frame = frame } in let y : AbstractState = record { registers = others; frame = other } in
    x ≡ y
same_state registers others frame other same same_frame = cc

pub known_antisymmetric : (x y : AbstractState) → IsProperState x → IsProperState y → IsWithinState x y → IsWithinState y x → x ≡ y
known_antisymmetric x y proper-x proper-y below above =
    same_state x.registers y.registers x.frame y.frame
    (ext_get_or Nothing x.registers y.registers (proper-x.count ∙ sym proper-y.count)
    (λ register _. kinds.antisymmetric _ _ (proper-x.kinds register) (proper-y.kinds register) (below.registers register)
    (above.registers register)))
    (maps.antisymmetric x.frame y.frame proper-x.frame proper-y.frame below.frame above.frame)

pub join_known_is_proper : (x y : AbstractState) → IsProperState x → IsProperState y → IsProperState (join_states x y)
join_known_is_proper x y proper-x proper-y = record {
  count = length-join_kinds x.registers y.registers (proper-x.count ∙ sym proper-y.count) ∙ proper-x.count;
  kinds = λ register. subst kind.IsProper (sym (kind_of-join x y register proper-x proper-y))
      (kinds.join-proper _ _ (proper-x.kinds register) (proper-y.kinds register));
  frame = maps.join_is_proper x.frame y.frame proper-x.frame proper-y.frame;
}

pub left_is_within_join_known : (x y : AbstractState) → IsProperState x → IsProperState y → IsWithinState x (join_states x y)
left_is_within_join_known x y proper-x proper-y = record {
  registers = λ register. subst (kind.IsWithin (kind_of x register)) (sym (kind_of-join x y register proper-x proper-y))
      (kinds.left-within_join _ _ (proper-x.kinds register) (proper-y.kinds register));
  frame = maps.left_is_within_join x.frame y.frame proper-x.frame proper-y.frame;
}

pub right_is_within_join_known : (x y : AbstractState) → IsProperState x → IsProperState y → IsWithinState y (join_states x y)
right_is_within_join_known x y proper-x proper-y = record {
  registers = λ register. subst (kind.IsWithin (kind_of y register)) (sym (kind_of-join x y register proper-x proper-y))
      (kinds.right-within_join _ _ (proper-x.kinds register) (proper-y.kinds register));
  frame = maps.right_is_within_join x.frame y.frame proper-x.frame proper-y.frame;
}

pub join_known_is_least : (x y z : AbstractState) → IsProperState x → IsProperState y → IsWithinState x z → IsWithinState y z
    → IsWithinState (join_states x y) z
join_known_is_least x y z proper-x proper-y below-x below-y = record {
  registers = λ register. subst (λ (joined : Kind). kind.IsWithin joined (kind_of z register))
      (sym (kind_of-join x y register proper-x proper-y))
      (kinds.join-least _ _ _ (below-x.registers register) (below-y.registers register));
  frame = maps.join_is_least x.frame y.frame z.frame proper-x.frame proper-y.frame below-x.frame below-y.frame;
}

pub known_admits_more : (x y : AbstractState) (state : State) → IsWithinState x y → AdmitsState x state → AdmitsState y state
known_admits_more x y state below admits = record {
  registers = λ register. kinds.admits_more _ _ (register_value state register) (below.registers register) (admits.registers register);
  frame = maps.admits_more x.frame y.frame state.frame below.frame admits.frame;
}

-- registers that are set

with_kind_is_proper : (known : AbstractState) (register : ℕ) (x : Kind) → IsProperState known → kind.IsProper x
    → IsProperState (with_kind known register x)
with_kind_is_proper known register x proper proper-x = record {
  count = length-set known.registers register x ∙ proper.count;
  kinds = set_each (λ number. kind.IsProper) Nothing known.registers register x proper-x proper.kinds;
  frame = proper.frame;
}

pub with_narrowed_is_proper : (known : AbstractState) (left : ℕ) (right : Source) (both : Narrowed) → IsProperState known
    → interval.IsProper both.left → interval.IsProper both.right → IsProperState (with_narrowed known left right both)
with_narrowed_is_proper known left (Immediate immediate) both proper first second =
    with_kind_is_proper known left (Number both.left) proper first
with_narrowed_is_proper known left (Register right) both proper first second =
    with_kind_is_proper (with_kind known left (Number both.left)) right.number (Number both.right)
    (with_kind_is_proper known left (Number both.left) proper first) second

-- with the bottom

pub reflexive : (x : LiftedState) → IsWithin x x
reflexive Unreached = tt
reflexive (Reached x) = known_reflexive x

pub transitive : (x y z : LiftedState) → IsWithin x y → IsWithin y z → IsWithin x z
transitive Unreached y z below above = tt
transitive (Reached x) Unreached z below above = absurd below
transitive (Reached x) (Reached y) Unreached below above = absurd above
transitive (Reached x) (Reached y) (Reached z) below above = known_transitive x y z below above

pub antisymmetric : (x y : LiftedState) → IsProper x → IsProper y → IsWithin x y → IsWithin y x → x ≡ y
antisymmetric Unreached Unreached proper-x proper-y below above = refl
antisymmetric Unreached (Reached y) proper-x proper-y below above = absurd above
antisymmetric (Reached x) Unreached proper-x proper-y below above = absurd below
antisymmetric (Reached x) (Reached y) proper-x proper-y below above = ap Reached (known_antisymmetric x y proper-x proper-y below above)

pub join_is_proper : (x y : LiftedState) → IsProper x → IsProper y → IsProper (join x y)
join_is_proper Unreached y proper-x proper-y = proper-y
join_is_proper (Reached x) Unreached proper-x proper-y = proper-x
join_is_proper (Reached x) (Reached y) proper-x proper-y = join_known_is_proper x y proper-x proper-y

pub left_is_within_join : (x y : LiftedState) → IsProper x → IsProper y → IsWithin x (join x y)
left_is_within_join Unreached y proper-x proper-y = tt
left_is_within_join (Reached x) Unreached proper-x proper-y = known_reflexive x
left_is_within_join (Reached x) (Reached y) proper-x proper-y = left_is_within_join_known x y proper-x proper-y

pub right_is_within_join : (x y : LiftedState) → IsProper x → IsProper y → IsWithin y (join x y)
right_is_within_join Unreached y proper-x proper-y = reflexive y
right_is_within_join (Reached x) Unreached proper-x proper-y = tt
right_is_within_join (Reached x) (Reached y) proper-x proper-y = right_is_within_join_known x y proper-x proper-y

pub join_is_least : (x y z : LiftedState) → IsProper x → IsProper y → IsWithin x z → IsWithin y z → IsWithin (join x y) z
join_is_least Unreached y z proper-x proper-y below-x below-y = below-y
join_is_least (Reached x) Unreached z proper-x proper-y below-x below-y = below-x
join_is_least (Reached x) (Reached y) Unreached proper-x proper-y below-x below-y = absurd below-x
join_is_least (Reached x) (Reached y) (Reached z) proper-x proper-y below-x below-y =
    join_known_is_least x y z proper-x proper-y below-x below-y

pub admits_more : (x y : LiftedState) (state : State) → IsWithin x y → Admits x state → Admits y state
admits_more Unreached y state below admits = absurd admits
admits_more (Reached x) Unreached state below admits = absurd below
admits_more (Reached x) (Reached y) state below admits = known_admits_more x y state below admits
