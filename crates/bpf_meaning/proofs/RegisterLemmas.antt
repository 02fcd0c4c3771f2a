-- The registers that a call empties, and those that it keeps.
use Rattle.std.proofs.Common.{◌≡◌, ℕ, zero, suc, ◌≤◌, ℤ, List, get_or, Option, Some, None, Result, Ok, refl, sym, ap, ◌∙◌, subst}
use Rattle.std.proofs.Common.{arith}
use Rattle.std.specs.Int.{cast_unsigned, w32}
use Rattle.std.proofs.lemmas.List.{get_or-drop}
use Rattle.bpf_insn.specs.Code.{instruction_at}
use Rattle.bpf_insn.specs.declared.instruction.Insn.{Insn}
use Rattle.bpf_insn.specs.declared.instruction.Insn.TheVariants.{Call}
use Rattle.bpf_insn.specs.declared.value.Value.{Value}
use Rattle.bpf_insn.specs.declared.value.Value.TheVariants.{Empty}
use Rattle.tl_segments.specs.Segment.{SegmentParts}
use Rattle.bpf_helpers.specs.Helper.{by_number, signature}
use Rattle.bpf_helpers.specs.Group.{frame_use}
use Rattle.bpf_helpers.specs.declared.helper.Helper.{Helper}
use Rattle.bpf_meaning.specs.State.{register_value}
use Rattle.bpf_meaning.specs.Effect.{arguments_in, call_change, effect, effect_of, lend_frame, ◌>>=◌}
use Rattle.bpf_meaning.specs.Step.{Running, after, next_of, registers_after}
use Rattle.bpf_meaning.specs.Run.{Step}
use Rattle.bpf_meaning.specs.declared.cause.Cause.{Cause}
use Rattle.bpf_meaning.specs.declared.effect.Change.{Change}
use Rattle.bpf_meaning.specs.declared.effect.Change.TheVariants.{CallHelper}
use Rattle.bpf_meaning.specs.declared.effect.Effect.{Effect}
use Rattle.bpf_meaning.specs.declared.effect.Effect.TheVariants.{Continue}
use Rattle.bpf_meaning.specs.declared.state.State.{State}
use Rattle.bpf_meaning.proofs.WellFormedLemmas.{IfRunning}
use Rattle.bpf_meaning.proofs.EffectLemmas.{ContinuesWith, continues_with}
use Rattle.bpf_meaning.proofs.CallLemmas.{IfPasses, then_passes, then_keeps}

-- registers before and after a call
pub record IsAfterCall (old new : State) : Type 0 where
  pub empty : (register : ℕ) → 1 ≤ register → register ≤ 5 → register_value new register ≡ Empty
  pub preserved : (register : ℕ) → 6 ≤ register → register_value new register ≡ register_value old register

registers_empty : (answer : ℕ) (registers : List Value) (register : ℕ) → 1 ≤ register → register ≤ 5
    → get_or (registers_after answer registers) register Empty ≡ Empty
registers_empty answer registers zero from to = absurd (omega arith)
registers_empty answer registers (suc (suc (suc (suc (suc (suc register)))))) from to = absurd (omega arith)
registers_empty answer registers register from to = refl

registers_preserved : (answer : ℕ) (registers : List Value) (register : ℕ) → 6 ≤ register
    → get_or (registers_after answer registers) register Empty ≡ get_or registers register Empty
registers_preserved answer registers (suc (suc (suc (suc (suc (suc register)))))) from =
    get_or-drop 6 registers register Empty ∙ ap (λ (n : ℕ). get_or registers n Empty) (omega arith)
registers_preserved answer registers register from = absurd (omega arith)

-- an effect that is a call
abbrev IsCall : Change → Type 0
IsCall (CallHelper helper arguments) = Unit {0}
IsCall change = ⊥

change_is_call : (state : State) (found : Option Helper) → IfPasses IsCall (call_change state found)
change_is_call state None = tt
change_is_call state (Some helper) =
    then_passes IsCall (arguments_in state (signature helper).arguments >>= lend_frame state (frame_use (signature helper).group))
    (λ arguments. Ok (CallHelper helper arguments)) (λ arguments. tt)

applies_call : (segment : SegmentParts) (state : State) (result : Result Effect Cause) → IfPasses (ContinuesWith IsCall) result
    → IfRunning (IsAfterCall state) (next_of segment state result)
applies_call segment state (Ok (Continue (CallHelper helper arguments) place)) call =
    record { empty = registers_empty _ state.registers; preserved = registers_preserved _ state.registers }
applies_call segment state (Ok (Continue change place)) call = absurd call
applies_call segment state result call = tt

pub step_after_call : (code : List Insn) (segment : SegmentParts) (state there : State) (immediate : ℤ)
    → instruction_at code state.place ≡ Some (Call immediate) → Step code segment (Running state) (Running there) → IsAfterCall state there
unfolding after
step_after_call code segment state there immediate at step =
    subst (IfRunning (IsAfterCall state)) (sym step)
    (applies_call segment state (effect code segment state)
    (subst (λ (found : Option Insn). IfPasses (ContinuesWith IsCall) (effect_of code segment state found)) (sym at)
    (then_keeps IsCall (ContinuesWith IsCall) _ _ (change_is_call state (by_number (cast_unsigned w32 immediate)))
    (continues_with IsCall code _))))
