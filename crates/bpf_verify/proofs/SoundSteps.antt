-- A step of an accepted code: the annotation's abstract state at the next place admits the state there.
use Rattle.std.proofs.Common.{◌≡◌, ℕ, zero, suc, ◌+◌, ◌<◌, inl, inr, pos, IsSome, is_some, List, [], ◌∷◌, ◌++◌, length, Option}
use Rattle.std.proofs.Common.{Some, None, Result, Ok, Err, refl, sym, ap, ◌∙◌, subst, arith}
use Rattle.std.proofs.lemmas.Bool.{false≢true}
use Rattle.std.proofs.lemmas.Int.{ints}
use Rattle.bpf_insn.specs.Code.{instruction_at, spelling}
use Rattle.bpf_insn.specs.Immediates.{HaveImmediates}
use Rattle.bpf_insn.specs.declared.instruction.Insn.{Insn}
use Rattle.bpf_insn.specs.declared.instruction.Insn.TheVariants.{Exit}
use Rattle.bpf_insn.proofs.PlaceLemmas.{instruction_within}
use Rattle.bpf_flow.specs.Flow.{IsForward}
use Rattle.bpf_frame.proofs.AdmitLemmas.{unwritten_admits}
use Rattle.bpf_kinds.specs.Kind as kind
use Rattle.bpf_kinds.specs.Offsets as offsets
use Rattle.bpf_meaning.specs.Effect.{effect_of, instruction_effect}
use Rattle.tl_segments.specs.Segment.{SegmentParts, IsSegment}
use Rattle.bpf_meaning.specs.State.{IsWellFormed, HoldsBytes, register_value, start}
use Rattle.bpf_meaning.specs.Step.{Configuration, Running, Exited, Stuck, after, carry_out, apply, next_of}
use Rattle.bpf_meaning.specs.declared.cause.Cause.{Cause}
use Rattle.bpf_meaning.specs.declared.effect.Change.{Change}
use Rattle.bpf_meaning.specs.declared.effect.Effect.{Effect}
use Rattle.bpf_meaning.specs.declared.effect.Effect.TheVariants.{Continue, End}
use Rattle.bpf_insn.specs.declared.memory.TheConstants.{FRAME_LENGTH}
use Rattle.bpf_meaning.specs.declared.state.State.{State}
use Rattle.bpf_meaning.proofs.WellFormedLemmas.{step_well_formed, step_bytes, start_bytes}
use Rattle.bpf_verify.specs.Annotation.{Annotation, PassesAt, IsGood}
use Rattle.bpf_verify.specs.Transfer.{transfer}
use Rattle.bpf_verify.specs.LiftedState.{entry, kind_of, IsProper, Admits, AdmitsState, Edges, LiftedState, Unreached, Reached}
use Rattle.bpf_verify.proofs.StateLaws.{admits_more}
use Rattle.bpf_meaning.specs.Checks.{Sound}
use Rattle.bpf_verify.proofs.SoundInstructions.{Follows, instruction_sound}
use Rattle.bpf_verify.proofs.SoundPlaces.{is_followed}

-- a state at another place
elsewhere : (abstract : LiftedState) (state : State) (place : ℕ) → Admits abstract state
    → Admits abstract (record state { place = place })
elsewhere Unreached state place admits = absurd admits
elsewhere (Reached known) state place admits = record { registers = admits.registers; frame = admits.frame }

-- a good annotation of a forward code whose immediates have 32 bits
pub record IsVerified (code : List Insn) (segment : SegmentParts) (annotation : Annotation) : Type 0 where
  pub forward : IsForward code
  pub good : IsGood code annotation
  pub is_segment : IsSegment segment
  pub immediates : HaveImmediates code

-- a state at an instruction, which the annotation's abstract state admits
pub record IsAdmittedState (code : List Insn) (annotation : Annotation) (state : State) : Type 0 where
  pub whole : IsWellFormed state
  pub bytes : HoldsBytes state
  pub insn : Insn
  pub is_insn : instruction_at code state.place ≡ Some insn
  pub admits : Admits (annotation state.place) state

-- what follows a state: another state at a later place, or an exit
abbrev pub ComesTo : List Insn → Annotation → State → Configuration → Type 0
ComesTo code annotation state (Running there) = IsAdmittedState code annotation there × (state.place < there.place)
ComesTo code annotation state (Exited answer score) = Unit {0}
ComesTo code annotation state (Stuck place cause) = ⊥

-- the instruction found at a place
found : (o : Option Insn) → IsSome o → (insn : Insn) × (o ≡ Some insn)
found (Some insn) some = (insn, refl)
found None some = absurd (false≢true some)

module _ (code : List Insn) (segment : SegmentParts) (annotation : Annotation) (state : State) where
  arrives : (change : Change) (place : ℕ) → IsWellFormed (record (carry_out segment state change) { place = place })
      → HoldsBytes (record (carry_out segment state change) { place = place }) → state.place < place → IsSome (instruction_at code place)
      → Admits (annotation place) (carry_out segment state change) → ComesTo code annotation state (apply segment state (Continue change place))
  arrives change place whole bytes later begins admits =
      let next = found (instruction_at code place) begins in
      let admitted = elsewhere (annotation place) (carry_out segment state change) place admits in
      (record { whole = whole; bytes = bytes; insn = next.0; is_insn = next.1; admits = admitted }, later)

  -- by the instruction's effect
  effect_comes : {insn : Insn} → IsSegment segment → IsWellFormed state → HoldsBytes state → (passes : PassesAt annotation state.place insn)
      (concrete : Result Effect Cause) → after code segment state ≡ next_of segment state concrete
      → Sound (Follows code segment state insn (state.place + length (spelling insn))) (Ok passes.edges) concrete
      → ComesTo code annotation state (next_of segment state concrete)
  effect_comes is_segment whole bytes passes (Err cause) is sound = absurd sound
  effect_comes is_segment whole bytes passes (Ok (End answer)) is sound = tt
  effect_comes is_segment whole bytes passes (Ok (Continue change place)) is (inl to) =
      arrives change place (step_well_formed code segment state _ whole (sym is)) (step_bytes code segment state _ is_segment bytes (sym is))
      (let next = to.is_next in omega arith) to.begins
      (subst (λ (n : ℕ). Admits (annotation n) (carry_out segment state change)) (sym to.is_next)
      (admits_more _ _ (carry_out segment state change) passes.next to.admits))
  effect_comes is_segment whole bytes passes (Ok (Continue change place)) is (inr to) =
      arrives change place (step_well_formed code segment state _ whole (sym is)) (step_bytes code segment state _ is_segment bytes (sym is))
      to.later to.begins
      (admits_more _ _ (carry_out segment state change) (passes.target to.distance place to.jumps to.is_target) to.admits)

after_is : (code : List Insn) (segment : SegmentParts) (state : State) (insn : Insn) → instruction_at code state.place ≡ Some insn
    → after code segment state ≡ next_of segment state (instruction_effect code segment state (state.place + length (spelling insn)) insn)
unfolding after
after_is code segment state insn is_insn = ap (λ (found : Option Insn). next_of segment state (effect_of code segment state found)) is_insn

pub step_comes : (code : List Insn) (segment : SegmentParts) (annotation : Annotation) (state : State) → IsVerified code segment annotation
    → IsAdmittedState code annotation state → ComesTo code annotation state (after code segment state)
step_comes code segment annotation state verified admitted_state =
    subst (ComesTo code annotation state) (sym is)
    (effect_comes code segment annotation state verified.is_segment admitted_state.whole admitted_state.bytes passes _ is
    (by_state (annotation state.place) (verified.good.proper state.place) admitted_state.admits passes.passes))
  where
    next : ℕ
    next = state.place + length (spelling admitted_state.insn)

    is : after code segment state ≡ next_of segment state (instruction_effect code segment state next admitted_state.insn)
    is = after_is code segment state admitted_state.insn admitted_state.is_insn

    passes : PassesAt annotation state.place admitted_state.insn
    passes = verified.good.passes state.place admitted_state.insn (instruction_within code state.place (ap is_some admitted_state.is_insn)) admitted_state.is_insn

    by_state : (abstract : LiftedState) → IsProper abstract → Admits abstract state → transfer abstract admitted_state.insn ≡ Ok passes.edges
        → Sound (Follows code segment state admitted_state.insn next) (Ok passes.edges) (instruction_effect code segment state next admitted_state.insn)
    by_state Unreached proper admits e = absurd admits
    by_state (Reached known) proper admits e =
        subst (λ (r : Result Edges Cause). Sound (Follows code segment state admitted_state.insn next) r
        (instruction_effect code segment state next admitted_state.insn)) e
        (instruction_sound code segment known state admitted_state.insn next (record {
          is_segment = verified.is_segment;
          has = record { proper = proper; admits = admits; whole = admitted_state.whole; bytes = admitted_state.bytes };
          followed = is_followed code verified.forward.last state.place admitted_state.insn admitted_state.is_insn;
          leads = λ distance. verified.forward.jumps state.place admitted_state.insn distance admitted_state.is_insn;
          fits = verified.immediates state.place admitted_state.insn admitted_state.is_insn;
        }))

-- at the start each register's kind admits its value

single_offset : (n : ℕ) → offsets.Admits (offsets.between (pos n) (pos n)) (pos n)
single_offset n = record { above = omega (arith, ints); below = omega (arith, ints) }

entry_admits : (register : ℕ) → kind.Admits (kind_of entry register) (register_value start register)
entry_admits (suc zero) = (refl, single_offset 0)
entry_admits (suc (suc (suc (suc (suc (suc (suc (suc (suc (suc zero)))))))))) = (refl, single_offset FRAME_LENGTH)
entry_admits register = tt

entry_admits_start : AdmitsState entry start
entry_admits_start = record { registers = entry_admits; frame = unwritten_admits start.frame }

begins : (before : List Insn) → (insn : Insn) × (instruction_at (before ++ Exit ∷ []) 0 ≡ Some insn)
begins [] = (Exit, refl)
begins (insn ∷ before) = (insn, refl)

pub starts : (code : List Insn) (segment : SegmentParts) (annotation : Annotation) → IsVerified code segment annotation
    → IsAdmittedState code annotation start
starts code segment annotation verified =
    let first = begins verified.forward.last.0 in
    record {
      whole = record { registers = refl; frame = refl; slots = refl };
      bytes = start_bytes;
      insn = first.0;
      is_insn = ap (λ (c : List Insn). instruction_at c 0) verified.forward.last.1 ∙ first.1;
      admits = admits_more (Reached entry) (annotation 0) start verified.good.entry entry_admits_start;
    }
