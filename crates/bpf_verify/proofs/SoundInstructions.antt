-- One instruction is sound: if no check fails in an abstract state, none fails in a state that it admits, and the abstract state after the
-- instruction admits the state after it.
use Rattle.std.proofs.Common.{◌≡◌, ℕ, ◌<◌, ◌⊎◌, inl, inr, ℤ, pos, nat_lt, IsSome, Bool, true, false, List, Some, Result, Ok, Err}
use Rattle.std.proofs.Common.{if◌then◌else◌, refl, sym, subst}
use Rattle.std.specs.Prelude.{FitsSigned}
use Rattle.std.specs.Int.{w32}
use Rattle.bpf_insn.specs.Immediates.{HasImmediates}
use Rattle.bpf_insn.specs.Code.{instruction_at, word_count}
use Rattle.bpf_insn.specs.Jump.{jump_distance}
use Rattle.bpf_insn.specs.declared.instruction.Insn.{Insn}
use Rattle.bpf_insn.specs.declared.instruction.Insn.TheVariants.{Exit}
use Rattle.bpf_insn.specs.declared.register.WritableRegister.{WritableRegister}
use Rattle.bpf_insn.specs.declared.value.Value.{Value}
use Rattle.bpf_flow.specs.Flow.{target_of, IsForwardJump}
use Rattle.bpf_kinds.specs.Kind as kind
use Rattle.bpf_kinds.specs.declared.kind.Kind.{Kind}
use Rattle.bpf_kinds.proofs.ResultLemmas.{negate-admits, extend-admits, byte_swap-admits, wide_number-admits, immediate_operand-admits}
use Rattle.bpf_kinds.proofs.ResultLemmas.{immediate_operand-proper}
use Rattle.bpf_meaning.specs.Effect as effect
use Rattle.bpf_meaning.specs.Effect.{◌>>=◌}
use Rattle.tl_segments.specs.Segment.{SegmentParts, IsSegment}
use Rattle.bpf_meaning.specs.Step.{carry_out}
use Rattle.bpf_meaning.specs.declared.cause.Cause.{Cause}
use Rattle.bpf_meaning.specs.declared.cause.Cause.TheVariants.{OutOfProgram, IntoWide}
use Rattle.bpf_meaning.specs.declared.effect.Change.{Change}
use Rattle.bpf_meaning.specs.declared.effect.Change.TheVariants.{Nothing, SetRegister}
use Rattle.bpf_meaning.specs.declared.effect.Effect.{Effect}
use Rattle.bpf_meaning.specs.declared.effect.Effect.TheVariants.{Continue, End}
use Rattle.bpf_meaning.specs.declared.state.State.{State}
use Rattle.bpf_meaning.specs.State.{register_value}
use Rattle.bpf_meaning.specs.Walk.{walk}
use Rattle.bpf_verify.specs.Transfer as edge
use Rattle.bpf_verify.specs.Transfer.{kinds}
use Rattle.bpf_verify.specs.LiftedState as lifted
use Rattle.bpf_verify.specs.declared.abstract_state.AbstractState.{AbstractState}
use Rattle.bpf_verify.specs.LiftedState.{Edges}
use Rattle.bpf_meaning.specs.Checks.{Sound}
use Rattle.bpf_verify.proofs.SoundChecks.{HasNumber, HasState, HasValue, IsReadOf, read_holds, number_or_sound}
use Rattle.bpf_verify.proofs.SoundArithmetic.{operate_sound, move_sound}
use Rattle.bpf_verify.proofs.SoundStates.{writes_admit}
use Rattle.bpf_verify.proofs.SoundComparison.{TakesEdge, with_immediate, with_register}
use Rattle.bpf_verify.proofs.SoundMemory.{Stores, PointsWithin, IsFrom, pointers_sound, load_from_sound, from_sound, store_at_sound}
use Rattle.bpf_verify.proofs.SoundCalls.{call_sound}
use Rattle.bpf_meaning.proofs.WalkForesees.{Foresees, walk_foreseen}

-- The program goes on at the next place, or at a jump's target, and the abstract state on that edge admits the state there.

pub record ContinuesToNext (code : List Insn) (segment : SegmentParts) (state : State) (next : ℕ) (edges : Edges) (change : Change)
    (place : ℕ) : Type 0 where
  pub is_next : place ≡ next
  pub begins : IsSome (instruction_at code place)
  pub admits : lifted.Admits edges.next (carry_out segment state change)

pub record ContinuesToTarget (code : List Insn) (segment : SegmentParts) (state : State) (insn : Insn) (edges : Edges) (change : Change)
    (place : ℕ) : Type 0 where
  pub distance : ℤ
  pub jumps : jump_distance insn ≡ Some distance
  pub is_target : target_of state.place distance ≡ pos place
  pub later : state.place < place
  pub begins : IsSome (instruction_at code place)
  pub admits : lifted.Admits edges.target (carry_out segment state change)

abbrev pub Follows : List Insn → SegmentParts → State → Insn → ℕ → Edges → Effect → Type 0
Follows code segment state insn next edges (Continue change place) =
    ContinuesToNext code segment state next edges change place ⊎ ContinuesToTarget code segment state insn edges change place
Follows code segment state insn next edges (End answer) = Unit {0}

-- an instruction at a state's place, in a code whose jumps lead on
pub record IsExecuted (code : List Insn) (segment : SegmentParts) (known : AbstractState) (state : State) (insn : Insn) (next : ℕ) : Type 0 where
  pub is_segment : IsSegment segment
  pub has : HasState known state
  pub followed : (insn ≡ Exit → ⊥) → IsSome (instruction_at code next)
  pub leads : (distance : ℤ) → jump_distance insn ≡ Some distance → IsForwardJump code state.place distance
  pub fits : HasImmediates insn

-- an instruction that passes its checks
module _ {code : List Insn} {segment : SegmentParts} {known : AbstractState} {state : State} {insn : Insn} {next : ℕ}
    (is_insn : IsExecuted code segment known state insn next) where
  -- on to the next instruction
  next_sound : (insn ≡ Exit → ⊥) → (edges : Edges) (change : Change) → lifted.Admits edges.next (carry_out segment state change)
      → Sound (Follows code segment state insn next) (Ok edges) (effect.continue_with code next change)
  next_sound continues edges change admits =
      let begins = is_insn.followed continues in
      subst (λ (b : Bool). Sound (Follows code segment state insn next) (Ok edges)
      (if b then Ok (Continue change next) else (if nat_lt next (word_count code) then Err IntoWide else Err OutOfProgram))) (sym begins)
      (inl (record { is_next = refl; begins = begins; admits = admits }))

  -- to the target of a jump
  target_sound : (edges : Edges) {distance : ℤ} → jump_distance insn ≡ Some distance → lifted.Admits edges.target state
      → Sound (Follows code segment state insn next) (Ok edges) (effect.jump code state.place distance)
  target_sound edges {distance} jumps admits =
      let leads = is_insn.leads distance jumps in
      subst (λ (z : ℤ). Sound (Follows code segment state insn next) (Ok edges) (effect.continue_at code z)) (sym leads.is_target)
      (subst (λ (b : Bool). Sound (Follows code segment state insn next) (Ok edges)
      (if b then Ok (Continue Nothing leads.target) else (if nat_lt leads.target (word_count code) then Err IntoWide else Err OutOfProgram)))
      (sym leads.begins)
      (inr (record {
        distance = distance;
        jumps = jumps;
        is_target = leads.is_target;
        later = leads.later;
        begins = leads.begins;
        admits = admits;
      })))

  -- a register is set
  set_sound : (insn ≡ Exit → ⊥) → (destination : WritableRegister) (x : Kind) (v : Value) → kind.Admits x v
      → Sound (Follows code segment state insn next) (edge.set_register known destination.number x)
      (effect.set_register code next destination v)
  set_sound continues destination x v admits =
      next_sound continues _ (SetRegister destination v) (writes_admit segment known state is_insn.has destination x v admits)

  -- the edge of a conditional jump
  branch_sound : (insn ≡ Exit → ⊥) → {distance : ℤ} → jump_distance insn ≡ Some distance → (edges : Edges) (taken : Bool)
      → TakesEdge state edges taken
      → Sound (Follows code segment state insn next) (Ok edges)
      (if taken then effect.jump code state.place distance else effect.continue_with code next Nothing)
  branch_sound continues jumps edges true admits = target_sound edges jumps admits
  branch_sound continues jumps edges false admits = next_sound continues edges Nothing admits

  taken_sound : (insn ≡ Exit → ⊥) → {distance : ℤ} → jump_distance insn ≡ Some distance
      → (abstract : Result Edges Cause) (concrete : Result Bool Cause) → Sound (TakesEdge state) abstract concrete
      → Sound (Follows code segment state insn next) abstract
      (concrete >>= λ taken. if taken then effect.jump code state.place distance else effect.continue_with code next Nothing)
  taken_sound continues jumps (Err cause) concrete sound = tt
  taken_sound continues jumps (Ok edges) (Err cause) sound = absurd sound
  taken_sound continues jumps (Ok edges) (Ok taken) sound = branch_sound continues jumps edges taken sound

-- each step of an instruction
kinds_foresee : (code : List Insn) (segment : SegmentParts) (known : AbstractState) (state : State) (insn : Insn) (next : ℕ)
    → IsExecuted code segment known state insn next → Foresees (kinds known) (effect.values code segment state next) insn
kinds_foresee code segment known state insn next is_insn = record {
  Fits = FitsSigned w32;
  Read = λ register. IsReadOf (register_value state register);
  Values = kind.Admits;
  Numbers = HasNumber;
  Stored = HasValue;
  Pointers = PointsWithin;
  Offsets = IsFrom;
  Changes = Stores segment state;
  Outcomes = Follows code segment state insn next;
  read = read_holds known state is_insn.has;
  any = λ register x v is. is.has.admits;
  number_or = λ cause register x v is. number_or_sound cause x v is.has;
  stored = λ register x v is. is.has;
  stored_immediate = λ immediate fits. record {
    proper = immediate_operand-proper immediate fits;
    admits =
        immediate_operand-admits immediate;
  };
  pointer_in = pointers_sound known state is_insn.has;
  immediate = λ immediate fits. immediate_operand-admits immediate;
  wide = λ immediate next fits. wide_number-admits immediate next;
  extend = λ extension x n has. extend-admits extension x n has.proper has.admits;
  negate = λ width x n has. negate-admits width x n has.proper has.admits;
  byte_swap = λ order width x n has. byte_swap-admits order width x n has.proper has.admits;
  move = move_sound;
  operate = operate_sound;
  load = λ format p q offset points. load_from_sound is_insn.is_segment is_insn.has format p q offset points;
  frame = λ p q offset points. from_sound p.area p.offsets q offset points.into points.admits;
  store_at = λ x from offset size k held is stored. store_at_sound segment is_insn.has size is k held stored;
  call = λ helper. call_sound segment known state is_insn.is_segment is_insn.has (Some helper);
  set = set_sound is_insn;
  continue_with = λ continues foreseen change admits. next_sound is_insn continues _ change admits;
  jump = λ distance jumps. target_sound is_insn _ jumps is_insn.has.admits;
  with_immediate = λ jump immediate may fits left.
      taken_sound is_insn may.continues may.leads _ _
      (with_immediate is_insn.has jump.condition jump.width jump.left immediate left.first left.second left.is);
  with_register = λ jump right may left compared.
      taken_sound is_insn may.continues may.leads _ _
      (with_register is_insn.has jump.condition jump.width jump.left right left.first compared.first left.second compared.second left.is
      compared.is);
  end = λ x n among. tt;
}

-- each row of the instruction table
pub instruction_sound : (code : List Insn) (segment : SegmentParts) (known : AbstractState) (state : State) (insn : Insn) (next : ℕ)
    → IsExecuted code segment known state insn next → Sound (Follows code segment state insn next) (walk (kinds known) insn)
    (effect.instruction_effect code segment state next insn)
unfolding kinds_foresee
instruction_sound code segment known state insn next is_insn =
    walk_foreseen (kinds known) (effect.values code segment state next) insn
    (kinds_foresee code segment known state insn next is_insn) is_insn.fits
