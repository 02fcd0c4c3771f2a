-- One domain foresees another: if each step of an instruction over the first is sound for that over the second, so is the whole walk. Only this
-- module goes through the checks of each instruction.
use Rattle.std.proofs.Common.{◌≡◌, ℕ, ℤ, Option, Some, None, Result, refl}
use Rattle.std.specs.Int.{cast_unsigned, w32}
use Rattle.bpf_insn.specs.Jump.{jump_distance, words}
use Rattle.bpf_insn.specs.declared.instruction.Insn.{Insn}
use Rattle.bpf_insn.specs.declared.instruction.Insn.TheVariants.{Alu, MoveSignExtended, Negate, ByteSwap, JumpIf, Jump, Call, Exit, Load}
use Rattle.bpf_insn.specs.declared.instruction.Insn.TheVariants.{StoreImmediate, Store, WideLoad}
use Rattle.bpf_insn.specs.declared.instruction.Operation.{Operation}
use Rattle.bpf_insn.specs.declared.instruction.Operation.TheVariants.{Move}
use Rattle.bpf_insn.specs.declared.instruction.Width.{Width}
use Rattle.bpf_insn.specs.declared.instruction.Source.{Source}
use Rattle.bpf_insn.specs.declared.instruction.Source.TheVariants.{Immediate, Register}
use Rattle.bpf_insn.specs.declared.instruction.SignExtension.{SignExtension}
use Rattle.bpf_insn.specs.declared.instruction.ByteOrder.{ByteOrder}
use Rattle.bpf_insn.specs.declared.instruction.SwapWidth.{SwapWidth}
use Rattle.bpf_insn.specs.declared.instruction.LoadFormat.{LoadFormat}
use Rattle.bpf_insn.specs.declared.instruction.StoreSize.{StoreSize}
use Rattle.bpf_insn.specs.declared.register.Register.{Register as RegisterParts}
use Rattle.bpf_insn.specs.declared.register.WritableRegister.{WritableRegister}
use Rattle.bpf_helpers.specs.Helper.{by_number}
use Rattle.bpf_helpers.specs.declared.helper.Helper.{Helper}
use Rattle.bpf_meaning.specs.Checks.{◌>>=◌, Sound}
use Rattle.bpf_meaning.specs.declared.cause.Cause.{Cause}
use Rattle.bpf_meaning.proofs.CheckLemmas.{then_sound, weaker}
use Rattle.bpf_meaning.specs.Walk.{Domain, ConditionalJump, number_in, operand, operation_value, compare, load_value, store, call, walk}

-- the program doesn't end here
abbrev pub IsNotExit : Insn → Type 0
IsNotExit insn = insn ≡ Exit → ⊥

-- the immediates of an instruction that become operands fit
abbrev pub SourceFits : (ℤ → Type 0) → Source → Type 0
SourceFits Fits (Immediate immediate) = Fits immediate
SourceFits Fits (Register register) = Unit {0}

abbrev pub InsnFits : (ℤ → Type 0) → Insn → Type 0
InsnFits Fits (Alu operation width destination source) = SourceFits Fits source
InsnFits Fits (JumpIf condition width left right distance) = SourceFits Fits right
InsnFits Fits (StoreImmediate size base offset immediate) = Fits immediate
InsnFits Fits (WideLoad destination immediate next) = Fits immediate × Fits next
InsnFits Fits insn = Unit {0}

-- an instruction goes on at the next one, or jumps by the distance of a conditional jump
pub record MayJump (insn : Insn) (jump : ConditionalJump) : Type 0 where
  pub continues : IsNotExit insn
  pub leads : jump_distance insn ≡ Some jump.distance

-- a conditional jump with another operand on the right
abbrev pub against : ConditionalJump → Source → ConditionalJump
against jump right = record jump { right = right }

-- what is read from a register in two domains
pub record IsRead {X Y : Type 0} (Read : ℕ → X → Y → Type 0) (register : ℕ) : Type 0 where
  pub first : X
  pub second : Y
  pub is : Read register first second

-- A domain foresees another one at an instruction: their parts are related, and each step of the instruction preserves that.
pub record Foresees (A B : Domain) (insn : Insn) : Type 1 where
  -- immediates that fit; what is read from a register, which is a stronger relation than that of any values; and what is stored, which is read from
  -- a register or an immediate
  pub Fits : ℤ → Type 0
  pub Read : ℕ → A.Value → B.Value → Type 0
  pub Values : A.Value → B.Value → Type 0
  pub Stored : A.Value → B.Value → Type 0
  pub Numbers : A.Number → B.Number → Type 0
  pub Pointers : A.Pointer → B.Pointer → Type 0
  pub Offsets : ℤ → A.Offset → B.Offset → Type 0
  pub Changes : A.Change → B.Change → Type 0
  pub Outcomes : A.Outcome → B.Outcome → Type 0
  -- values
  pub read : (register : ℕ) → Sound (Read register) (A.read register) (B.read register)
  pub any : (register : ℕ) (x : A.Value) (v : B.Value) → Read register x v → Values x v
  pub number_or : (cause : Cause) (register : ℕ) (x : A.Value) (v : B.Value) → Read register x v
      → Sound Numbers (A.number_or cause x) (B.number_or cause v)
  pub stored : (register : ℕ) (x : A.Value) (v : B.Value) → Read register x v → Stored x v
  pub stored_immediate : (immediate : ℤ) → Fits immediate → Stored (A.immediate immediate) (B.immediate immediate)
  pub pointer_in : (register : ℕ) → Sound Pointers (A.pointer_in register) (B.pointer_in register)
  pub immediate : (immediate : ℤ) → Fits immediate → Values (A.immediate immediate) (B.immediate immediate)
  -- arithmetic
  pub wide : (immediate next : ℤ) → Fits immediate × Fits next
      → Values (A.number (A.wide immediate next)) (B.number (B.wide immediate next))
  pub extend : (extension : SignExtension) (x : A.Number) (n : B.Number) → Numbers x n
      → Values (A.number (A.extend extension x)) (B.number (B.extend extension n))
  pub negate : (width : Width) (x : A.Number) (n : B.Number) → Numbers x n
      → Values (A.number (A.negate width x)) (B.number (B.negate width n))
  pub byte_swap : (order : ByteOrder) (width : SwapWidth) (x : A.Number) (n : B.Number) → Numbers x n
      → Values (A.number (A.byte_swap order width x)) (B.number (B.byte_swap order width n))
  pub move : (width : Width) (x : A.Value) (v : B.Value) → Values x v → Sound Values (A.move width x) (B.move width v)
  pub operate : (operation : Operation) (width : Width) (x y : A.Value) (v w : B.Value) → Values x v → Values y w
      → Sound Values (A.operate operation width x y) (B.operate operation width v w)
  -- memory and calls
  pub load : (format : LoadFormat) (p : A.Pointer) (q : B.Pointer) (offset : ℤ) → Pointers p q
      → Sound Values (A.load format p offset) (B.load format q offset)
  pub frame : (p : A.Pointer) (q : B.Pointer) (offset : ℤ) → Pointers p q → Sound (Offsets offset) (A.frame p offset) (B.frame q offset)
  pub store_at : (x : A.Offset) (from : B.Offset) (offset : ℤ) (size : StoreSize) (v : A.Value) (w : B.Value) → Offsets offset x from
      → Stored v w → Sound Changes (A.store_at x offset size v) (B.store_at from offset size w)
  pub call : (helper : Helper) → Sound Changes (A.call helper) (B.call helper)
  -- what comes next
  pub set : IsNotExit insn → (destination : WritableRegister) (x : A.Value) (v : B.Value) → Values x v
      → Sound Outcomes (A.set destination x) (B.set destination v)
  pub continue_with : IsNotExit insn → (foreseen : A.Change) (change : B.Change) → Changes foreseen change
      → Sound Outcomes (A.continue_with foreseen) (B.continue_with change)
  pub jump : (distance : ℤ) → jump_distance insn ≡ Some distance → Sound Outcomes (A.jump distance) (B.jump distance)
  pub with_immediate : (jump : ConditionalJump) (immediate : ℤ) → MayJump insn jump → Fits immediate
      → (left : IsRead Read jump.left.number)
      → Sound Outcomes (A.branch (against jump (Immediate immediate)) left.first (A.compared jump.width immediate))
      (B.branch (against jump (Immediate immediate)) left.second (B.compared jump.width immediate))
  pub with_register : (jump : ConditionalJump) (right : RegisterParts) → MayJump insn jump → (left : IsRead Read jump.left.number)
      (compared : IsRead Read right.number)
      → Sound Outcomes (A.branch (against jump (Register right)) left.first compared.first)
      (B.branch (against jump (Register right)) left.second compared.second)
  pub end : (x : A.Number) (n : B.Number) → Numbers x n → Sound Outcomes (A.end x) (B.end n)

module _ (A B : Domain) (insn : Insn) (f : Foresees A B insn) where
  values_read : (register : ℕ) → Sound f.Values (A.read register) (B.read register)
  values_read register = weaker (f.Read register) f.Values _ _ (f.any register) (f.read register)

  operand_foreseen : (source : Source) → SourceFits f.Fits source → Sound f.Values (operand A.registers source) (operand B.registers source)
  operand_foreseen (Immediate immediate) fits = f.immediate immediate fits
  operand_foreseen (Register register) fits = values_read register.number

  stored_foreseen : (source : Source) → SourceFits f.Fits source → Sound f.Stored (operand A.registers source) (operand B.registers source)
  stored_foreseen (Immediate immediate) fits = f.stored_immediate immediate fits
  stored_foreseen (Register register) fits = weaker (f.Read register.number) f.Stored _ _ (f.stored register.number)
      (f.read register.number)

  operation_foreseen : (operation : Operation) (width : Width) (destination : ℕ) (source : Source) → SourceFits f.Fits source
      → Sound f.Values (operation_value A.registers operation width destination source)
      (operation_value B.registers operation width destination source)
  operation_foreseen Move width destination source fits = then_sound f.Values f.Values _ _ _ _ (operand_foreseen source fits) (f.move width)
  operation_foreseen operation width destination source fits =
      then_sound f.Values f.Values _ _ _ _ (values_read destination) (λ x v left.
      then_sound f.Values f.Values _ _ _ _ (operand_foreseen source fits) (λ y w right. f.operate operation width x y v w left right))

  value_written : IsNotExit insn → (destination : WritableRegister) (a : Result A.Value Cause) (b : Result B.Value Cause) → Sound f.Values a b
      → Sound f.Outcomes (a >>= A.set destination) (b >>= B.set destination)
  value_written continues destination a b sound = then_sound f.Values f.Outcomes _ _ _ _ sound (f.set continues destination)

  number_written : IsNotExit insn → (register : ℕ) (destination : WritableRegister) (g : A.Number → A.Number) (h : B.Number → B.Number)
      → ((x : A.Number) (n : B.Number) → f.Numbers x n → f.Values (A.number (g x)) (B.number (h n)))
      → Sound f.Outcomes (number_in A.registers register >>= λ x. A.set destination (A.number (g x)))
      (number_in B.registers register >>= λ x. B.set destination (B.number (h x)))
  number_written continues register destination g h all =
      then_sound f.Numbers f.Outcomes _ _ _ _ (then_sound (f.Read register) f.Numbers _ _ _ _ (f.read register) (f.number_or _ register))
      (λ x n numbers. f.set continues destination _ _ (all x n numbers))

  compare_foreseen : (jump : ConditionalJump) (right : Source) → MayJump insn jump → SourceFits f.Fits right
      → Sound f.Outcomes (compare A (against jump right)) (compare B (against jump right))
  compare_foreseen jump (Immediate immediate) may fits =
      then_sound (f.Read jump.left.number) f.Outcomes _ _ _ _ (f.read jump.left.number)
      (λ x v is. f.with_immediate jump immediate may fits (record { first = x; second = v; is = is }))
  compare_foreseen jump (Register right) may fits =
      then_sound (f.Read jump.left.number) f.Outcomes _ _ _ _ (f.read jump.left.number) (λ x v is.
      then_sound (f.Read right.number) f.Outcomes _ _ _ _ (f.read right.number) (λ y w is_right.
      f.with_register jump right may (record { first = x; second = v; is = is }) (record { first = y; second = w; is = is_right })))

  load_foreseen : (format : LoadFormat) (base : ℕ) (offset : ℤ)
      → Sound f.Values (load_value A format base offset) (load_value B format base offset)
  load_foreseen format base offset = then_sound f.Pointers f.Values _ _ _ _ (f.pointer_in base)
      (λ p q points. f.load format p q offset points)

  store_foreseen : (size : StoreSize) (base : ℕ) (offset : ℤ) (source : Source) → SourceFits f.Fits source
      → Sound f.Changes (store A size base offset source) (store B size base offset source)
  store_foreseen size base offset source fits =
      then_sound f.Pointers f.Changes _ _ _ _ (f.pointer_in base) (λ p q points.
      then_sound (f.Offsets offset) f.Changes _ _ _ _ (f.frame p q offset points) (λ x from is.
      then_sound f.Stored f.Changes _ _ _ _ (stored_foreseen source fits) (λ v w stored. f.store_at x from offset size v w is stored)))

  call_foreseen : (found : Option Helper) → Sound f.Changes (call A found) (call B found)
  call_foreseen None = tt
  call_foreseen (Some helper) = f.call helper

  change_made : IsNotExit insn → (a : Result A.Change Cause) (b : Result B.Change Cause) → Sound f.Changes a b
      → Sound f.Outcomes (a >>= A.continue_with) (b >>= B.continue_with)
  change_made continues a b sound = then_sound f.Changes f.Outcomes _ _ _ _ sound (f.continue_with continues)

-- if one domain foresees another, the walk over it is sound for the walk over the other: each row of the instruction table
pub walk_foreseen : (A B : Domain) (insn : Insn) (f : Foresees A B insn) → InsnFits f.Fits insn
    → Sound f.Outcomes (walk A insn) (walk B insn)
walk_foreseen A B (Alu operation width destination source) f fits =
    value_written A B _ f (λ e. cc) destination _ _ (operation_foreseen A B _ f operation width destination.number source fits)
walk_foreseen A B (MoveSignExtended extension destination source) f fits =
    number_written A B _ f (λ e. cc) source.number destination _ _ (f.extend extension)
walk_foreseen A B (Negate width destination) f fits = number_written A B _ f (λ e. cc) destination.number destination _ _ (f.negate width)
walk_foreseen A B (ByteSwap order width destination) f fits =
    number_written A B _ f (λ e. cc) destination.number destination _ _ (f.byte_swap order width)
walk_foreseen A B (JumpIf condition width left right distance) f fits =
    compare_foreseen A B _ f (record { condition = condition; width = width; left = left; right = right; distance = distance }) right
    (record { continues = λ e. cc; leads = refl }) fits
walk_foreseen A B (Jump distance) f fits = f.jump (words distance) refl
walk_foreseen A B (Call immediate) f fits = change_made A B _ f (λ e. cc) _ _
    (call_foreseen A B _ f (by_number (cast_unsigned w32 immediate)))
walk_foreseen A B Exit f fits = then_sound f.Numbers f.Outcomes _ _ _ _
    (then_sound (f.Read 0) f.Numbers _ _ _ _ (f.read 0) (f.number_or _ 0)) f.end
walk_foreseen A B (Load format destination base offset) f fits =
    value_written A B _ f (λ e. cc) destination _ _ (load_foreseen A B _ f format base.number offset)
walk_foreseen A B (StoreImmediate size base offset immediate) f fits =
    change_made A B _ f (λ e. cc) _ _ (store_foreseen A B _ f size base.number offset (Immediate immediate) fits)
walk_foreseen A B (Store size base offset source) f fits = change_made A B _ f (λ e. cc) _ _
    (store_foreseen A B _ f size base.number offset (Register source) tt)
walk_foreseen A B (WideLoad destination immediate next) f fits = f.set (λ e. cc) destination _ _ (f.wide immediate next fits)

-- all immediates fit
pub any_fits : (insn : Insn) → InsnFits (λ immediate. Unit {0}) insn
any_fits (Alu operation width destination (Immediate immediate)) = tt
any_fits (JumpIf condition width left (Immediate immediate) offset) = tt
any_fits (WideLoad destination immediate next) = (tt, tt)
any_fits insn = tt
