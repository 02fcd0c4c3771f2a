-- The operands of an instruction in program text.
use Rattle.std.specs.Prelude.{◌≡◌, ℕ, ℤ, pos, ◌-◌, Bool, true, false, ◌&&◌, ◌==◌, nat_le, if◌then◌else◌, List, [], length, drop, slice_index, slice_range}
use Rattle.std.specs.Prelude.{slice_index_or, map, Option, Some, None, Result, Ok, Err, refl}
use Rattle.std.specs.List.{before_first, position, position_or_len}
use Rattle.std.specs.Str.{bytes_eq}
use Rattle.std.proofs.lemmas.Bool.{leb-true}
use Rattle.bpf_insn.specs.declared.register.Register.{Register}
use Rattle.bpf_insn.specs.declared.register.WritableRegister.{WritableRegister}
use Rattle.bpf_insn.specs.declared.instruction.Source.{Source}
use Rattle.bpf_insn.specs.declared.instruction.Source.TheVariants as source
use Rattle.bpf_assembler.specs.declared.fault.TextFaultKind.{TextFaultKind}
use Rattle.bpf_assembler.specs.declared.fault.TextFaultKind.TheVariants.{Syntax, NumberRange, WritesFramePointer}
use Rattle.bpf_assembler.specs.declared.operand.TheConstants.{REGISTER_NAMES}
use Rattle.bpf_assembler.specs.Words.{is_sign, is_label}
use Rattle.bpf_assembler.specs.Number.{and_then, signed_in, immediate_in, limit_of_16_bits}

-- two operands: a syntax fault in either one takes precedence over a number out of range
abbrev pub form_first : TextFaultKind → TextFaultKind → TextFaultKind
form_first NumberRange other = other
form_first fault other = fault

abbrev pub both : {A B : Type 0} → Result A TextFaultKind → Result B TextFaultKind → Result (A × B) TextFaultKind
both (Ok left) (Ok right) = Ok (left, right)
both (Ok left) (Err fault) = Err fault
both (Err fault) (Ok right) = Err fault
both (Err fault) (Err other) = Err (form_first fault other)

-- the registers' names, by number (RFC 9669, section 3.1)
abbrev pub register_names : List (List ℕ)
register_names = map (λ name. name.now) REGISTER_NAMES

abbrev pub register_name : ℕ → List ℕ
register_name number = slice_index_or register_names number []

abbrev pub register_number : List ℕ → Option ℕ
register_number word = position (λ name. bytes_eq name.now word) REGISTER_NAMES

-- the register with a number, if there is one, and the writable register
abbrev pub register_if : (number : ℕ) (test : Bool) → nat_le number 10 ≡ test → Option Register
register_if number true within = Some (record { number = number; in_range = leb-true number 10 within })
register_if number false beyond = None

abbrev pub register_at : ℕ → Option Register
register_at number = register_if number (nat_le number 10) refl

abbrev pub writable_if : (number : ℕ) (test : Bool) → nat_le number 9 ≡ test → Option WritableRegister
writable_if number true within = Some (record { number = number; in_range = leb-true number 9 within })
writable_if number false beyond = None

abbrev pub writable_at : ℕ → Option WritableRegister
writable_at number = writable_if number (nat_le number 9) refl

-- the next step's result if there is a value
abbrev pub option_and_then : {A B : Type 0} → (A → Option B) → Option A → Option B
option_and_then next (Some value) = next value
option_and_then next None = None

-- a value, or this fault if there is none
abbrev pub or_fault : {A : Type 0} → TextFaultKind → Option A → Result A TextFaultKind
or_fault fault (Some value) = Ok value
or_fault fault None = Err fault

abbrev pub register_named : List ℕ → Option Register
register_named word = option_and_then register_at (register_number word)

abbrev pub register_in : List ℕ → Result Register TextFaultKind
register_in word = or_fault Syntax (register_named word)

-- a register that an instruction writes
abbrev pub destination_of : Register → Result WritableRegister TextFaultKind
destination_of register = or_fault WritesFramePointer (writable_at register.number)

-- a register, or else an immediate
abbrev pub source_with : Option Register → List ℕ → Result Source TextFaultKind
source_with (Some register) word = Ok (source.Register register)
source_with None word = and_then (immediate_in word) (λ value. Ok (source.Immediate value))

abbrev pub source_in : List ℕ → Result Source TextFaultKind
source_in word = source_with (register_named word) word

-- `[rB]`, `[rB+N]` and `[rB-N]`: a base register and an offset
abbrev pub offset_in : List ℕ → Result ℤ TextFaultKind
offset_in text = if length text == 0 then Ok (pos 0) else signed_in limit_of_16_bits text

abbrev pub address_in : List ℕ → Result (Register × ℤ) TextFaultKind
address_in text = both (register_in (before_first is_sign text)) (offset_in (drop (position_or_len is_sign text) text))

-- an operand in brackets
abbrev pub is_bracketed : List ℕ → Bool
is_bracketed word = nat_le 2 (length word) && slice_index word 0 == 91 && slice_index word (length word - 1) == 93

abbrev pub memory_in : List ℕ → Result (Register × ℤ) TextFaultKind
memory_in word = if is_bracketed word then address_in (slice_range word 1 (length word - 1)) else Err Syntax

-- a jump's target: a distance, or a label, with distance 0 until the label is resolved
abbrev pub target_in : ℕ → List ℕ → Result (ℤ × Option (List ℕ)) TextFaultKind
target_in limit word = if is_label word then Ok (pos 0, Some word) else and_then (signed_in limit word) (λ distance. Ok (distance, None))
