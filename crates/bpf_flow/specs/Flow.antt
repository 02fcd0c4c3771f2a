-- Codes whose jumps all go forward, and the first fault of any other code. RFC 9669, section 4.3, defines where a jump leads. That it must go
-- forward, and that a program ends in EXIT, is this project's own rule.
use Rattle.std.specs.Prelude.{◌≡◌, ◌≢◌, ℕ, ◌+◌, ◌<◌, ℤ, pos, ◌+ℤ◌, ◌<ℤ◌, ◌≤ℤ◌, List, [], ◌∷◌, ◌++◌, Some, IsSome}
use Rattle.bpf_insn.specs.Code.{instruction_at, word_count}
use Rattle.bpf_insn.specs.Jump.{jump_distance}
use Rattle.bpf_insn.specs.declared.instruction.Insn.{Insn}
use Rattle.bpf_insn.specs.declared.instruction.Insn.TheVariants.{Exit, WideLoad}
use Rattle.bpf_insn.specs.declared.register.WritableRegister.{WritableRegister}
use Rattle.bpf_flow.specs.declared.fault.FlowFault.{FlowFault}
use Rattle.bpf_flow.specs.declared.fault.FlowFault.TheVariants.{BackwardJump, OutOfProgram, IntoWide, LastNotExit}

-- the contents of a Flow
pub record Contents : Type 0 where
  pub code : List Insn

-- where a jump from a place leads: its distance counts words from the word after it (section 4.3)
abbrev pub target_of : ℕ → ℤ → ℤ
target_of place distance = pos (place + 1) +ℤ distance

-- a jump from a place leads on: to a later place, at which an instruction begins
pub record IsForwardJump (code : List Insn) (place : ℕ) (distance : ℤ) : Type 0 where
  pub target : ℕ
  pub is_target : target_of place distance ≡ pos target
  pub later : place < target
  pub begins : IsSome (instruction_at code target)

-- each jump leads on
abbrev pub JumpsAreForward : List Insn → Type 0
JumpsAreForward code =
    (place : ℕ) (insn : Insn) (distance : ℤ)
    → instruction_at code place ≡ Some insn → jump_distance insn ≡ Some distance → IsForwardJump code place distance

-- the last instruction is EXIT
abbrev pub EndsInExit : List Insn → Type 0
EndsInExit code = (before : List Insn) × (code ≡ before ++ Exit ∷ [])

-- each jump goes forward to the beginning of an instruction, and the last instruction is EXIT
pub record IsForward (code : List Insn) : Type 0 where
  pub jumps : JumpsAreForward code
  pub last : EndsInExit code

-- each jump before a place leads on
abbrev pub JumpsAreForwardBefore : List Insn → ℕ → Type 0
JumpsAreForwardBefore code end =
    (place : ℕ) (insn : Insn) (distance : ℤ) → place < end
    → instruction_at code place ≡ Some insn → jump_distance insn ≡ Some distance → IsForwardJump code place distance

-- the instruction at a place is a jump by a distance
pub record JumpsBy (code : List Insn) (place : ℕ) (distance : ℤ) : Type 0 where
  pub insn : Insn
  pub is_insn : instruction_at code place ≡ Some insn
  pub jumps : jump_distance insn ≡ Some distance

-- a place is the second word of a wide load (section 5.4)
pub record IsSecondWord (code : List Insn) (place : ℕ) : Type 0 where
  pub first : ℕ
  pub destination : WritableRegister
  pub immediate : ℤ
  pub next_immediate : ℤ
  pub is_insn : instruction_at code first ≡ Some (WideLoad destination immediate next_immediate)
  pub follows : place ≡ first + 1

-- a jump leads to a later place, the second word of a wide load
pub record LeadsIntoWide (code : List Insn) (place : ℕ) (distance : ℤ) : Type 0 where
  pub target : ℕ
  pub is_target : target_of place distance ≡ pos target
  pub later : place < target
  pub inside : IsSecondWord code target

-- each jump before a place leads on, and the instruction at this place is a jump whose distance has a flaw
pub record IsFirstJump (code : List Insn) (place : ℕ) (Flaw : ℤ → Type 0) : Type 0 where
  pub before : JumpsAreForwardBefore code place
  pub distance : ℤ
  pub jumps : JumpsBy code place distance
  pub flaw : Flaw distance

-- the last instruction, at this place, isn't EXIT
pub record IsLastNotExit (code : List Insn) (place : ℕ) : Type 0 where
  pub before : List Insn
  pub last : Insn
  pub ends : code ≡ before ++ last ∷ []
  pub at : place ≡ word_count before
  pub no_exit : last ≢ Exit

-- The first fault of a code: the jumps are checked in order, and then the last instruction. A jump of distance 0 leads to the next word. One of
-- distance -1 leads to itself, so it goes backwards.
abbrev pub IsFirstFault : List Insn → FlowFault → Type 0
IsFirstFault code (BackwardJump place) = IsFirstJump code place (λ distance. distance <ℤ pos 0)
IsFirstFault code (OutOfProgram place) = IsFirstJump code place (λ distance. pos (word_count code) ≤ℤ target_of place distance)
IsFirstFault code (IntoWide place) = IsFirstJump code place (LeadsIntoWide code place)
IsFirstFault code (LastNotExit place) = JumpsAreForward code × IsLastNotExit code place
