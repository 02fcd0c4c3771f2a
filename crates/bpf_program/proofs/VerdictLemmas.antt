-- A program has one verdict, unless memory runs out.
use Rattle.std.proofs.Common.{◌≡◌, ◌≢◌, ℕ, List, Result, Ok, Err, IfErr, refl, sym, ap, ◌∙◌, subst}
use Rattle.bpf_flow.proofs.FlowLemmas.{has_no_fault, one_fault_lem}
use Rattle.bpf_flow.specs.Flow.{IsForward}
use Rattle.bpf_insn.proofs.CodeLemmas as code_of
use Rattle.bpf_insn.specs.Code.{IsCodeOf}
use Rattle.bpf_insn.specs.declared.instruction.Insn.{Insn}
use Rattle.bpf_verify.proofs.VerdictLemmas as verdict
use Rattle.bpf_verify.specs.Annotation.{HasGoodAnnotation}
use Rattle.bpf_program.specs.Program.{IsSafeProgram, IsProgramFault, IsFaultOfCode}
use Rattle.bpf_program.specs.declared.program.ProgramFault.{ProgramFault}
use Rattle.bpf_program.specs.declared.program.ProgramFault.TheVariants.{Code, Flow, Verify, Memory}

pub same_code : (program : List ℕ) (a b : List Insn) → IsCodeOf program a → IsCodeOf program b → a ≡ b
same_code program a b is also = code_of.one_code a b (sym is.words ∙ also.words)

module _ (code : List Insn) (forward : IsForward code) (accepted : HasGoodAnnotation code) where
  -- accepted code has no fault
  no_fault_of_code : (fault : ProgramFault) → IsFaultOfCode code fault → fault ≡ Memory
  no_fault_of_code (Code fault) is = absurd is
  no_fault_of_code (Flow fault) is = absurd (has_no_fault code fault forward is)
  no_fault_of_code (Verify fault) is = absurd (is.2 (verdict.refused_for_memory code fault is.1 accepted))
  no_fault_of_code Memory is = refl

  -- nor does a program with such code
  pub no_fault_of_program : (program : List ℕ) (fault : ProgramFault) → IsCodeOf program code → IsProgramFault program fault → fault ≡ Memory
  no_fault_of_program program (Code fault) is_code is = absurd (is.1 (code_of.memory_alone program code fault is_code is.0))
  no_fault_of_program program Memory is_code is = refl
  no_fault_of_program program fault is_code is =
      no_fault_of_code fault (subst (λ (c : List Insn). IsFaultOfCode c fault) (same_code program is.0 code is.1 is_code) is.2)

pub no_fault : (program : List ℕ) (code : List Insn) (fault : ProgramFault) → IsSafeProgram program code → IsProgramFault program fault
    → fault ≡ Memory
no_fault program code fault safe is =
    no_fault_of_program code safe.safe_code.forward safe.safe_code.accepted program fault safe.is_code is

one_fault_of_code : (code : List Insn) (a b : ProgramFault) → IsFaultOfCode code a → IsFaultOfCode code b → a ≢ Memory → b ≢ Memory → a ≡ b
one_fault_of_code code (Flow a) (Flow b) is also first second = ap Flow (one_fault_lem code a b is also)
one_fault_of_code code (Flow a) (Verify b) is also first second = absurd (has_no_fault code a also.0 is)
one_fault_of_code code (Verify a) (Flow b) is also first second = absurd (has_no_fault code b is.0 also)
one_fault_of_code code (Verify a) (Verify b) is also first second = ap Verify (verdict.one_fault code a b is.1 also.1 is.2 also.2)
one_fault_of_code code (Code a) b is also first second = absurd is
one_fault_of_code code a (Code b) is also first second = absurd also
one_fault_of_code code Memory b is also first second = absurd (first refl)
one_fault_of_code code a Memory is also first second = absurd (second refl)

pub one_fault : (program : List ℕ) (a b : ProgramFault) → IsProgramFault program a → IsProgramFault program b → a ≢ Memory → b ≢ Memory
    → a ≡ b
one_fault program Memory b is also first second = absurd (first refl)
one_fault program a Memory is also first second = absurd (second refl)
one_fault program (Code a) (Code b) is also first second = ap Code (code_of.one_fault program a b is.0 also.0 is.1 also.1)
one_fault program (Code a) b is also first second = absurd (is.1 (code_of.memory_alone program also.0 a also.1 is.0))
one_fault program a (Code b) is also first second = absurd (also.1 (code_of.memory_alone program is.0 b is.1 also.0))
one_fault program a b is also first second = one_fault_of_code also.0 a b
    (subst (λ (c : List Insn). IsFaultOfCode c a) (same_code program is.0 also.0 is.1 also.1) is.2) also.2 first second

-- a fault of a program's code is a fault of the program
program_fault : (program : List ℕ) (code : List Insn) (fault : ProgramFault) → IsCodeOf program code → IsFaultOfCode code fault
    → IsProgramFault program fault
program_fault program code (Code fault) is of = absurd of
program_fault program code Memory is of = tt
program_fault program code fault is of = (code, is, of)

module _ {V : Type 0} (program : List ℕ) (code : List Insn) where
  pub refused_by_code : (result : Result V ProgramFault) → IsCodeOf program code → IfErr result (IsFaultOfCode code)
      → IfErr result (IsProgramFault program)
  refused_by_code (Ok accepted) is of = tt
  refused_by_code (Err fault) is of = program_fault program code fault is of

  pub refused_for_memory : (result : Result V ProgramFault) → IsSafeProgram program code → IfErr result (IsProgramFault program)
      → IfErr result (λ fault. fault ≡ Memory)
  refused_for_memory (Ok accepted) safe is = tt
  refused_for_memory (Err fault) safe is = no_fault program code fault safe is
