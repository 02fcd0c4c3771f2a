-- Visits: the instructions of a code, each with the abstract state before it, as the pass shows them.
use Rattle.std.specs.Prelude.{◌≡◌, ℕ, ◌+◌, List, [], ◌∷◌, length, take}
use Rattle.bpf_insn.specs.Code.{spelling, word_count}
use Rattle.bpf_insn.specs.declared.instruction.Insn.{Insn}
use Rattle.bpf_verify.specs.LiftedState.{LiftedState}
use Rattle.bpf_verify.specs.Annotation.{Annotation, IsLeastUpTo}
use Rattle.bpf_verify.specs.declared.fault.VerifyFault.{VerifyFault}
use Rattle.bpf_verify.specs.declared.fault.VerifyFault.TheVariants.{Refused, Memory}

-- an instruction, its place, and the state before it
pub record Visit : Type 0 where
  pub place : ℕ
  pub insn : Insn
  pub state : LiftedState

-- the visit of an instruction at a place, under an annotation
abbrev pub visit_at : Annotation → ℕ → Insn → Visit
visit_at annotation place insn = record { place = place; insn = insn; state = annotation place }

-- the visits of consecutive instructions from a place on, under an annotation
abbrev pub visits_from : Annotation → ℕ → List Insn → List Visit
visits_from annotation place [] = []
visits_from annotation place (insn ∷ code) =
    visit_at annotation place insn ∷ visits_from annotation (place + length (spelling insn)) code

-- a visitor after a sequence of visits
abbrev pub visited_all : {V : Type 0} → (V → Visit → V) → V → List Visit → V
visited_all visited visitor [] = visitor
visited_all visited visitor (visit ∷ visits) = visited_all visited (visited visitor visit) visits

-- a visitor was shown each instruction of a code, with its state under the least annotation that is good to the code's end
pub record IsShown {V : Type 0} (visited : V → Visit → V) (code : List Insn) (old new : V) : Type 0 where
  pub annotation : Annotation
  pub is_least : IsLeastUpTo code (word_count code) annotation
  pub shown : new ≡ visited_all visited old (visits_from annotation 0 code)

-- a visitor was shown each instruction up to and including the one at a place, with its state under the least annotation that is good up to there
pub record IsShownUpTo {V : Type 0} (visited : V → Visit → V) (code : List Insn) (place : ℕ) (old new : V) : Type 0 where
  pub annotation : Annotation
  pub is_least : IsLeastUpTo code place annotation
  pub index : ℕ
  pub at : place ≡ word_count (take index code)
  pub shown : new ≡ visited_all visited old (visits_from annotation 0 (take (index + 1) code))

-- what a visitor was shown of a refused code
abbrev pub IsShownRefusal : {V : Type 0} → (V → Visit → V) → List Insn → VerifyFault → V → V → Type 0
IsShownRefusal visited code (Refused place cause) old new = IsShownUpTo visited code place old new
IsShownRefusal visited code Memory old new = Unit {0}
