-- Annotations of a code: an abstract state for each place. A code is accepted if it is forward and has an annotation that is good to its end, which
-- is this project's own rule.
use Rattle.std.specs.Prelude.{◌≡◌, ℕ, ℤ, pos, ◌+◌, ◌+ℤ◌, ◌<◌, ◌≤◌, List, [], ◌∷◌, length, Option, Some, None, option_and_then, Ok, Err}
use Rattle.bpf_insn.specs.Code.{instruction_at, spelling, word_count}
use Rattle.bpf_insn.specs.Jump.{jump_distance}
use Rattle.bpf_insn.specs.declared.instruction.Insn.{Insn}
use Rattle.bpf_insn.specs.declared.value.Area.{Area}
use Rattle.bpf_insn.specs.declared.value.Area.TheVariants as area
use Rattle.bpf_kinds.specs.declared.kind.Kind.{Kind}
use Rattle.bpf_kinds.specs.declared.kind.Kind.TheVariants.{Record, Frame}
use Rattle.bpf_meaning.specs.declared.cause.Cause.{Cause}
use Rattle.bpf_verify.specs.Transfer.{transfer}
use Rattle.bpf_verify.specs.LiftedState.{LiftedState, Unreached, Reached, Edges, entry, kind_of, IsProper, IsWithin}
use Rattle.bpf_verify.specs.Verified.{base_of}
use Rattle.bpf_verify.specs.declared.fault.VerifyFault.{VerifyFault}
use Rattle.bpf_verify.specs.declared.fault.VerifyFault.TheVariants.{Refused, Memory}

-- an abstract state for each place
abbrev pub Annotation : Type 0
Annotation = ℕ → LiftedState

-- no check of the instruction at this place fails, and the state on each edge is below the state that the edge leads to
pub record PassesAt (annotation : Annotation) (place : ℕ) (insn : Insn) : Type 0 where
  pub edges : Edges
  pub passes : transfer (annotation place) insn ≡ Ok edges
  pub next : IsWithin edges.next (annotation (place + length (spelling insn)))
  pub target : (distance : ℤ) (to : ℕ) → jump_distance insn ≡ Some distance → pos (place + 1) +ℤ distance ≡ pos to
      → IsWithin edges.target (annotation to)

-- the entry state is below the state at place 0, and each instruction before a place passes its checks
pub record IsGoodUpTo (code : List Insn) (end : ℕ) (annotation : Annotation) : Type 0 where
  pub proper : (place : ℕ) → IsProper (annotation place)
  pub entry : IsWithin (Reached entry) (annotation 0)
  pub passes : (place : ℕ) (insn : Insn) → place < end → instruction_at code place ≡ Some insn → PassesAt annotation place insn

-- an annotation is good to the code's end
abbrev pub IsGood : List Insn → Annotation → Type 0
IsGood code annotation = IsGoodUpTo code (word_count code) annotation

-- a code has an annotation that is good to its end
abbrev pub HasGoodAnnotation : List Insn → Type 0
HasGoodAnnotation code = (annotation : Annotation) × IsGood code annotation

-- the area that pointers of a kind point into
abbrev pub area_of_kind : Kind → Option Area
area_of_kind (Record offsets) = Some area.Record
area_of_kind (Frame offsets) = Some area.Frame
area_of_kind kind = None

-- the area of the base of a load or a store that is reached
abbrev pub area_of : LiftedState → Insn → Option Area
area_of Unreached insn = None
area_of (Reached known) insn = option_and_then (λ base. area_of_kind (kind_of known base)) (base_of insn)

-- the areas of consecutive instructions from a place on, under an annotation
abbrev pub areas_from : Annotation → ℕ → List Insn → List (Option Area)
areas_from annotation place [] = []
areas_from annotation place (insn ∷ code) =
    area_of (annotation place) insn ∷ areas_from annotation (place + length (spelling insn)) code

-- the least annotation that is good up to a place: up to there, each of its states lies within that of every other such annotation
pub record IsLeastUpTo (code : List Insn) (end : ℕ) (annotation : Annotation) : Type 0 where
  pub good : IsGoodUpTo code end annotation
  pub least : (other : Annotation) → IsGoodUpTo code end other → (place : ℕ) → place ≤ end → IsWithin (annotation place) (other place)

-- a code is accepted with these areas: it has an annotation that is good to its end, and they are the areas of the bases under the least one
pub record IsAccepted (code : List Insn) (areas : List (Option Area)) : Type 0 where
  pub annotation : Annotation
  pub is_least : IsLeastUpTo code (word_count code) annotation
  pub are : areas ≡ areas_from annotation 0 code

-- some check of an instruction fails in a state
abbrev pub Fails : LiftedState → Insn → Type 0
Fails state insn = (cause : Cause) × (transfer state insn ≡ Err cause)

-- A code is refused at a place with a cause: under the least annotation that is good up to there, this check of the instruction is the first that
-- fails. Under every other such annotation some check fails there too, so no annotation is good beyond that place.
pub record IsRefusedAt (code : List Insn) (place : ℕ) (cause : Cause) : Type 0 where
  pub annotation : Annotation
  pub is_least : IsLeastUpTo code place annotation
  pub insn : Insn
  pub is_insn : instruction_at code place ≡ Some insn
  pub fails : transfer (annotation place) insn ≡ Err cause
  pub always : (other : Annotation) → IsGoodUpTo code place other → Fails (other place) insn

-- the reason why a code is refused
abbrev pub IsVerifyFault : List Insn → VerifyFault → Type 0
IsVerifyFault code (Refused place cause) = IsRefusedAt code place cause
IsVerifyFault code Memory = Unit {0}
