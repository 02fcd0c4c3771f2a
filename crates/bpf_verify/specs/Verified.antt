-- Verified codes, and the areas that their loads and stores reach.
use Rattle.std.specs.Prelude.{◌≡◌, ℕ, List, length, get_or, Option, Some, None}
use Rattle.bpf_insn.specs.Code.{index_at, instruction_at}
use Rattle.bpf_insn.specs.declared.instruction.Insn.{Insn}
use Rattle.bpf_insn.specs.declared.instruction.Insn.TheVariants.{Load, StoreImmediate, Store}
use Rattle.bpf_insn.specs.declared.value.Area.{Area}
use Rattle.bpf_insn.specs.declared.value.Pointer.{Pointer as PointerParts}
use Rattle.bpf_insn.specs.declared.value.Value.{Value}
use Rattle.bpf_insn.specs.declared.value.Value.TheVariants.{Pointer}
use Rattle.tl_segments.specs.Segment as segments
use Rattle.tl_segments.specs.Segment.{IsSegment}
use Rattle.bpf_flat_insn.specs.Flat.{AreFlatForms}
use Rattle.bpf_flat_insn.specs.declared.flat.FlatInsn.{FlatInsn}
use Rattle.bpf_meaning.specs.Run.{IsRun, IsSafe, end_of}
use Rattle.bpf_meaning.specs.State.{register_value}
use Rattle.bpf_meaning.specs.Step.{Configuration, Running}
use Rattle.bpf_meaning.specs.declared.state.State.{State}

-- the contents of a Verified: its instructions, and the area of each one's base
pub record Contents : Type 0 where
  pub code : List Insn
  pub areas : List (Option Area)

-- the base register of a load or a store, from which its offset counts
abbrev pub base_of : Insn → Option ℕ
base_of (Load format destination base offset) = Some base.number
base_of (StoreImmediate size base offset immediate) = Some base.number
base_of (Store size base offset source) = Some base.number
base_of insn = None

-- a value is a pointer, and it points into this area
pub record IsPointerInto (held : Value) (area : Option Area) : Type 0 where
  pub pointer : PointerParts
  pub is : held ≡ Pointer pointer
  pub into : area ≡ Some pointer.area

-- each instruction has an area, if any; and in every run on any segment, when the run reaches a load or a store, its base points into the area of
-- that instruction
pub record HasBaseAreas (code : List Insn) (areas : List (Option Area)) : Type 0 where
  pub count : length areas ≡ length code
  pub bases : (segment : segments.SegmentParts) → IsSegment segment → (run : List Configuration) → IsRun code segment run → (state : State) → end_of run ≡ Running state
      → (index : ℕ) (insn : Insn) (base : ℕ) → index_at code state.place ≡ Some index → instruction_at code state.place ≡ Some insn → base_of insn ≡ Some base
      → IsPointerInto (register_value state base) (get_or areas index None)

-- the flat forms of a code that is safe to run, with the areas of its bases
pub record AreVerified (code : List Insn) (areas : List (Option Area)) (flats : List FlatInsn) : Type 0 where
  pub safe : IsSafe code
  pub bases : HasBaseAreas code areas
  pub forms : AreFlatForms code areas (length code) flats
