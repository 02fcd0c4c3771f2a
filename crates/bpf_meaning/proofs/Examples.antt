-- Runs, answers and extracts, by their definitions, of a program worked by hand: `mov r0, 1 | exit`.
use Rattle.std.proofs.Common.{ℕ, pos, [], ◌∷◌, ◌++◌, refl, sym, append-nil, lit≤}
use Rattle.bpf_insn.specs.declared.instruction.Insn.{Insn}
use Rattle.bpf_insn.specs.declared.instruction.Insn.TheVariants.{Alu, Exit}
use Rattle.bpf_insn.specs.declared.instruction.Operation.TheVariants.{Move}
use Rattle.bpf_insn.specs.declared.instruction.Width.TheVariants.{Bits64}
use Rattle.bpf_insn.specs.declared.instruction.Source.TheVariants.{Immediate}
use Rattle.bpf_insn.specs.declared.value.Value.TheVariants.{Number}
use Rattle.tl_segments.specs.Segment.{SegmentParts}
use Rattle.bpf_meaning.specs.State.{start}
use Rattle.bpf_meaning.specs.Step.{Running, Exited, Stuck, carry_out, after}
use Rattle.bpf_meaning.specs.declared.effect.Change.TheVariants.{SetRegister}
use Rattle.bpf_insn.specs.declared.register.WritableRegister.{WritableRegister}
use Rattle.bpf_meaning.specs.Run.{Answers, IsRun}
use Rattle.bpf_meaning.specs.Extract.{IsExtract, row_of}
use Rattle.bpf_meaning.specs.declared.cause.Cause.TheVariants.{OutOfProgram, ReadsNothing}

abbrev r0 : WritableRegister
r0 = record { number = 0; in_range = lit≤ tt }

abbrev move : ℕ → Insn
move n = Alu Move Bits64 r0 (Immediate (pos n))

-- it answers 1 with score 0 on every segment
one_answers : (segment : SegmentParts) → Answers (move 1 ∷ Exit ∷ []) segment 1 0
unfolding after
one_answers segment = record {
  run = Running (record (carry_out segment start (SetRegister r0 (Number 1))) { place = 1 }) ∷ Exited 1 0 ∷ [];
  is_run = (refl, (refl, tt));
  exits = refl;
}

-- so its extract of two segments consists of both rows, in order
two_rows : (first second : SegmentParts) → IsExtract (move 1 ∷ Exit ∷ []) (first ∷ second ∷ []) (row_of 0 first ++ row_of 0 second) 2
two_rows first second = (
  1,
  0,
  row_of 0 second,
  1,
  one_answers first,
  refl,
  refl,
  (1, 0, [], 0, one_answers second, sym (append-nil (row_of 0 second)), refl, (refl, refl)),
)

-- with 0 in place of 1, no segment is selected
zero_answers : (segment : SegmentParts) → Answers (move 0 ∷ Exit ∷ []) segment 0 0
unfolding after
zero_answers segment = record {
  run = Running (record (carry_out segment start (SetRegister r0 (Number 0))) { place = 1 }) ∷ Exited 0 0 ∷ [];
  is_run = (refl, (refl, tt));
  exits = refl;
}

no_row : (segment : SegmentParts) → IsExtract (move 0 ∷ Exit ∷ []) (segment ∷ []) [] 0
no_row segment = (0, 0, [], 0, zero_answers segment, refl, refl, (refl, refl))

-- without its end, it is stuck where it leaves the code
leaves_code : (segment : SegmentParts) → IsRun (move 1 ∷ []) segment (Stuck 0 OutOfProgram ∷ [])
unfolding after
leaves_code segment = (refl, tt)

-- an end alone reads a register that holds nothing
exit_alone : (segment : SegmentParts) → IsRun (Exit ∷ []) segment (Stuck 0 (ReadsNothing 0) ∷ [])
unfolding after
exit_alone segment = (refl, tt)
