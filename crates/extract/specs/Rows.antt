-- Which segments code selects, and the effect of their texts on a writer.
use Rattle.std.specs.Prelude.{◌≡◌, ◌≢◌, ℕ, List, Result, Ok, Err}
use Rattle.std.specs.Io.KnownBytes.{Appends}
use Rattle.counted_io.specs.Counting.{CountsFault}
use Rattle.counted_io.specs.ReaderWriter.{Writer}
use Rattle.counted_io.specs.Writing.{AppendsBeginning}
use Rattle.counted_io.specs.declared.writing.WriteFault.{WriteFault}
use Rattle.bpf_insn.specs.declared.instruction.Insn.{Insn}
use Rattle.bpf_meaning.specs.Run.{Answers}
use Rattle.tl_segments.specs.Segment.{SegmentParts}
use Rattle.bpf_meaning.specs.Extract.{TextFormat, chosen_count, text_if_chosen}

-- the code answers with a nonzero number and thus selects the segment
abbrev pub IsChosen : List Insn → SegmentParts → Type 0
IsChosen code segment = (score : ℕ) × (answer : ℕ) × Answers code segment answer score × (answer ≢ 0)

-- the text of a segment was written completely if the code selects it, or a beginning of the text before the fault
abbrev pub WritesIfChosen : TextFormat → List Insn → SegmentParts → Result ℕ WriteFault → Writer → Writer → Type 0
WritesIfChosen text_of code segment (Ok count) old new =
    (answer : ℕ) × (score : ℕ) × Answers code segment answer score × (count ≡ chosen_count answer)
    × Appends old.held new.held (text_if_chosen text_of answer score segment) × (new.counts ≡ old.counts)
WritesIfChosen text_of code segment (Err fault) old new =
    (answer : ℕ) × (score : ℕ) × Answers code segment answer score × (answer ≢ 0)
    × AppendsBeginning old.held new.held (text_if_chosen text_of answer score segment) × CountsFault fault old.counts new.counts
