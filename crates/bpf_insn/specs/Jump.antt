-- Jumps and their distances (RFC 9669, section 4.3).
use Rattle.std.specs.Prelude.{ℤ, Option, Some, None}
use Rattle.bpf_insn.specs.declared.instruction.Insn.{Insn}
use Rattle.bpf_insn.specs.declared.instruction.Insn.TheVariants.{JumpIf, Jump}
use Rattle.bpf_insn.specs.declared.instruction.JumpDistance.{JumpDistance}
use Rattle.bpf_insn.specs.declared.instruction.JumpDistance.TheVariants.{Short, Long}

-- a distance in words: the offset in the class JMP, the immediate in JMP32
abbrev pub words : JumpDistance → ℤ
words (Short distance) = distance
words (Long distance) = distance

-- the distance that an instruction jumps, if it's a jump, in words counted from the word after it; a conditional jump goes there if it's taken
abbrev pub jump_distance : Insn → Option ℤ
jump_distance (JumpIf condition width left right offset) = Some offset
jump_distance (Jump distance) = Some (words distance)
jump_distance insn = None
