-- The refusal of a program's bytes.
use Rattle.std.specs.Prelude.{codes}
use Rattle.refusals.specs.Refusal.{RefusalParts, at_place, memory, refused}
use Rattle.bpf_insn.specs.WordFault as word_fault
use Rattle.bpf_insn.specs.declared.fault.CodeFault.{CodeFault}
use Rattle.bpf_insn.specs.declared.fault.CodeFault.TheVariants.{Empty, NotWhole, TooLong, InWord, Memory}

abbrev pub refusal : CodeFault → RefusalParts
refusal Empty = refused 10 (codes "Empty")
refusal NotWhole = refused 11 (codes "NotWhole")
refusal TooLong = refused 12 (codes "TooLong")
refusal (InWord place fault) = at_place place (word_fault.refusal fault)
refusal Memory = memory
