-- The refusal of a word's fault, without its place.
use Rattle.std.specs.Prelude.{codes}
use Rattle.refusals.specs.Refusal.{RefusalParts, refused}
use Rattle.bpf_insn.specs.declared.fault.WordFault.{WordFault}
use Rattle.bpf_insn.specs.declared.fault.WordFault.TheVariants.{UnknownOpcode, BadRegister, UnusedNotZero, BadWidth, CutWide, WritesFramePointer}

abbrev pub refusal : WordFault → RefusalParts
refusal UnknownOpcode = refused 13 (codes "UnknownOpcode")
refusal BadRegister = refused 14 (codes "BadRegister")
refusal UnusedNotZero = refused 15 (codes "UnusedNotZero")
refusal BadWidth = refused 16 (codes "BadWidth")
refusal CutWide = refused 17 (codes "CutWide")
refusal WritesFramePointer = refused 18 (codes "WritesFramePointer")
