-- The refusal for a flaw in a line of program text, without the line number.
use Rattle.std.specs.Prelude.{codes}
use Rattle.refusals.specs.Refusal.{RefusalParts, detailed, refused}
use Rattle.bpf_insn.specs.CodeFault as code_fault
use Rattle.bpf_insn.specs.WordFault as word_fault
use Rattle.bpf_insn.specs.declared.fault.CodeFault.TheVariants as code
use Rattle.bpf_insn.specs.declared.fault.WordFault.TheVariants as word
use Rattle.bpf_assembler.specs.declared.fault.TextFaultKind.{TextFaultKind}
use Rattle.bpf_assembler.specs.declared.fault.TextFaultKind.TheVariants.{Syntax, UnknownMnemonic, NumberRange, UnknownLabel, DoubleLabel, LabelTooFar, NoInstruction}
use Rattle.bpf_assembler.specs.declared.fault.TextFaultKind.TheVariants.{TooLong, WritesFramePointer}

-- a flaw in the code that the text means: its refusal's number is the detail
abbrev pub of_code : RefusalParts → RefusalParts
of_code code = detailed 26 (codes "CodeFault") code.number

-- a text that is too long to be read
abbrev pub text_too_long : RefusalParts
text_too_long = refused 130 (codes "TextTooLong")

abbrev pub refusal : TextFaultKind → RefusalParts
refusal Syntax = refused 20 (codes "Syntax")
refusal UnknownMnemonic = refused 21 (codes "UnknownMnemonic")
refusal NumberRange = refused 22 (codes "NumberRange")
refusal UnknownLabel = refused 23 (codes "UnknownLabel")
refusal DoubleLabel = refused 24 (codes "DoubleLabel")
refusal LabelTooFar = refused 25 (codes "LabelTooFar")
refusal NoInstruction = of_code (code_fault.refusal code.Empty)
refusal TooLong = of_code (code_fault.refusal code.TooLong)
refusal WritesFramePointer = of_code (word_fault.refusal word.WritesFramePointer)
