-- The refusal for a fault in a text.
use Rattle.refusals.specs.Refusal.{RefusalParts, at_line, memory}
use Rattle.bpf_assembler.specs.TextFaultKind as text_flaw
use Rattle.bpf_assembler.specs.declared.fault.TextFault.{TextFault}
use Rattle.bpf_assembler.specs.declared.fault.TextFault.TheVariants.{InLine, Memory}

abbrev pub refusal : TextFault → RefusalParts
refusal (InLine line flaw) = at_line line (text_flaw.refusal flaw)
refusal Memory = memory
