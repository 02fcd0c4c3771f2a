-- The refusal for an extract's fault.
use Rattle.refusals.specs.Refusal.{RefusalParts, memory}
use Rattle.counted_io.specs.Writing as write_fault
use Rattle.bpf_program.specs.ProgramFault as program_fault
use Rattle.tl_segments.specs.LoadFault as load_fault
use Rattle.bpf_program.specs.declared.program.ProgramFault.{ProgramFault}
use Rattle.bpf_program.specs.declared.program.ProgramFault.TheVariants as program_variant
use Rattle.tl_segments.specs.declared.fault.LoadFault.{LoadFault}
use Rattle.tl_segments.specs.declared.fault.LoadFault.TheVariants as load_variant
use Rattle.extract.specs.declared.fault.ExtractFault.{ExtractFault}
use Rattle.extract.specs.declared.fault.ExtractFault.TheVariants.{Program, Load, Write, Memory}

-- out of memory is a single fault, wherever it came from
abbrev pub of_program : ProgramFault → ExtractFault
of_program program_variant.Memory = Memory
of_program fault = Program fault

abbrev pub of_load : LoadFault → ExtractFault
of_load load_variant.Memory = Memory
of_load fault = Load fault

abbrev pub refusal : ExtractFault → RefusalParts
refusal (Program fault) = program_fault.refusal fault
refusal (Load fault) = load_fault.refusal fault
refusal (Write fault) = write_fault.refusal fault
refusal Memory = memory
