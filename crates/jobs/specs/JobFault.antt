-- The refusal by a table of jobs, and its line of text.
use Rattle.std.specs.Prelude.{ℕ, List, codes}
use Rattle.refusals.specs.Refusal.{RefusalParts, line as refusal_line, memory, refused}
use Rattle.bpf_program.specs.ProgramFault as program_fault
use Rattle.bpf_program.specs.declared.program.ProgramFault.{ProgramFault}
use Rattle.bpf_program.specs.declared.program.ProgramFault.TheVariants as program_variant
use Rattle.jobs.specs.declared.fault.JobFault.{JobFault}
use Rattle.jobs.specs.declared.fault.JobFault.TheVariants.{Full, NoJob, Program, Memory}

-- a failed allocation is one fault, wherever it happens
abbrev pub of_program : ProgramFault → JobFault
of_program program_variant.Memory = Memory
of_program fault = Program fault

abbrev pub refusal : JobFault → RefusalParts
refusal Full = refused 70 (codes "Full")
refusal NoJob = refused 71 (codes "NoJob")
refusal (Program fault) = refused 72 (codes "Refused")
refusal Memory = memory

-- a refused program has the line of its own refusal
abbrev pub line : JobFault → List ℕ
line (Program fault) = refusal_line (program_fault.refusal fault)
line fault = refusal_line (refusal fault)
