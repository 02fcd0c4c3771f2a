-- Refusals of a program, a text or a filter are never for a failed read or write.
use Rattle.std.proofs.Common.{◌≢◌, ℕ, List, ap, sym, arith, ◌∙◌}
use Rattle.addresses.specs.AddressFault as address_fault
use Rattle.addresses.specs.declared.fault.AddressFault.{AddressFault}
use Rattle.bpf_insn.specs.CodeFault as code_fault
use Rattle.bpf_insn.specs.declared.fault.CodeFault.{CodeFault}
use Rattle.bpf_assembler.specs.TextFault as text_fault
use Rattle.bpf_assembler.specs.declared.fault.TextFault.{TextFault}
use Rattle.cql2_text.specs.FilterFault as filter_fault
use Rattle.cql2_text.specs.FilterFaultKind as filter_flaw
use Rattle.cql2_text.specs.declared.fault.FilterFaultKind.{FilterFaultKind}
use Rattle.cql2_text.specs.declared.fault.FilterFault.{FilterFault}
use Rattle.bpf_program.specs.ProgramFault as program_fault
use Rattle.bpf_program.specs.declared.program.ProgramFault.{ProgramFault}
use Rattle.refusals.specs.Refusal.{RefusalParts}
use Rattle.commands.specs.Failure.{refusal_status}
use Rattle.filters.specs.Failure.{refusal_of}
use Rattle.filters.specs.Filter.{IsFilterFailure, IsFilterRefusal, of_program, of_text}
use Rattle.filters.specs.declared.failure.FilterFailure.{FilterFailure}
use Rattle.filters.specs.declared.failure.FilterFailure.TheVariants.{Noted, Pointed, Memory}
use Rattle.filters.specs.declared.filter.FilterOptions.{FilterOptions}

pub code_status : (fault : CodeFault) → refusal_status (code_fault.refusal fault) ≢ 3
code_status fault e = grind (arith, e)

pub program_status : (fault : ProgramFault) → refusal_status (program_fault.refusal fault) ≢ 3
program_status fault e = grind (arith, e)

pub text_status : (fault : TextFault) → refusal_status (text_fault.refusal fault) ≢ 3
text_status fault e = grind (arith, e)

pub address_status : (fault : AddressFault) → refusal_status (address_fault.refusal fault) ≢ 3
address_status fault e = grind (arith, e)

filter_fault_status : (fault : FilterFault) → refusal_status (filter_fault.refusal fault) ≢ 3
filter_fault_status fault e = grind (arith, e)

filter_flaw_status : (kind : FilterFaultKind) → refusal_status (filter_flaw.refusal kind) ≢ 3
filter_flaw_status kind e = grind (arith, e)

noted_status : (text : List ℕ) (options : FilterOptions) (refusal : RefusalParts) → IsFilterRefusal text options refusal
    → refusal_status refusal ≢ 3
noted_status text options refusal (of_text fault none is) three = filter_fault_status fault (ap refusal_status (sym is) ∙ three)
noted_status text options refusal (of_program filter is_text spelled long is) three = grind (arith, is, three)

pub filter_status : (text : List ℕ) (options : FilterOptions) (failure : FilterFailure) → IsFilterFailure text options failure
    → refusal_status (refusal_of failure) ≢ 3
filter_status text options (Noted refusal note) is three = noted_status text options refusal is three
filter_status text options (Pointed kind pointer note) is three = filter_flaw_status kind three
filter_status text options Memory is three = absurd (omega (arith, three))
