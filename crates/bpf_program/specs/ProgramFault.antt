-- The refusal of a program.
use Rattle.refusals.specs.Refusal.{RefusalParts, memory}
use Rattle.bpf_insn.specs.CodeFault as code_fault
use Rattle.bpf_insn.specs.declared.fault.CodeFault.{CodeFault}
use Rattle.bpf_insn.specs.declared.fault.CodeFault.TheVariants as code_variant
use Rattle.bpf_flow.specs.FlowFault as flow_fault
use Rattle.bpf_flow.specs.declared.fault.FlowFault.{FlowFault}
use Rattle.bpf_verify.specs.VerifyFault as verify_fault
use Rattle.bpf_verify.specs.declared.fault.VerifyFault.{VerifyFault}
use Rattle.bpf_verify.specs.declared.fault.VerifyFault.TheVariants as verify_variant
use Rattle.bpf_program.specs.declared.program.ProgramFault.{ProgramFault}
use Rattle.bpf_program.specs.declared.program.ProgramFault.TheVariants.{Code, Flow, Verify, Memory}

-- out of memory is a single fault, wherever it came from
abbrev pub of_code : CodeFault → ProgramFault
of_code code_variant.Memory = Memory
of_code fault = Code fault

abbrev pub of_flow : FlowFault → ProgramFault
of_flow fault = Flow fault

abbrev pub of_verify : VerifyFault → ProgramFault
of_verify verify_variant.Memory = Memory
of_verify fault = Verify fault

abbrev pub refusal : ProgramFault → RefusalParts
refusal (Code fault) = code_fault.refusal fault
refusal (Flow fault) = flow_fault.refusal fault
refusal (Verify fault) = verify_fault.refusal fault
refusal Memory = memory
