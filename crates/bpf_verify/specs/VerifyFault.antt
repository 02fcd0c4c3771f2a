-- The refusal of a verifier's fault.
use Rattle.refusals.specs.Refusal.{RefusalParts, at_place, memory}
use Rattle.bpf_meaning.specs.Cause as cause
use Rattle.bpf_verify.specs.declared.fault.VerifyFault.{VerifyFault}
use Rattle.bpf_verify.specs.declared.fault.VerifyFault.TheVariants.{Refused, Memory}

abbrev pub refusal : VerifyFault → RefusalParts
refusal (Refused place why) = at_place place (cause.refusal why)
refusal Memory = memory
