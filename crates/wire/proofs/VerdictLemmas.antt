-- The reply about a program's verdict, unless an allocation fails.
use Rattle.std.proofs.Common.{◌≡◌, ◌≢◌, ℕ, List, inl, inr, sym, ap, subst, ◌∙◌}
use Rattle.bpf_insn.specs.declared.instruction.Insn.{Insn}
use Rattle.bpf_meaning.proofs.ExtractLemmas.{one_extract_lem}
use Rattle.bpf_meaning.specs.Extract.{IsExtract, row_of}
use Rattle.bpf_program.proofs.VerdictLemmas as verdict
use Rattle.bpf_program.specs.ProgramFault as program_fault
use Rattle.bpf_program.specs.declared.program.ProgramFault.{ProgramFault}
use Rattle.bpf_program.specs.declared.program.ProgramFault.TheVariants.{Memory}
use Rattle.http_message.specs.Reply.{ReplyParts}
use Rattle.jobs.specs.Segments.{segments_of}
use Rattle.tl_segments.specs.County.{CountyParts}
use Rattle.wire.specs.Answer.{ExtractsTo, IsVerified, memory_reply, octets, refusal_reply}

abbrev fault_reply : ProgramFault → ReplyParts
fault_reply fault = refusal_reply (program_fault.refusal fault)

-- the fault isn't a failed allocation
not_memory : (reply : ReplyParts) (fault : ProgramFault) → reply ≢ memory_reply → reply ≡ fault_reply fault → fault ≢ Memory
not_memory reply fault known is memory = known (is ∙ ap fault_reply memory)

pub one_verdict : (program : List ℕ) (reply other : ReplyParts) → IsVerified program reply → IsVerified program other → reply ≢ memory_reply
    → other ≢ memory_reply → reply ≡ other
one_verdict program reply other (inl is) (inl also) known given = is.2 ∙ sym also.2
one_verdict program reply other (inl is) (inr also) known given =
    absurd (not_memory other also.0 given also.2 (verdict.no_fault program is.0 also.0 is.1 also.1))
one_verdict program reply other (inr is) (inl also) known given =
    absurd (not_memory reply is.0 known is.2 (verdict.no_fault program also.0 is.0 also.1 is.1))
one_verdict program reply other (inr is) (inr also) known given =
    is.2 ∙ ap fault_reply (verdict.one_fault program is.0 also.0 is.1 also.1 (not_memory reply is.0 known is.2)
    (not_memory other also.0 given also.2)) ∙ sym also.2

pub one_extract : (counties : List CountyParts) (program : List ℕ) (reply other : ReplyParts) → ExtractsTo counties program reply
    → ExtractsTo counties program other → reply ≢ memory_reply → other ≢ memory_reply → reply ≡ other
one_extract counties program reply other (inl is) (inl also) known given =
    let code = verdict.same_code program is.0 also.0 is.1.is_code also.1.is_code in
    let extract = subst (λ (c : List Insn). IsExtract c (segments_of counties) is.2 is.3) code is.4 in
    is.5 ∙ ap octets (one_extract_lem row_of also.0 (segments_of counties) is.2 also.2 is.3 also.3 extract also.4).0 ∙ sym also.5
one_extract counties program reply other (inl is) (inr also) known given =
    absurd (not_memory other also.0 given also.2 (verdict.no_fault program is.0 also.0 is.1 also.1))
one_extract counties program reply other (inr is) (inl also) known given =
    absurd (not_memory reply is.0 known is.2 (verdict.no_fault program also.0 is.0 also.1 is.1))
one_extract counties program reply other (inr is) (inr also) known given =
    is.2 ∙ ap fault_reply (verdict.one_fault program is.0 also.0 is.1 also.1 (not_memory reply is.0 known is.2)
    (not_memory other also.0 given also.2)) ∙ sym also.2
