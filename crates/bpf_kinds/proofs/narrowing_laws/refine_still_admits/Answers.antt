use Rattle.bpf_kinds.proofs.NarrowingLaws.{refine-still_admits}
use Rattle.bpf_kinds.proofs.narrowing_laws.refine_still_admits.Goals as goal

pub returns : goal.returns
returns c = λ condition width x y m n taken proper-x proper-y left right answer.
    refine-still_admits condition width taken (record { left = left; right = right; answer = answer })
