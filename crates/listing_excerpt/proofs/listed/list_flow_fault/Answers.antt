use Rattle.std.proofs.Common.{arith}
use Rattle.bpf_insn.proofs.CodeLemmas.{word_count_of}
use Rattle.listing_excerpt.proofs.PlaceLemmas.{flow-within}
use Rattle.listing_excerpt.proofs.listed.list_flow_fault.Goals as goal

pub list_instruction-requires-clause-place : goal.list_instruction-requires-clause-place
list_instruction-requires-clause-place g c =
    omega (arith, flow-within c.requires.0 c.args.fault c.requires.2, word_count_of c.args.program.now c.requires.0 c.requires.1.words)

pub list_instruction-requires-clause-few : goal.list_instruction-requires-clause-few
list_instruction-requires-clause-few g c = omega (arith, flow-within c.requires.0 c.args.fault c.requires.2, c.requires.1.sized.1)
