use Rattle.std.proofs.Common.{sym, ◌∙◌, rules}
use Rattle.bpf_assembler.proofs.WordLemmas.{memory-bracketed}
use Rattle.bpf_assembler.proofs.operand.memory_in.Goals as goal

pub returns-in-91 : goal.returns-in-91
returns-in-91 c = c.address_in.ensures ∙ sym (memory-bracketed c.args.word.now c.in-91.len_at_least (search rules) (search rules))
