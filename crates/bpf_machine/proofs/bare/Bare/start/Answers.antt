use Rattle.bpf_machine.proofs.MachineLemmas.{begins}
use Rattle.bpf_machine.proofs.bare.Bare.start.Goals as goal

pub returns-clause-begins : goal.returns-clause-begins
returns-clause-begins c = λ code segment. begins code segment c.restart.new.self c.restart.ensures.entry c.restart.ensures.words
