use Rattle.bpf_machine.proofs.StartHeld.{start_held}
use Rattle.std.proofs.Common.{rules}
use Rattle.bpf_machine.proofs.bare.Bare.restart.Goals as goal

pub returns-clause-words : goal.returns-clause-words
returns-clause-words c = start_held c.args.self.now.registers.words c.args.self.now.frame (search rules) (search rules)
