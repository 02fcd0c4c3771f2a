use Rattle.std.proofs.Common.{rules}
use Rattle.bpf_flat_insn.specs.Flat.{parts_of}
use Rattle.bpf_machine.specs.Words.{next_words}
use Rattle.bpf_machine.proofs.table.execute.Goals as goal

pub returns-in-Jump-clause-value : goal.returns-in-Jump-clause-value
unfolding next_words parts_of
returns-in-Jump-clause-value g c = search rules

pub returns-in-Exit-clause-value : goal.returns-in-Exit-clause-value
unfolding next_words parts_of
returns-in-Exit-clause-value g c = search rules
