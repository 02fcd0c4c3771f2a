use Rattle.bpf_assembler.proofs.LineCutLemmas.{lines-found, lines-missing}
use Rattle.bpf_assembler.proofs.text_lines.first_line.Goals as goal

pub returns-in-Some-clause-cut : goal.returns-in-Some-clause-cut
returns-in-Some-clause-cut c = rw c.without_carriage_return.ensures (lines-found c.args.text.now c.in-Some.«end» c.in-Some.ensures.value)

pub returns-in-None-clause-cut : goal.returns-in-None-clause-cut
returns-in-None-clause-cut c = lines-missing c.args.text.now c.requires c.in-None.ensures.value
