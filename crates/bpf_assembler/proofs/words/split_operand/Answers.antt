use Rattle.std.proofs.Common.{sym}
use Rattle.bpf_assembler.proofs.WordLemmas.{cut-found, cut-missing}
use Rattle.bpf_assembler.proofs.words.split_operand.Goals as goal

pub returns-in-Some : goal.returns-in-Some
returns-in-Some c =
    let cut = cut-found c.args.operands.now c.in-Some.«end» c.in-Some.ensures.value in
    rw (c.trim.ensures, c.trim-in-Some.ensures) (sym cut)

pub returns-in-None : goal.returns-in-None
returns-in-None c = sym (cut-missing c.args.operands.now c.in-None.ensures.value)
