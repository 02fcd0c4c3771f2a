use Rattle.std.proofs.Common.{ap, ◌∙◌}
use Rattle.bpf_assembler.specs.Words.{trim, is_blank}
use Rattle.bpf_assembler.proofs.WordLemmas.{before-found, before-missing, after-found, after-missing}
use Rattle.bpf_assembler.proofs.words.split_word.Goals as goal

pub returns-in-Some-clause-word : goal.returns-in-Some-clause-word
returns-in-Some-clause-word c = before-found is_blank c.args.content.now c.in-Some.«end» c.in-Some.ensures.value

pub returns-in-Some-clause-rest : goal.returns-in-Some-clause-rest
returns-in-Some-clause-rest c = c.trim.ensures ∙ ap trim (after-found is_blank c.args.content.now c.in-Some.«end» c.in-Some.ensures.value)

pub returns-in-None-clause-word : goal.returns-in-None-clause-word
returns-in-None-clause-word c = before-missing is_blank c.args.content.now c.in-None.ensures.value

pub returns-in-None-clause-rest : goal.returns-in-None-clause-rest
returns-in-None-clause-rest c = ap trim (after-missing is_blank c.args.content.now c.in-None.ensures.value)
