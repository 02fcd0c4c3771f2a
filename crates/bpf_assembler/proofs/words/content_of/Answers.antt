use Rattle.std.proofs.Common.{ap, ◌∙◌}
use Rattle.bpf_assembler.specs.Words.{trim, is_semicolon}
use Rattle.bpf_assembler.proofs.WordLemmas.{before-found, before-missing}
use Rattle.bpf_assembler.proofs.words.content_of.Goals as goal

pub returns-in-Some : goal.returns-in-Some
returns-in-Some c = c.trim.ensures ∙ ap trim (before-found is_semicolon c.args.line.now c.in-Some.«end» c.in-Some.ensures.value)

pub returns-in-None : goal.returns-in-None
returns-in-None c = c.trim-in-None.ensures ∙ ap trim (before-missing is_semicolon c.args.line.now c.in-None.ensures.value)
