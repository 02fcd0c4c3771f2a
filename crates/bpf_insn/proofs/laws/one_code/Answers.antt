use Rattle.std.proofs.Common.{◌∙◌, sym}
use Rattle.bpf_insn.proofs.CodeLemmas as code
use Rattle.bpf_insn.proofs.laws.one_code.Goals as goal

pub returns : goal.returns
returns g = λ bytes a b is also. code.one_code a b (sym is.words ∙ also.words)
