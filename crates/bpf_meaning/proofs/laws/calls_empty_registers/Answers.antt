use Rattle.bpf_meaning.proofs.RegisterLemmas.{step_after_call}
use Rattle.bpf_meaning.proofs.laws.calls_empty_registers.Goals as goal

pub returns : goal.returns
returns c = record {
  empty = λ code segment state there immediate at step. (step_after_call code segment state there immediate at step).empty;
  preserved = λ code segment state there immediate at step. (step_after_call code segment state there immediate at step).preserved;
}
