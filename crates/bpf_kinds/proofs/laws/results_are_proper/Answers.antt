use Rattle.bpf_kinds.proofs.ResultLemmas as lemmas
use Rattle.bpf_kinds.proofs.laws.results_are_proper.Goals as goal

pub returns : goal.returns
returns g = record {
  alu = lemmas.alu-proper;
  negate = lemmas.negate-proper;
  extend = lemmas.extend-proper;
  byte_swap = lemmas.byte_swap-proper;
  load = lemmas.load-proper;
  wide_number = lemmas.wide_number-proper;
  immediate_operand = lemmas.immediate_operand-proper;
}
