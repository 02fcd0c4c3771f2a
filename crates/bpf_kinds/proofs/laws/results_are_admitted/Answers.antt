use Rattle.bpf_kinds.proofs.ResultLemmas as lemmas
use Rattle.bpf_kinds.proofs.laws.results_are_admitted.Goals as goal

pub returns : goal.returns
returns g = record {
  low_bits = lemmas.cut-admits;
  alu = λ operation width x y m n x_proper y_proper. lemmas.alu-admits operation width;
  negate = lemmas.negate-admits;
  extend = lemmas.extend-admits;
  byte_swap = lemmas.byte_swap-admits;
  load = lemmas.load-admits;
  wide_number = lemmas.wide_number-admits;
  immediate_operand = lemmas.immediate_operand-admits;
}
