use Rattle.bpf_kinds.proofs.ResultsMonotone as lemmas
use Rattle.bpf_kinds.proofs.laws.results_are_monotone.Goals as goal

pub returns : goal.returns
returns g = record {
  low_bits = λ w x a small large within. lemmas.cut_is_monotone w x a small.ordered within;
  alu = λ operation width x y a b x_proper y_proper a_proper b_proper first second. lemmas.alu_is_monotone operation width
      (record { within = first; ordered = x_proper.ordered }) (record { within = second; ordered = y_proper.ordered });
  negate = λ width x a small large within. lemmas.negate_is_monotone width x a small.ordered within;
  extend = λ extension x a small large within. lemmas.extend_is_monotone extension x a small.ordered within;
  byte_swap = λ order width x a small large within. lemmas.byte_swap_is_monotone order width x a small.ordered within;
}
