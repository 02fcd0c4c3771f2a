use Rattle.bpf_kinds.proofs.MovingMonotone.{near_is_monotone, move_by_is_monotone, move_back_by_is_monotone}
use Rattle.bpf_kinds.proofs.moving_laws.moves_are_monotone.Goals as goal

pub returns : goal.returns
returns c = record {
  near = λ x a distances proper within is. let there = near_is_monotone x a distances proper.ordered within is in (there.0, there.1, there.2);
  move_by = λ x d a e moved proper-x proper-d left right is.
      let there = move_by_is_monotone (record { within = left; ordered = proper-x.ordered }) (record { within = right; ordered = proper-d.ordered }) is in
      (there.0, there.1, there.2);
  move_back_by = λ x d a e moved proper-x proper-d left right is.
      let there = move_back_by_is_monotone (record { within = left; ordered = proper-x.ordered })
      (record { within = right; ordered = proper-d.ordered }) is in (there.0, there.1, there.2);
}
