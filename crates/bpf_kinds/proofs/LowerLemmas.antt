-- Intervals that lie within others and whose ends are in order. Nothing is required of the outer ones.
use Rattle.std.specs.Prelude.{◌≤◌, ◌≤ℤ◌}
use Rattle.bpf_kinds.specs.Interval as interval
use Rattle.bpf_kinds.specs.Offsets as offsets
use Rattle.bpf_kinds.specs.declared.interval.Interval.{Interval}
use Rattle.bpf_kinds.specs.declared.offsets.Offsets.{Offsets}

pub record IsLowerInterval (higher lower : Interval) : Type 0 where
  pub within : interval.IsWithin lower higher
  pub ordered : lower.low ≤ lower.high

pub record AreLowerOffsets (higher lower : Offsets) : Type 0 where
  pub within : offsets.IsWithin lower higher
  pub ordered : lower.low ≤ℤ lower.high
