-- Intervals of a pointer's offsets, from a lower to an upper end, both included.
use Rattle.std.specs.Prelude.{ℤ, ◌≤ℤ◌, FitsSigned}
use Rattle.std.specs.Int.{w16, int_min, int_max}
use Rattle.bpf_kinds.specs.declared.offsets.Offsets.{Offsets}

-- the lower end isn't above the upper one, and both are from -32768 to 32767
pub record IsProper (x : Offsets) : Type 0 where
  pub ordered : x.low ≤ℤ x.high
  pub low : FitsSigned w16 x.low
  pub high : FitsSigned w16 x.high

-- the offsets of an interval
pub record Admits (x : Offsets) (offset : ℤ) : Type 0 where
  pub above : x.low ≤ℤ offset
  pub below : offset ≤ℤ x.high

-- an interval lies within another
pub record IsWithin (x y : Offsets) : Type 0 where
  pub low : y.low ≤ℤ x.low
  pub high : x.high ≤ℤ y.high

-- an interval with these ends
abbrev pub between : ℤ → ℤ → Offsets
between low high = record { low = low; high = high }

-- the least interval that contains two others
abbrev pub join : Offsets → Offsets → Offsets
join x y = between (int_min x.low y.low) (int_max x.high y.high)
