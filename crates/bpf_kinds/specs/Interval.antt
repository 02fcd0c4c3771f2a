-- Intervals of numbers below 2^64, from a lower to an upper end, both included.
use Rattle.std.specs.Prelude.{ℕ, ◌<◌, ◌≤◌, ◌^◌, ◌-◌, ◌/◌, ◌==◌, Bool, min, max, if◌then◌else◌}
use Rattle.std.specs.Int.{Width as Bits}
use mir.Val.{bits}
use Rattle.bpf_insn.specs.Arithmetic.{low_bits}
use Rattle.bpf_kinds.specs.declared.interval.Interval.{Interval}

-- the lower end isn't above the upper one, and both have 64 bits
pub record IsProper (x : Interval) : Type 0 where
  pub ordered : x.low ≤ x.high
  pub fits : x.high < 2 ^ 64

-- an interval of numbers of w bits
pub record HasBits (w : Bits) (x : Interval) : Type 0 where
  pub ordered : x.low ≤ x.high
  pub fits : x.high < 2 ^ bits w

-- the numbers of an interval
pub record Admits (x : Interval) (n : ℕ) : Type 0 where
  pub above : x.low ≤ n
  pub below : n ≤ x.high

-- an interval lies within another
pub record IsWithin (x y : Interval) : Type 0 where
  pub low : y.low ≤ x.low
  pub high : x.high ≤ y.high

-- an interval with these ends
abbrev pub between : ℕ → ℕ → Interval
between low high = record { low = low; high = high }

-- one number
abbrev pub single : ℕ → Interval
single number = between number number

abbrev pub is_single : Interval → Bool
is_single x = x.low == x.high

-- all numbers of w bits
abbrev pub full : Bits → Interval
full w = between 0 (2 ^ bits w - 1)

-- the least interval that contains two others
abbrev pub join : Interval → Interval → Interval
join x y = between (min x.low y.low) (max x.high y.high)

-- the low w bits of an interval's numbers: from end to end if all of them have the same bits above, otherwise all numbers of w bits
abbrev pub cut : Bits → Interval → Interval
cut w x =
    if x.low / 2 ^ bits w == x.high / 2 ^ bits w then between (low_bits w x.low) (low_bits w x.high) else full w
