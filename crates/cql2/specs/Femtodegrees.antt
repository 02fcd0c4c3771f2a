-- Femtodegrees: 10^15 are a degree, and 10^9 a millionth of a degree.
use Rattle.std.specs.Prelude.{ℕ, ◌^◌, ℤ, pos, ◌+ℤ◌, ◌*ℤ◌}

-- whole millionths of a degree and a rest
abbrev pub in_femtodegrees : ℤ → ℕ → ℤ
in_femtodegrees millionths rest = millionths *ℤ pos (10 ^ 9) +ℤ pos rest
