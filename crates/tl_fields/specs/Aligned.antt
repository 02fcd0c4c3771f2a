-- Masks of vectors: bit k is that of lane k.
use Rattle.std.specs.Prelude.{ℕ, ◌==◌, if◌then◌else◌}
use Rattle.std.specs.Int.{w64, trailing_zeros}

-- the index of the lowest bit that is set, or the number of lanes if none is
abbrev pub lowest_set_bit : ℕ → ℕ → ℕ
lowest_set_bit mask lanes = if mask == 0 then lanes else trailing_zeros w64 mask
