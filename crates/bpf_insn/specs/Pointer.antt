-- Pointers. How far an offset may lie outside an area is this project's own choice.
use Rattle.std.specs.Prelude.{ℤ, pos, negsuc, ◌&&◌, Bool, int_le}

-- a pointer's offset ranges from -32768 to 32767
abbrev pub is_offset : ℤ → Bool
is_offset z = int_le (negsuc 32767) z && int_le z (pos 32767)
