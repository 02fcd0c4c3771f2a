-- Widths of numbers, in bits.
use Rattle.std.specs.Int.{w8, w16, w32, w64}
use Rattle.std.specs.Int.{Width as Bits}
use Rattle.bpf_kinds.specs.declared.number_width.NumberWidth.{NumberWidth}
use Rattle.bpf_kinds.specs.declared.number_width.NumberWidth.TheVariants.{Bits8, Bits16, Bits32, Bits64}

abbrev pub number_bits : NumberWidth → Bits
number_bits Bits8 = w8
number_bits Bits16 = w16
number_bits Bits32 = w32
number_bits Bits64 = w64
