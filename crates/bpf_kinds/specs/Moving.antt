-- Moves of pointers by a number of bytes. How far they may be moved is this project's own choice.
use Rattle.std.specs.Prelude.{◌-◌, ◌^◌, ◌+ℤ◌, ◌-ℤ◌, ◌&&◌, ◌||◌, nat_lt, nat_le, Option, Some, None, if◌then◌else◌}
use Rattle.std.specs.Int.{w64, cast_signed}
use Rattle.bpf_insn.specs.Pointer.{is_offset}
use Rattle.bpf_kinds.specs.Offsets.{between}
use Rattle.bpf_kinds.specs.declared.interval.Interval.{Interval}
use Rattle.bpf_kinds.specs.declared.offsets.Offsets.{Offsets}

-- numbers by which a pointer may be moved, read as two's complement: all are at most 32767, or all are from -32768 to -1
abbrev pub near_distances : Interval → Option Offsets
near_distances x =
    if nat_lt x.high (2 ^ 15) || nat_le (2 ^ 64 - 2 ^ 15) x.low
    then Some (between (cast_signed w64 x.low) (cast_signed w64 x.high))
    else None

-- offsets whose ends are both in range
abbrev pub if_offsets : Offsets → Option Offsets
if_offsets x = if is_offset x.low && is_offset x.high then Some x else None

-- offsets moved by distances, forwards and backwards
abbrev pub move_by : Offsets → Offsets → Option Offsets
move_by x distances = if_offsets (between (x.low +ℤ distances.low) (x.high +ℤ distances.high))

abbrev pub move_back_by : Offsets → Offsets → Option Offsets
move_back_by x distances = if_offsets (between (x.low -ℤ distances.high) (x.high -ℤ distances.low))
