-- The lanes in which a FrameMap keeps its marks.
use Rattle.std.specs.Prelude.{◌≡◌, ℕ, ◌/◌, ◌%◌, ◌^◌, ◌<◌, Bool, ◌==◌, List, length, map, slice_index_or}
use Rattle.std.specs.Int.{bit_at}
use Rattle.std.specs.List.{All, range_with_len}
use Rattle.bpf_insn.specs.declared.memory.TheConstants.{FRAME_LENGTH}

-- lanes of 64 bits, with one bit for each mark of a frame
pub record AreLanes (lanes : List ℕ) : Type 0 where
  pub count : length lanes ≡ 8
  pub fits : All (λ lane. lane < 2 ^ 64) lanes

-- whether a bit of a lane is set
abbrev pub has_bit : ℕ → ℕ → Bool
has_bit lane bit = bit_at lane bit == 1

-- the marks in lanes: the mark of the byte at an offset is bit (offset mod 64) of lane (offset div 64)
unfoldable pub marks_of : List ℕ → List Bool
marks_of lanes = map (λ at. has_bit (slice_index_or lanes (at / 64) 0) (at % 64)) (range_with_len 0 FRAME_LENGTH)
