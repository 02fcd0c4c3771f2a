-- The words that a row of the instruction table allows, and the first fault of any other word (RFC 9669, sections 3 to 5). The order of the tests
-- is this project's own.
use Rattle.std.specs.Prelude.{◌≡◌, ◌≤◌, ⊤, ◌⊎◌, MatchBool, ◌==◌, ◌&&◌, ◌||◌, not, nat_lt, Bool, true, false, ℤ, pos, Option, Some, None, if◌then◌else◌}
use Rattle.std.specs.Ordering.{int_eq}
use Rattle.bpf_insn.specs.declared.word.Word.{Word}
use Rattle.bpf_insn.specs.declared.row.Row.{Row}
use Rattle.bpf_insn.specs.declared.row.Destination.{Destination}
use Rattle.bpf_insn.specs.declared.row.Destination.TheVariants.{Nothing, Read, Written}
use Rattle.bpf_insn.specs.declared.row.Use.{Use}
use Rattle.bpf_insn.specs.declared.row.Use.TheVariants.{Unused, Any, ZeroOrOne, MoveBits, SwapBits}
use Rattle.bpf_insn.specs.declared.fault.WordFault.{WordFault}
use Rattle.bpf_insn.specs.declared.fault.WordFault.TheVariants.{BadRegister, UnusedNotZero, BadWidth, WritesFramePointer}
use Rattle.bpf_insn.specs.declared.instruction.Width.TheVariants.{Bits32, Bits64}

-- a row with these uses
abbrev pub uses : Destination → Bool → Use → Use → Row
uses destination uses_source offset immediate = record { destination = destination; uses_source = uses_source; offset = offset; immediate = immediate }

abbrev pub is_used : Destination → Bool
is_used Nothing = false
is_used Read = true
is_used Written = true

abbrev pub is_written : Destination → Bool
is_written Nothing = false
is_written Read = false
is_written Written = true

-- a used register field names no register (section 3.1: registers are 0 to 10)
abbrev pub names_bad_register : Row → Word → Bool
names_bad_register row word =
    (is_used row.destination && nat_lt 10 word.destination) || (row.uses_source && nat_lt 10 word.source)

-- register 10 would be written
abbrev pub writes_frame_pointer : Row → Word → Bool
writes_frame_pointer row word = is_written row.destination && word.destination == 10

-- a number of bits that the row doesn't allow: a move takes 8, 16 or, to 64 bits, 32 bits of a register, or all of them for 0; a byte swap keeps
-- 16, 32 or 64 (sections 4.1 and 4.2)
abbrev pub is_bad_width : Use → ℤ → Bool
is_bad_width (MoveBits Bits32) z = not (int_eq z (pos 0) || int_eq z (pos 8) || int_eq z (pos 16))
is_bad_width (MoveBits Bits64) z = not (int_eq z (pos 0) || int_eq z (pos 8) || int_eq z (pos 16) || int_eq z (pos 32))
is_bad_width SwapBits z = not (int_eq z (pos 16) || int_eq z (pos 32) || int_eq z (pos 64))
is_bad_width role z = false

-- a number other than zero if only zero is allowed, or other than 0 and 1 if only these two are
abbrev pub is_disallowed : Use → ℤ → Bool
is_disallowed Unused z = not (int_eq z (pos 0))
is_disallowed ZeroOrOne z = not (int_eq z (pos 0) || int_eq z (pos 1))
is_disallowed role z = false

abbrev pub has_bad_width : Row → Word → Bool
has_bad_width row word = is_bad_width row.offset word.offset || is_bad_width row.immediate word.immediate

-- an unused field isn't zero (section 3.1)
abbrev pub has_unused_field : Row → Word → Bool
has_unused_field row word =
    (not (is_used row.destination) && not (word.destination == 0)) || (not row.uses_source && not (word.source == 0))
    || is_disallowed row.offset word.offset || is_disallowed row.immediate word.immediate

-- the first fault of a word whose opcode has this row
abbrev pub fault : Row → Word → Option WordFault
fault row word =
    if names_bad_register row word then Some BadRegister
    else (if writes_frame_pointer row word then Some WritesFramePointer
    else (if has_bad_width row word then Some BadWidth
    else (if has_unused_field row word then Some UnusedNotZero else None)))

-- a number that a use allows
abbrev pub IsAllowed : Use → ℤ → Type 0
IsAllowed Unused z = z ≡ pos 0
IsAllowed Any z = ⊤
IsAllowed ZeroOrOne z = (z ≡ pos 0) ⊎ (z ≡ pos 1)
IsAllowed (MoveBits Bits32) z = ((z ≡ pos 0) ⊎ (z ≡ pos 8)) ⊎ (z ≡ pos 16)
IsAllowed (MoveBits Bits64) z = (((z ≡ pos 0) ⊎ (z ≡ pos 8)) ⊎ (z ≡ pos 16)) ⊎ (z ≡ pos 32)
IsAllowed SwapBits z = ((z ≡ pos 16) ⊎ (z ≡ pos 32)) ⊎ (z ≡ pos 64)

-- a word that a row allows: what a word without a fault satisfies, field by field
pub record Fits (row : Row) (word : Word) : Type 0 where
  pub destination : MatchBool (is_used row.destination) (word.destination ≤ 10) (word.destination ≡ 0)
  pub written : MatchBool (is_written row.destination) (word.destination ≤ 9) ⊤
  pub source : MatchBool row.uses_source (word.source ≤ 10) (word.source ≡ 0)
  pub offset : IsAllowed row.offset word.offset
  pub immediate : IsAllowed row.immediate word.immediate
