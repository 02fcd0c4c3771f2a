-- The helper functions and their table of prototypes. The set of helpers is this project's own: RFC 9669, section 4.3.1, leaves it to the platform.
use Rattle.std.specs.Prelude.{ℕ, ◌-◌, ◌^◌, ◌==◌, Bool, List, [], ◌∷◌, Option, codes}
use Rattle.std.specs.List.{find}
use Rattle.bpf_kinds.specs.Interval.{between, single}
use Rattle.bpf_kinds.specs.declared.interval.Interval.{Interval}
use Rattle.bpf_helpers.specs.Group as group
use Rattle.bpf_helpers.specs.declared.helper.Helper.{Helper}
use Rattle.bpf_helpers.specs.declared.helper.Helper.TheVariants.{Field, HasField, NameCount, RangeCount, InRange, NameCopy, NameIs, Emit, Coord}
use Rattle.bpf_helpers.specs.declared.helper.TheConstants.{HELPERS}
use Rattle.bpf_helpers.specs.declared.signature.Argument.{Argument}
use Rattle.bpf_helpers.specs.declared.signature.Argument.TheVariants.{Unused, Number, Frame}
use Rattle.bpf_helpers.specs.declared.signature.Group.TheVariants.{ReadsRecord, ReadsSegment, ComparesFrame, CopiesIntoFrame, SetsScore}
use Rattle.bpf_helpers.specs.declared.signature.Signature.{Signature}

-- any 64-bit number
abbrev pub any_number : Interval
any_number = between 0 (2 ^ 64 - 1)

-- no arguments, one, and two, each a number of an interval
abbrev pub no_arguments : List Argument
no_arguments = Unused ∷ Unused ∷ Unused ∷ []

abbrev pub unary : Interval → List Argument
unary x = Number x ∷ Unused ∷ Unused ∷ []

abbrev pub binary : Interval → Interval → List Argument
binary x y = Number x ∷ Number y ∷ Unused ∷ []

-- a name's number, a pointer into the frame, and a byte count of at most the length of a name
abbrev pub name_and_bytes : List Argument
name_and_bytes = Number any_number ∷ Frame ∷ Number (between 1 30) ∷ []

-- the table of prototypes
abbrev pub signature : Helper → Signature
signature Field = record { number = 1; arguments = unary (between 0 16); group = ReadsRecord; answer = between 0 99999999999 }
signature HasField = record { number = 2; arguments = unary (between 0 16); group = ReadsRecord; answer = between 0 1 }
signature NameCount = record { number = 3; arguments = no_arguments; group = ReadsSegment; answer = between 0 5000 }
signature RangeCount = record { number = 4; arguments = no_arguments; group = ReadsSegment; answer = between 1 1001 }
signature InRange = record { number = 5; arguments = binary any_number any_number; group = ReadsSegment; answer = between 0 3 }
signature NameCopy = record { number = 6; arguments = name_and_bytes; group = CopiesIntoFrame; answer = between 0 1 }
signature NameIs = record { number = 7; arguments = name_and_bytes; group = ComparesFrame; answer = between 0 1 }
signature Emit = record { number = 8; arguments = unary any_number; group = SetsScore; answer = single 0 }
signature Coord = record { number = 9; arguments = unary (between 0 3); group = ReadsRecord; answer = any_number }

-- the helper function with a number, if there is one
abbrev pub by_number : ℕ → Option Helper
by_number number = find (λ helper. (signature helper).number == number) HELPERS

-- a call reads nothing of the segment except its type 1 record
abbrev pub reads_record_alone : Helper → Bool
reads_record_alone helper = group.reads_record_alone (signature helper).group

-- the helper's name in the documentation
abbrev pub name : Helper → List ℕ
name Field = codes "field"
name HasField = codes "has"
name NameCount = codes "names"
name RangeCount = codes "ranges"
name InRange = codes "in_range"
name NameCopy = codes "name_copy"
name NameIs = codes "name_is"
name Emit = codes "emit"
name Coord = codes "coord"
