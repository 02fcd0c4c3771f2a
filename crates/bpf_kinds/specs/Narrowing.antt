-- Narrowing at conditional jumps (RFC 9669, section 4.3): what is known of two numbers on the edge of a jump that is taken, and on the edge of one
-- that isn't. The choice of these bounds is this project's own.
use Rattle.std.specs.Prelude.{ℕ, ◌+◌, ◌-◌, ◌^◌, ◌&&◌, ◌==◌, nat_lt, nat_le, min, max, Bool, true, false, Option, Some, None, if◌then◌else◌}
use mathlib.Core.Bool.{beq}
use mir.Val.{bits}
use Rattle.bpf_insn.specs.Arithmetic.{operand_bits, condition_holds}
use Rattle.bpf_insn.specs.declared.instruction.Condition.{Condition}
use Rattle.bpf_insn.specs.declared.instruction.Condition.TheVariants.{Equal, Greater, GreaterOrEqual, SharesBit, NotEqual, SignedGreater, SignedGreaterOrEqual, Less, LessOrEqual, SignedLess, SignedLessOrEqual}
use Rattle.bpf_insn.specs.declared.instruction.Width.{Width}
use Rattle.bpf_kinds.specs.Interval.{between, is_single}
use Rattle.bpf_kinds.specs.declared.interval.Interval.{Interval}
use Rattle.bpf_kinds.specs.declared.narrowing.Narrowed.{Narrowed}
use Rattle.bpf_kinds.specs.declared.narrowing.Relation.{Relation}
use Rattle.bpf_kinds.specs.declared.narrowing.Relation.TheVariants.{Same, Different, Above, AtLeast, Below, AtMost}

-- the relation of two numbers if a comparison holds, and if it doesn't; whether they share a bit says nothing of their order
abbrev pub relation_of : Condition → Bool → Option Relation
relation_of Equal true = Some Same
relation_of Equal false = Some Different
relation_of NotEqual true = Some Different
relation_of NotEqual false = Some Same
relation_of Greater true = Some Above
relation_of Greater false = Some AtMost
relation_of GreaterOrEqual true = Some AtLeast
relation_of GreaterOrEqual false = Some Below
relation_of Less true = Some Below
relation_of Less false = Some AtLeast
relation_of LessOrEqual true = Some AtMost
relation_of LessOrEqual false = Some Above
relation_of SignedGreater true = Some Above
relation_of SignedGreater false = Some AtMost
relation_of SignedGreaterOrEqual true = Some AtLeast
relation_of SignedGreaterOrEqual false = Some Below
relation_of SignedLess true = Some Below
relation_of SignedLess false = Some AtLeast
relation_of SignedLessOrEqual true = Some AtMost
relation_of SignedLessOrEqual false = Some Above
relation_of SharesBit taken = None

abbrev pub is_signed : Condition → Bool
is_signed SignedGreater = true
is_signed SignedGreaterOrEqual = true
is_signed SignedLess = true
is_signed SignedLessOrEqual = true
is_signed condition = false

-- operands below this number are compared unchanged: none has bits above the width, and for a signed comparison none is negative
abbrev pub plain_limit : Condition → Width → ℕ
plain_limit condition width = if is_signed condition then 2 ^ (bits (operand_bits width) - 1) else 2 ^ bits (operand_bits width)

abbrev pub is_plain : Condition → Width → Interval → Interval → Bool
is_plain condition width x y = nat_lt x.high (plain_limit condition width) && nat_lt y.high (plain_limit condition width)

-- an interval's numbers that are at least a number, and those that are at most a number
abbrev pub at_least : Interval → ℕ → Interval
at_least x least = between (max x.low least) x.high

abbrev pub at_most : Interval → ℕ → Interval
at_most x most = between x.low (min x.high most)

-- the numbers in both intervals
abbrev pub common : Interval → Interval → Interval
common x y = between (max x.low y.low) (min x.high y.high)

-- an interval without the number in another one, if it's only one: an end equal to this number moves in by one
abbrev pub without : Interval → Interval → Interval
without x y =
    if is_single y
    then between (if x.low == y.low then x.low + 1 else x.low) (if x.high == y.low then x.high - 1 else x.high)
    else x

abbrev pub narrowed : Interval → Interval → Narrowed
narrowed left right = record { left = left; right = right }

-- an edge isn't reached if an interval is empty on it, with its lower end above the upper one
abbrev pub if_reached : Interval → Interval → Option Narrowed
if_reached left right = if nat_le left.low left.high && nat_le right.low right.high then Some (narrowed left right) else None

-- the numbers of the intervals that may be in this relation; none if no two are
abbrev pub narrow : Relation → Interval → Interval → Option Narrowed
narrow Same x y = if_reached (common x y) (common x y)
narrow Different x y = if_reached (without x y) (without y x)
narrow Above x y = if_reached (at_least x (y.low + 1)) (at_most y (x.high - 1))
narrow AtLeast x y = if_reached (at_least x y.low) (at_most y x.high)
narrow Below x y = if_reached (at_most x (y.high - 1)) (at_least y (x.low + 1))
narrow AtMost x y = if_reached (at_most x y.high) (at_least y x.low)

-- two intervals unchanged; if both are one number, the edge is reached if the comparison's answer takes it
abbrev pub decide : Condition → Width → Interval → Interval → Bool → Option Narrowed
decide condition width x y taken =
    if is_single x && is_single y
    then (if beq (condition_holds condition width x.low y.low) taken then Some (narrowed x y) else None)
    else Some (narrowed x y)

-- narrowing by the relation of the numbers, if they are compared unchanged
abbrev pub refine_by : Option Relation → Condition → Width → Interval → Interval → Bool → Option Narrowed
refine_by None condition width x y taken = decide condition width x y taken
refine_by (Some relation) condition width x y taken =
    if is_plain condition width x y then narrow relation x y else decide condition width x y taken

-- what is known of two compared numbers, on the edge of a jump that is taken or isn't; none if the edge isn't reached
abbrev pub refine : Condition → Width → Interval → Interval → Bool → Option Narrowed
refine condition width x y taken = refine_by (relation_of condition taken) condition width x y taken
