-- Kinds: what is known of a value. A number lies in an interval, a pointer into one of the areas has its offset in one, and nothing is known of any
-- other value, not even that it exists.
use Rattle.std.specs.Prelude.{◌≡◌, List, [], ◌∷◌}
use Rattle.bpf_insn.specs.declared.value.Area.TheVariants as area
use Rattle.bpf_insn.specs.declared.value.Value.{Value}
use Rattle.bpf_insn.specs.declared.value.Value.TheVariants as value
use Rattle.bpf_kinds.specs.Interval as interval
use Rattle.bpf_kinds.specs.Offsets as offsets
use Rattle.bpf_kinds.specs.declared.kind.Kind.{Kind}
use Rattle.bpf_kinds.specs.declared.kind.Kind.TheVariants.{Number, Record, Frame, Nothing}

-- the interval is proper, if there is one
abbrev pub IsProper : Kind → Type 0
IsProper (Number x) = interval.IsProper x
IsProper (Record x) = offsets.IsProper x
IsProper (Frame x) = offsets.IsProper x
IsProper Nothing = Unit {0}

-- the values of a kind
abbrev pub Admits : Kind → Value → Type 0
Admits (Number x) (value.Number n) = interval.Admits x n
Admits (Record x) (value.Pointer pointer) = (pointer.area ≡ area.Record) × offsets.Admits x pointer.offset
Admits (Frame x) (value.Pointer pointer) = (pointer.area ≡ area.Frame) × offsets.Admits x pointer.offset
Admits Nothing held = Unit {0}
Admits kind held = ⊥

-- a kind lies within another: its interval does, and every kind lies within Nothing
abbrev pub IsWithin : Kind → Kind → Type 0
IsWithin (Number x) (Number y) = interval.IsWithin x y
IsWithin (Record x) (Record y) = offsets.IsWithin x y
IsWithin (Frame x) (Frame y) = offsets.IsWithin x y
IsWithin kind Nothing = Unit {0}
IsWithin kind other = ⊥

-- the least kind that contains two others; nothing is known of a join of different ones
abbrev pub join : Kind → Kind → Kind
join (Number x) (Number y) = Number (interval.join x y)
join (Record x) (Record y) = Record (offsets.join x y)
join (Frame x) (Frame y) = Frame (offsets.join x y)
join kind other = Nothing

-- the joins of the kinds of two lists, one by one
abbrev pub join_kinds : List Kind → List Kind → List Kind
join_kinds (x ∷ xs) (y ∷ ys) = join x y ∷ join_kinds xs ys
join_kinds xs ys = []
