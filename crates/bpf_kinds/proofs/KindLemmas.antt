-- The order of kinds: the laws of the trait, stated for the definitions alone. Not all of them need proper kinds.
use Rattle.std.proofs.Common.{◌≡◌, rules}
use Rattle.bpf_insn.specs.declared.value.Value.{Value}
use Rattle.bpf_kinds.specs.Kind.{IsProper, Admits, IsWithin, join}
use Rattle.bpf_kinds.specs.declared.kind.Kind.{Kind}
use Rattle.bpf_kinds.specs.declared.kind.Kind.TheVariants.{Nothing}

pub reflexive : (x : Kind) → IsWithin x x
reflexive = search rules

pub transitive : (x y z : Kind) → IsWithin x y → IsWithin y z → IsWithin x z
transitive = search rules

pub antisymmetric : (x y : Kind) → IsProper x → IsProper y → IsWithin x y → IsWithin y x → x ≡ y
antisymmetric = search rules

pub join-proper : (x y : Kind) → IsProper x → IsProper y → IsProper (join x y)
join-proper = search rules

pub left-within_join : (x y : Kind) → IsProper x → IsProper y → IsWithin x (join x y)
left-within_join = search rules

pub right-within_join : (x y : Kind) → IsProper x → IsProper y → IsWithin y (join x y)
right-within_join = search rules

pub join-least : (x y z : Kind) → IsWithin x z → IsWithin y z → IsWithin (join x y) z
join-least = search rules

pub admits_more : (x y : Kind) (held : Value) → IsWithin x y → Admits x held → Admits y held
admits_more = search rules

-- every kind lies within Nothing
pub within-nothing : (x : Kind) → IsWithin x Nothing
within-nothing = search rules
