-- The laws of an order of what is known of something. They hold of proper values.
use Rattle.std.specs.Prelude.{◌≡◌}

-- a partial order, in which joins are least upper bounds, and a value admits at least what a value within it admits
pub record IsOrder {Value Element : Type 0} (IsProper : Value → Type 0) (Admits : Value → Element → Type 0)
    (IsWithin : Value → Value → Type 0) (join : Value → Value → Value) : Type 0 where
  pub reflexive : (x : Value) → IsProper x → IsWithin x x
  pub transitive : (x y z : Value) → IsProper x → IsProper y → IsProper z → IsWithin x y → IsWithin y z → IsWithin x z
  pub antisymmetric : (x y : Value) → IsProper x → IsProper y → IsWithin x y → IsWithin y x → x ≡ y
  pub join_is_proper : (x y : Value) → IsProper x → IsProper y → IsProper (join x y)
  pub left_is_within_join : (x y : Value) → IsProper x → IsProper y → IsWithin x (join x y)
  pub right_is_within_join : (x y : Value) → IsProper x → IsProper y → IsWithin y (join x y)
  pub join_is_least : (x y z : Value) → IsProper x → IsProper y → IsProper z → IsWithin x z → IsWithin y z → IsWithin (join x y) z
  pub admits_more : (x y : Value) (element : Element) → IsProper x → IsProper y → IsWithin x y → Admits x element → Admits y element
