-- Comparisons (CQL2, 21-065r2, binary comparison predicates).
use Rattle.std.specs.Prelude.{ℕ, ℤ, Bool, not, List, int_lt, int_le}
use Rattle.std.specs.Ordering.{int_eq}
use Rattle.cql2.specs.Text.{is_less, is_same}
use Rattle.cql2.specs.declared.filter.Comparison.{Comparison}
use Rattle.cql2.specs.declared.filter.Comparison.TheVariants.{Equal, NotEqual, Less, LessOrEqual, Greater, GreaterOrEqual}

abbrev pub compares : Comparison → ℤ → ℤ → Bool
compares Equal x y = int_eq x y
compares NotEqual x y = not (int_eq x y)
compares Less x y = int_lt x y
compares LessOrEqual x y = int_le x y
compares Greater x y = int_lt y x
compares GreaterOrEqual x y = int_le y x

abbrev pub compares_text : Comparison → List ℕ → List ℕ → Bool
compares_text Equal text other = is_same text other
compares_text NotEqual text other = not (is_same text other)
compares_text Less text other = is_less text other
compares_text LessOrEqual text other = not (is_less other text)
compares_text Greater text other = is_less other text
compares_text GreaterOrEqual text other = not (is_less text other)
