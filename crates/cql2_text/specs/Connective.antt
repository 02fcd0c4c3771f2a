-- The conjunction and the disjunction of two filters, and the negation of one.
use Rattle.std.specs.Prelude.{◌≡◌}
use Rattle.std.specs.declared.boxed.Box.{Box}
use Rattle.cql2.specs.declared.filter.Filter.{Filter}
use Rattle.cql2.specs.declared.filter.Filter.TheVariants as filter

abbrev pub IsBoth : {A : Type 0} → Filter A → Filter A → Filter A → Type 0
IsBoth {A = A} first second made = (p : Box (Unit {0}) A) × ((q : Box (Unit {0}) A) × (made ≡ filter.And' p first q second))

abbrev pub IsEither : {A : Type 0} → Filter A → Filter A → Filter A → Type 0
IsEither {A = A} first second made = (p : Box (Unit {0}) A) × ((q : Box (Unit {0}) A) × (made ≡ filter.Or' p first q second))

abbrev pub IsNot : {A : Type 0} → Filter A → Filter A → Type 0
IsNot {A = A} inner made = (p : Box (Unit {0}) A) × (made ≡ filter.Not' p inner)
