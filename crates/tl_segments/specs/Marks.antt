-- Marks of the numbers that a table has.
use Rattle.std.specs.Prelude.{ℕ, ◌%◌, ◌^◌, Bool, false, IsSome, IsTrue, slice_index_or}
use Rattle.std.specs.BTreeMap.{BTreeMap, get}
use Rattle.std.specs.Ordering.{nat_cmp}
use Rattle.tl_segments.specs.declared.marks.Marks.{Marks}

-- numbers are marked by their lowest 16 bits
abbrev pub mark_place : ℕ → ℕ
mark_place number = number % 2 ^ 16

abbrev pub is_marked : {A : Type 0} → Marks A → ℕ → Bool
is_marked marks number = slice_index_or marks.marks.items (mark_place number) false

-- all numbers with a list are marked
abbrev pub AreMarked : {V A : Type 0} → BTreeMap ℕ V → Marks A → Type 0
AreMarked lists marks = (number : ℕ) → IsSome (get nat_cmp lists number) → IsTrue (is_marked marks number)
