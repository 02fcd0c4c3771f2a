-- Marks stay when there are more of them, and when one more is set.
use Rattle.std.proofs.Common.{◌≡◌, ℕ, zero, suc, ◌<◌, Bool, true, false, IsTrue, List, [], ◌∷◌, length, slice_index_or, slice_set, refl, ◌∙◌, arith}

-- a place with a mark is within the list
marked_within : (marks : List Bool) (place : ℕ) → IsTrue (slice_index_or marks place false) → place < length marks
marked_within [] zero is = absurd (let no : ⊥ = cc in no)
marked_within [] (suc place) is = absurd (let no : ⊥ = cc in no)
marked_within (mark ∷ marks) zero is = omega arith
marked_within (mark ∷ marks) (suc place) is = omega (arith, marked_within marks place is)

-- a mark stays in a longer list
pub kept_in_longer : (old new : List Bool) (end place : ℕ)
    → ((k : ℕ) (default : Bool) → k < end → k < length old → slice_index_or new k default ≡ slice_index_or old k default) → place < end
    → IsTrue (slice_index_or old place false) → IsTrue (slice_index_or new place false)
kept_in_longer old new end place same within is = same place false within (marked_within old place is) ∙ is

-- a mark stays when one is set
pub kept_beside : (marks : List Bool) (place other : ℕ) → IsTrue (slice_index_or marks other false)
    → IsTrue (slice_index_or (slice_set marks place true) other false)
kept_beside [] place other is = is
kept_beside (mark ∷ marks) zero zero is = refl
kept_beside (mark ∷ marks) zero (suc other) is = is
kept_beside (mark ∷ marks) (suc place) zero is = is
kept_beside (mark ∷ marks) (suc place) (suc other) is = kept_beside marks place other is
