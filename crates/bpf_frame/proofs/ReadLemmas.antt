-- The test of a run of marks reports whether each of its bytes is marked.
use Rattle.std.proofs.Common.{◌≡◌, ◌↔◌, ℕ, zero, suc, ◌+◌, ◌-◌, ◌<◌, ◌≤◌, min, Bool, true, false, List, [], ◌∷◌, length, get_or, take, drop}
use Rattle.std.proofs.Common.{refl, ◌∙◌, sym, ap, arith}
use Rattle.std.specs.Prelude.{IsTrue}
use Rattle.std.specs.List.{list_all}
use Rattle.std.proofs.lemmas.Bool.{and_parts, and_from}
use Rattle.std.proofs.lemmas.List.{length-take, length-drop, get_or-take, get_or-drop}
use Rattle.bpf_frame.specs.FrameMap.{IsMarked, AllWritten, all_written}

-- all marks are set if each one is, and conversely
each_from_all : (marks : List Bool) → IsTrue (list_all (λ mark. mark) marks) → (at : ℕ) → at < length marks → get_or marks at false ≡ true
each_from_all [] all at within = absurd (omega arith)
each_from_all (mark ∷ marks) all zero within = (and_parts _ _ all).0
each_from_all (mark ∷ marks) all (suc at) within = each_from_all marks (and_parts _ _ all).1 at (omega arith)

all_from_each : (marks : List Bool) → ((at : ℕ) → at < length marks → get_or marks at false ≡ true) → IsTrue (list_all (λ mark. mark) marks)
all_from_each [] each = refl
all_from_each (mark ∷ marks) each = and_from _ _ (each 0 (omega arith)) (all_from_each marks (λ at within. each (suc at) (omega arith)))

length-part : (marks : List Bool) (from k : ℕ) → length (take k (drop from marks)) ≡ min k (length marks - from)
length-part marks from k = length-take k (drop from marks) ∙ ap (min k) (length-drop from marks)

get_or-part : (marks : List Bool) (from k at : ℕ) → at < k → get_or (take k (drop from marks)) at false ≡ get_or marks (from + at) false
get_or-part marks from k at within = get_or-take k (drop from marks) at false within ∙ get_or-drop from marks at false

-- the test of a range of bytes covers each of them that is in the frame, and no others
pub written_at : (marks : List Bool) (from to at : ℕ) → from ≤ at → at ≤ to → at < length marks → IsTrue (all_written marks from to)
    → IsMarked marks at
written_at marks from to at above below within all =
    let k : ℕ = to + 1 - from in
    let same : at ≡ from + (at - from) = omega arith in
    ap (λ (n : ℕ). get_or marks n false) same
    ∙ sym (get_or-part marks from k (at - from) (omega arith))
    ∙ each_from_all (take k (drop from marks)) all (at - from) (omega (arith, length-part marks from k))

pub written_from : (marks : List Bool) (from to : ℕ) → ((at : ℕ) → from ≤ at → at ≤ to → at < length marks → IsMarked marks at)
    → IsTrue (all_written marks from to)
written_from marks from to each =
    let k : ℕ = to + 1 - from in
    let long = length-part marks from k in
    all_from_each (take k (drop from marks))
    (λ at short. get_or-part marks from k at (omega arith) ∙ each (from + at) (omega arith) (omega arith) (omega arith))

-- the test of a range of bytes reports whether each of them is marked
pub all_written_is : (marks : List Bool) (from to : ℕ) → from ≤ to → to < length marks → IsTrue (all_written marks from to)
    ↔ AllWritten marks from to
all_written_is marks from to ordered within = (
  (λ all at above below. written_at marks from to at above below (omega arith) all),
  (λ all. written_from marks from to (λ at above below _. all at above below)),
)
