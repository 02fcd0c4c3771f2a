-- The number of unfinished jobs among those of a map.
use Rattle.std.proofs.Common.{◌≡◌, ℕ, ◌+◌, ◌<◌, ◌≤◌, Bool, true, false, List, [], ◌∷◌, length, sym, ap, ◌∙◌, arith}
use Rattle.std.specs.Prelude.{nat_lt, if◌then◌else◌}
use Rattle.std.proofs.lemmas.Bool.Decides.{nat_tests}
use Rattle.jobs.specs.Inside.{jobs_of}
use Rattle.jobs.specs.Progress.{unfinished}
use Rattle.jobs.specs.declared.job.Job.{Job}

-- the number so far, and that of the jobs left, are that of all
abbrev pub Remain : {A : Type 0} → ℕ → List (ℕ × Job A) → ℕ → ℕ → Type 0
Remain total entries running all = running + unfinished total (jobs_of entries) ≡ all

pub unfinished-le : {A : Type 0} (total : ℕ) (entries : List (ℕ × Job A)) → unfinished total (jobs_of entries) ≤ length entries
unfinished-le total [] = omega arith
unfinished-le total (entry ∷ entries) = by_test (nat_lt entry.1.cursor.done total) (unfinished-le total entries)
  where
    by_test : (test : Bool) → unfinished total (jobs_of entries) ≤ length entries
        → (if test then 1 else 0) + unfinished total (jobs_of entries) ≤ length (entry ∷ entries)
    by_test true few = omega arith
    by_test false few = omega arith

module _ {A : Type 0} (total running all : ℕ) (entry : ℕ × Job A) (before entries : List (ℕ × Job A))
    (so_far : Remain total before running all) (split : before ≡ entry ∷ entries) where
  by_test : (test : Bool) → nat_lt entry.1.cursor.done total ≡ test
      → running + ((if test then 1 else 0) + unfinished total (jobs_of entries)) ≡ all
  by_test test is =
      sym (ap (λ (left : List (ℕ × Job A)). running + unfinished total (jobs_of left)) split
      ∙ ap (λ (test : Bool). running + ((if test then 1 else 0) + unfinished total (jobs_of entries))) is) ∙ so_far

  pub counted : entry.1.cursor.done < total → Remain total entries (running + 1) all
  counted less = let is = by_test true (grind (arith, nat_tests)) in omega arith

  pub not_counted : total ≤ entry.1.cursor.done → Remain total entries running all
  not_counted finished = let is = by_test false (grind (arith, nat_tests)) in omega arith

pub so_far-le : {A : Type 0} (total running : ℕ) (entries all whole : List (ℕ × Job A))
    → Remain total entries running (unfinished total (jobs_of all)) → all ≡ whole → running ≤ length whole
so_far-le total running entries all whole so_far same =
    let few = unfinished-le total all in
    let equal : length all ≡ length whole = ap length same in
    omega arith
