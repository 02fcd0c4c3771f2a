-- The job whose turn is next among the first jobs of a table.
use Rattle.std.specs.List.{Contains}
use Rattle.std.proofs.Common.{◌≡◌, ℕ, ◌<◌, ◌≤◌, inl, inr, List, [], ◌∷◌, ◌++◌, slice_index_or, Option, Some, None, refl, sym, ap}
use Rattle.std.proofs.Common.{◌∙◌, subst, append_assoc, arith}
use Rattle.std.specs.Prelude.{◌⊎◌}
use Rattle.std.specs.List.{All, AllByRecursion}
use Rattle.std.proofs.Math.Nat.{eq-or-lt_of_le}
use Rattle.std.proofs.lemmas.List.{append-nil, map-append}
use Rattle.std.proofs.lemmas.List.Elements.{All-cons, All-nil, All-push, Contains-append_left, Contains-append_right}
use Rattle.jobs.specs.Inside.{Ascend, jobs_of, parts_of}
use Rattle.jobs.specs.Table.{IsBefore, IsNextTurn, JobParts, Table, total_of}
use Rattle.jobs.specs.declared.job.Job.{Job}
use Rattle.jobs.proofs.MapLemmas.{found_among, less_before}

-- among these jobs, this one is unfinished and comes before every other unfinished one
pub record IsFirst (total : ℕ) (jobs : List (ℕ × JobParts)) (id : ℕ) (job : JobParts) : Type 0 where
  pub among : Contains jobs (id, job)
  pub unfinished : job.done < total
  pub first : All (λ other. other.1.done < total → IsBefore (id, job) other) jobs

-- among these jobs: the next one and its number of segments done; or no job, if all are finished, and the total
abbrev pub FirstOf : ℕ → List (ℕ × JobParts) → Option ℕ → ℕ → Type 0
FirstOf total jobs (Some id) least = (job : JobParts) × (job.done ≡ least) × IsFirst total jobs id job
FirstOf total jobs None least = (least ≡ total) × All (λ entry. total ≤ entry.1.done) jobs

-- the jobs so far, and those that are left
pub record IsNextSoFar {A : Type 0} (total : ℕ) (entries left : List (ℕ × Job A)) (next : Option ℕ) (least : ℕ) : Type 0 where
  pub seen : List (ℕ × Job A)
  pub split : entries ≡ seen ++ left
  pub first : FirstOf total (jobs_of seen) next least

pub none_seen : {A : Type 0} (total : ℕ) (entries : List (ℕ × Job A)) (least : ℕ) → least ≡ total
    → IsNextSoFar total entries entries None least
none_seen total entries least is = record { seen = []; split = refl; first = (is, λ k d inside. absurd (omega arith)) }

-- all jobs seen have ids below that of a later one
before_all : {A : Type 0} (seen : List (ℕ × Job A)) (id : ℕ) → AllByRecursion (λ (before : ℕ × Job A). before.0 < id) seen
    → All (λ other. other.0 < id) (jobs_of seen)
before_all [] id below = All-nil _
before_all (first ∷ seen) id below =
    All-cons (λ (other : ℕ × JobParts). other.0 < id) (first.0, parts_of first.1) (jobs_of seen) below.0 (before_all seen id below.1)

-- the next of these jobs has at most the total number of segments done
least-le : (total : ℕ) (jobs : List (ℕ × JobParts)) (next : Option ℕ) (least : ℕ) → FirstOf total jobs next least → least ≤ total
least-le total jobs None least first = let is = first.0 in omega arith
least-le total jobs (Some id) least (job, is, next) = let unfinished = next.unfinished in omega arith

-- a later job, with a greater id, that doesn't have fewer segments done
first_same : (total : ℕ) (jobs : List (ℕ × JobParts)) (next : Option ℕ) (least : ℕ) (entry : ℕ × JobParts)
    → All (λ other. other.0 < entry.0) jobs → least ≤ entry.1.done → FirstOf total jobs next least
    → FirstOf total (jobs ++ entry ∷ []) next least
first_same total jobs None least entry below further first =
    (first.0, All-push (λ (entry : ℕ × JobParts). total ≤ entry.1.done) jobs entry first.1 (let is = first.0 in omega arith))
first_same total jobs (Some id) least entry below further (job, is, next) = (
  job,
  is,
  record {
    among = Contains-append_left jobs (entry ∷ []) (id, job) next.among;
    unfinished = next.unfinished;
    first = All-push (λ (other : ℕ × JobParts). other.1.done < total → IsBefore (id, job) other) jobs entry next.first
        (λ unfinished. before (eq-or-lt_of_le {n = job.done} {m = entry.1.done} (omega (arith, is))));
  },
)
  where
    less : id < entry.0
    less =
        let found = next.among in
        subst (λ (e : ℕ × JobParts). e.0 < entry.0) found.2 (below found.0 (id, job) found.1)

    before : (job.done ≡ entry.1.done) ⊎ (job.done < entry.1.done) → IsBefore (id, job) entry
    before (inl same) = inr (same, (let below = less in omega arith))
    before (inr nearer) = inl nearer

-- a later job that has fewer segments done
first_changed : (total : ℕ) (jobs : List (ℕ × JobParts)) (next : Option ℕ) (least : ℕ) (entry : ℕ × JobParts) → entry.1.done < least
    → FirstOf total jobs next least → FirstOf total (jobs ++ entry ∷ []) (Some entry.0) entry.1.done
first_changed total jobs next least entry back first = (
  entry.1,
  refl,
  record {
    among = Contains-append_right jobs (entry ∷ []) entry (0, (omega arith), refl);
    unfinished = (let few = least-le total jobs next least first in omega arith);
    first = All-push (λ (other : ℕ × JobParts). other.1.done < total → IsBefore entry other) jobs entry (others next first)
        (λ unfinished. inr (refl, (omega arith)));
  },
)
  where
    further : (id : ℕ) (job : JobParts) (other : ℕ × JobParts) → job.done ≡ least → IsBefore (id, job) other → IsBefore entry other
    further id job other is (inl nearer) = inl (omega arith)
    further id job other is (inr same) = inl (let same_done = same.0 in omega arith)

    others : (next : Option ℕ) → FirstOf total jobs next least → All (λ other. other.1.done < total → IsBefore entry other) jobs
    others None first = λ k d inside unfinished. absurd (let finished = first.1 k d inside in omega arith)
    others (Some id) (job, is, next) = λ k d inside unfinished. further id job (slice_index_or jobs k d) is
        (next.first k d inside unfinished)

module _ {A : Type 0} (total : ℕ) (entries : List (ℕ × Job A)) (entry : ℕ × Job A) (left rest : List (ℕ × Job A)) (last_id : ℕ)
    (ascend : Ascend 0 entries last_id) (next : Option ℕ) (least : ℕ) (so_far : IsNextSoFar total entries left next least)
    (splits : left ≡ entry ∷ rest) where
  jobs_more : jobs_of (so_far.seen ++ entry ∷ []) ≡ jobs_of so_far.seen ++ (entry.0, parts_of entry.1) ∷ []
  jobs_more = map-append (λ (entry : ℕ × Job A). (entry.0, parts_of entry.1)) so_far.seen (entry ∷ [])

  split_here : entries ≡ so_far.seen ++ entry ∷ rest
  split_here = so_far.split ∙ ap (λ left. so_far.seen ++ left) splits

  split_more : entries ≡ (so_far.seen ++ entry ∷ []) ++ rest
  split_more = split_here ∙ sym (append_assoc so_far.seen (entry ∷ []) rest)

  pub next_same : least ≤ entry.1.cursor.done → IsNextSoFar total entries rest next least
  next_same further = record {
    seen = so_far.seen ++ entry ∷ [];
    split = split_more;
    first =
        let below = (less_before 0 so_far.seen entry rest last_id (subst (λ entries. Ascend 0 entries last_id) split_here ascend)).1 in
        subst (λ jobs. FirstOf total jobs next least) (sym jobs_more)
        (first_same total (jobs_of so_far.seen) next least (entry.0, parts_of entry.1)
        (before_all so_far.seen entry.0 below) further so_far.first);
  }

  pub next_changed : entry.1.cursor.done < least → IsNextSoFar total entries rest (Some entry.0) entry.1.cursor.done
  next_changed back = record {
    seen = so_far.seen ++ entry ∷ [];
    split = split_more;
    first =
        subst (λ jobs. FirstOf total jobs (Some entry.0) entry.1.cursor.done) (sym jobs_more)
        (first_changed total (jobs_of so_far.seen) next least (entry.0, parts_of entry.1) back so_far.first);
  }

-- the next of all jobs
pub all_seen : {A : Type 0} (total : ℕ) (entries left : List (ℕ × Job A)) (next : Option ℕ) (least : ℕ)
    → IsNextSoFar total entries left next least → left ≡ [] → FirstOf total (jobs_of entries) next least
all_seen total entries left next least so_far none =
    subst (λ entries. FirstOf total (jobs_of entries) next least)
    (sym (so_far.split ∙ ap (λ left. so_far.seen ++ left) none ∙ append-nil so_far.seen)) so_far.first

pub next_turn_is : (table : Table) (next : Option ℕ) (least : ℕ) → Ascend 0 table.jobs table.last_id
    → FirstOf (total_of table) table.jobs next least → IsNextTurn table next
next_turn_is table None least ascend first = first.1
next_turn_is table (Some id) least ascend (job, is, next) = (
  job,
  record {
    there = found_among table.jobs table.last_id id job ascend next.among;
    unfinished = next.unfinished;
    first = next.first;
  },
)
