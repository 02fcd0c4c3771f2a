-- The effect of a change to a map of jobs on the table that it stands for.
use Rattle.std.proofs.Common.{◌≡◌, ◌≢◌, ℕ, ◌+◌, ◌-◌, ◌^◌, ◌<◌, nat_eq, inl, inr, List, [], ◌∷◌, ◌++◌, length, Option, Some, sym, ap, ◌∙◌}
use Rattle.std.proofs.Common.{subst, arith}
use Rattle.std.specs.BTreeMap.{insert_entry, is_at}
use Rattle.std.specs.List.{All}
use Rattle.std.specs.Map.{lookup, remove_entry, set_value, values_of}
use Rattle.std.specs.Option.{option_map}
use Rattle.std.specs.Ordering.{nat_cmp}
use Rattle.std.proofs.lemmas.List.{length-map}
use Rattle.std.proofs.lemmas.Map.Steps.{set_value_same}
use Rattle.std.proofs.lemmas.Map.Views.{All-values-insert_entry, All-map-remove_entry, All-values-set_value}
use Rattle.tl_segments.specs.County.{CountyParts}
use Rattle.jobs.specs.Inside.{Ascend, IsCursorIn, IsTable, jobs_of, parts_of}
use Rattle.jobs.specs.Table.{IsFull}
use Rattle.jobs.specs.declared.job.Job.{Job}
use Rattle.jobs.specs.declared.table.TheConstants.{MAX_JOBS}
use Rattle.jobs.proofs.MapLemmas.{Ascend-push, Ascend-remove, Ascend-set, insert_entry-last, insert_entry-seen, lookup-seen}
use Rattle.jobs.proofs.MapLemmas.{remove_entry-seen, set_value-seen}

module _ {A : Type 0} (counties : List CountyParts) (total : ℕ) (entries : List (ℕ × Job A)) (last_id : ℕ)
    (is : IsTable counties total entries last_id) where
  same_counties : (others : List (ℕ × Job A)) (new_id : ℕ) → Ascend 0 others new_id
      → All (λ (job : Job A). IsCursorIn counties job.cursor) (values_of others) → IsTable counties total others new_id
  same_counties others new_id ascend cursors =
      record { within = is.within; counted = is.counted; few = is.few; ascend = ascend; cursors = cursors }

  -- one more job
  pub table_pushed : (job : Job A) → IsCursorIn counties job.cursor
      → IsTable counties total (insert_entry nat_cmp entries (last_id + 1) job) (last_id + 1)
  table_pushed job cursor = same_counties _ _
      (subst (λ entries. Ascend 0 entries (last_id + 1))
      (sym (insert_entry-last 0 entries last_id (last_id + 1) job is.ascend (omega arith)))
      (Ascend-push 0 entries last_id (last_id + 1) job (omega arith) (omega arith) is.ascend))
      (All-values-insert_entry nat_cmp (last_id + 1) job (λ (job : Job A). IsCursorIn counties job.cursor) entries is.cursors
      cursor)

  pub jobs_pushed : (job : Job A) → jobs_of (insert_entry nat_cmp entries (last_id + 1) job) ≡ jobs_of
      entries ++ (last_id + 1, parts_of job) ∷ []
  jobs_pushed job = insert_entry-seen parts_of 0 entries last_id (last_id + 1) job is.ascend (omega arith)

  -- one job changed
  pub table_changed : (id : ℕ) (job : Job A) → IsCursorIn counties job.cursor
      → IsTable counties total (set_value (is_at (nat_cmp id)) entries job) last_id
  table_changed id job cursor = same_counties _ _ (Ascend-set (is_at (nat_cmp id)) 0 entries last_id job is.ascend)
      (All-values-set_value (is_at (nat_cmp id)) (λ (job : Job A). IsCursorIn counties job.cursor) entries job is.cursors cursor)

  pub jobs_changed : (id : ℕ) (job : Job A) → jobs_of (set_value (is_at (nat_cmp id)) entries job) ≡ set_value (nat_eq id) (jobs_of entries)
      (parts_of job)
  jobs_changed id job = set_value-seen parts_of id entries job

  -- a job replaced by one that looks the same
  pub jobs_unchanged : (id : ℕ) (old new : Job A) → Some old ≡ lookup (is_at (nat_cmp id)) entries → parts_of new ≡ parts_of old
      → jobs_of (set_value (is_at (nat_cmp id)) entries new) ≡ jobs_of entries
  jobs_unchanged id old new found same =
      jobs_changed id new
      ∙ ap (λ job. set_value (nat_eq id) (jobs_of entries) job) same
      ∙ sym (jobs_changed id old)
      ∙ ap jobs_of (set_value_same (is_at (nat_cmp id)) entries old (sym found))

  -- one job fewer
  pub table_removed : (id : ℕ) → IsTable counties total (remove_entry (is_at (nat_cmp id)) entries) last_id
  table_removed id = same_counties _ _ (Ascend-remove (is_at (nat_cmp id)) 0 entries last_id is.ascend)
      (All-map-remove_entry (is_at (nat_cmp id)) (λ (e : ℕ × Job A). e.1) (λ (job : Job A). IsCursorIn counties job.cursor) entries
      is.cursors)

  pub jobs_removed : (id : ℕ) → jobs_of (remove_entry (is_at (nat_cmp id)) entries) ≡ remove_entry (nat_eq id) (jobs_of entries)
  jobs_removed id = remove_entry-seen parts_of id entries

  -- the job that is found
  pub job_found : (id : ℕ) (found : Option (Job A)) → found ≡ lookup (is_at (nat_cmp id)) entries
      → lookup (nat_eq id) (jobs_of entries) ≡ option_map parts_of found
  job_found id found is = lookup-seen parts_of id entries ∙ ap (λ found. option_map parts_of found) (sym is)

  -- another job can be opened
  pub room : length entries < MAX_JOBS → last_id ≢ 2 ^ 64 - 1
      → IsFull (record { counties = counties; jobs = jobs_of entries; last_id = last_id }) → ⊥
  room few more (inl many) = let count : length (jobs_of entries) ≡ length entries =
      length-map entries (λ (e : ℕ × Job A). (e.0, parts_of e.1)) in absurd (omega (arith, count))
  room few more (inr last) = more last
