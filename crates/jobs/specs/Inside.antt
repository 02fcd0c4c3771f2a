-- Internal definitions: a job's cursor among segments, the table that a map of jobs stands for, and its invariant.
use Rattle.std.specs.Prelude.{◌≡◌, ℕ, ◌^◌, ◌<◌, ◌≤◌, List, [], ◌∷◌, ◌++◌, length, drop, map, All}
use Rattle.std.specs.Map.{values_of}
use Rattle.tl_segments.specs.County.{CountyParts}
use Rattle.tl_segments.specs.Segment.{SegmentParts}
use Rattle.jobs.specs.Segments.{segments_of}
use Rattle.jobs.specs.Table.{JobParts}
use Rattle.jobs.specs.declared.job.Job.{Job}
use Rattle.jobs.specs.declared.cursor.Cursor.{Cursor}
use Rattle.jobs.specs.declared.cursor.TheConstants.{MAX_COUNTIES}

-- the segments of the first county without its first `segment` ones, and those of the other counties
abbrev pub segments_after : ℕ → List CountyParts → List SegmentParts
segments_after segment [] = []
segments_after segment (county ∷ counties) = drop segment county.segments ++ segments_of counties

-- the segments left at a cursor
abbrev pub left_at : List CountyParts → Cursor → List SegmentParts
left_at counties cursor = segments_after cursor.segment (drop cursor.county counties)

-- a cursor after the segments that are done, in counties whose segments can be counted in 64 bits
pub record IsCursorIn (counties : List CountyParts) (cursor : Cursor) : Type 0 where
  pub within : cursor.done ≤ length (segments_of counties)
  pub few : length (segments_of counties) < 2 ^ 64
  pub left : left_at counties cursor ≡ drop cursor.done (segments_of counties)

-- a job as contracts see it: without its machine and without the way it finds its next segment
abbrev pub parts_of : {A : Type 0} → Job A → JobParts
parts_of job = record { code = job.verified.code; done = job.cursor.done; rows = job.rows.items }

-- the jobs of a map's entries, by their ids
abbrev pub jobs_of : {A : Type 0} → List (ℕ × Job A) → List (ℕ × JobParts)
jobs_of entries = map (λ entry. (entry.0, parts_of entry.1)) entries

-- the ids ascend from one above `low` to at most `high`
abbrev pub Ascend : {X : Type 0} → ℕ → List (ℕ × X) → ℕ → Type 0
Ascend low [] high = Unit {0}
Ascend low (entry ∷ entries) high = (low < entry.0) × (entry.0 ≤ high) × Ascend entry.0 entries high

-- The counties are within the limit, and the total is the number of their segments. Ids ascend, up to at most the last one. Each job's cursor
-- agrees with its number of segments.
pub record IsTable {A : Type 0} (counties : List CountyParts) (total : ℕ) (entries : List (ℕ × Job A)) (last_id : ℕ) : Type 0 where
  pub within : length counties ≤ MAX_COUNTIES
  pub counted : total ≡ length (segments_of counties)
  pub few : length (segments_of counties) < 2 ^ 64
  pub ascend : Ascend 0 entries last_id
  pub cursors : All (λ job. IsCursorIn counties job.cursor) (values_of entries)
