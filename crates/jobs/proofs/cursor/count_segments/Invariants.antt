use Rattle.std.proofs.Common.{◌≡◌, ◌*◌, ◌^◌, ◌≤◌, length, take}
use Rattle.jobs.specs.Segments.{segments_of}
use Rattle.jobs.proofs.cursor.count_segments.Given as goal

abbrev pub invariant-loop-county : goal.invariant-loop-county
invariant-loop-county g l = (l.total ≡ length (segments_of (take l.county-index l.counties))) × (l.total ≤ l.county-index * 2 ^ 32)
