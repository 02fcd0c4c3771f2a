use Rattle.std.proofs.Common.{◌≡◌, ℕ, List, take}
use Rattle.std.specs.Io.KnownBytes.{Consumes}
use Rattle.named_files.proofs.files.read_prefix.Given as goal

-- a prefix of what was read is stored, and no read has failed
abbrev pub invariant-loop : goal.invariant-loop
invariant-loop g l =
    (taken : List ℕ) × Consumes (g.R.CountedRead.reader l.initial.reader).left (g.R.CountedRead.reader l.reader).left taken
    × (l.prefix.items ≡ take l.limit taken)
    × ((g.R.CountedRead.reader l.reader).failed ≡ (g.R.CountedRead.reader l.initial.reader).failed)
