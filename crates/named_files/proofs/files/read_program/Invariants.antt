use Rattle.std.proofs.Common.{◌≡◌, ℕ, ◌%◌, List, length, take}
use Rattle.std.specs.Io.KnownBytes.{Consumes}
use Rattle.named_files.specs.declared.files.TheConstants.{MAX_STORED_BYTES}
use Rattle.named_files.proofs.files.read_program.Given as goal

-- the stored bytes are a prefix of what was read, and no read failed
abbrev pub invariant-loop : goal.invariant-loop
invariant-loop g l =
    (taken : List ℕ) × Consumes (g.R.CountedRead.reader l.initial.input).left (g.R.CountedRead.reader l.input).left taken
    × (l.stored.items ≡ take MAX_STORED_BYTES taken) × (l.remainder ≡ length taken % 8)
    × ((g.R.CountedRead.reader l.input).failed ≡ (g.R.CountedRead.reader l.initial.input).failed)
