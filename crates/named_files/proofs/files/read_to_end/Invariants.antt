use Rattle.std.proofs.Common.{◌≡◌}
use Rattle.std.specs.Io.KnownBytes.{Consumes}
use Rattle.named_files.proofs.files.read_to_end.Given as goal

-- the bytes are what was read, and no read failed
abbrev pub invariant-loop : goal.invariant-loop
invariant-loop g l = record {
  read : Consumes (g.R.CountedRead.reader l.initial.reader).left (g.R.CountedRead.reader l.reader).left l.bytes.items;
  reads : (g.R.CountedRead.reader l.reader).failed ≡ (g.R.CountedRead.reader l.initial.reader).failed;
}
