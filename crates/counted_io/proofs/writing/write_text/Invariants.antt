use Rattle.std.proofs.Common.{◌≡◌, ℕ, ◌≤◌, length, take, drop}
use Rattle.std.specs.Io.KnownBytes.{Appends}
use Rattle.counted_io.proofs.writing.write_text.Given as goal

-- a front of the text was written, the rest remains, and no fault is counted
abbrev pub invariant-loop-rest : goal.invariant-loop-rest
invariant-loop-rest g l =
    (count : ℕ) × (count ≤ length l.text) × (l.rest ≡ drop count l.text)
    × Appends (g.W.CountedWrite.writer l.initial.out).held (g.W.CountedWrite.writer l.out).held (take count l.text)
    × ((g.W.CountedWrite.writer l.out).counts ≡ (g.W.CountedWrite.writer l.initial.out).counts)

abbrev pub decreases-loop-rest : goal.decreases-loop-rest
decreases-loop-rest g l = length l.rest
