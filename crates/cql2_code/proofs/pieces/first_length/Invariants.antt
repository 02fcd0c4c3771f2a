use Rattle.std.proofs.Common.{◌≡◌, ◌+◌, length, drop}
use Rattle.cql2_code.specs.Pieces.{pieces_of}
use Rattle.cql2_code.proofs.pieces.first_length.Given as goal

abbrev pub invariant-loop-part : goal.invariant-loop-part
invariant-loop-part l = (l.count ≡ l.part-index)
    × (l.count + length (pieces_of (drop l.part-index l.pattern)).first ≡ length (pieces_of l.pattern).first)
