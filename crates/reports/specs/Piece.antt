-- The pieces of a report.
use Rattle.std.specs.Prelude.{ℕ, List}
use Rattle.reports.specs.Escape.{escaped}
use Rattle.reports.specs.declared.piece.Piece.{Piece}
use Rattle.reports.specs.declared.piece.Piece.TheVariants.{Text, Echo}

-- the bytes that report a piece
abbrev pub reported : Piece → List ℕ
reported (Text text) = text.now
reported (Echo text) = escaped text.now
