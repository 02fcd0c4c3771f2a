-- What a fault of the arguments reports.
use Rattle.std.specs.Prelude.{[], ◌∷◌, ◌++◌, codes}
use Rattle.counted_io.specs.ReaderWriter.{Writer}
use Rattle.commands.specs.Failure.{ReportsText}

-- it was reported that an argument isn't UTF-8
abbrev pub ReportsNotUtf8 : Writer → Writer → Type 0
ReportsNotUtf8 errors errors' = ReportsText (codes "error: an argument isn't UTF-8" ++ 10 ∷ []) errors errors'
