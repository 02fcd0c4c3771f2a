-- The effect of writing a complete text on a writer.
use Rattle.std.specs.Prelude.{◌≡◌, ℕ, List, take, codes, Option, Result, Ok, Err}
use Rattle.std.specs.Io.KnownBytes.{Appends}
use Rattle.refusals.specs.Refusal.{RefusalParts, io}
use Rattle.counted_io.specs.Counting.{CountsFault}
use Rattle.counted_io.specs.ReaderWriter.{Writer}
use Rattle.counted_io.specs.declared.writing.WriteFault.{WriteFault}
use Rattle.counted_io.specs.declared.writing.WriteFault.TheVariants.{Write, WriteZero}

abbrev pub refusal : WriteFault → RefusalParts
refusal Write = io 60 (codes "Write")
refusal WriteZero = io 61 (codes "WriteZero")

-- the known bytes grow by a beginning of the text
pub record AppendsBeginning (old new : Option (List ℕ)) (text : List ℕ) : Type 0 where
  pub count : ℕ
  pub appends : Appends old new (take count text)

-- the text was written completely, or a beginning of it before the fault
abbrev pub WritesText : List ℕ → Result (Unit {0}) WriteFault → Writer → Writer → Type 0
WritesText text (Ok done) old new = Appends old.held new.held text × (new.counts ≡ old.counts)
WritesText text (Err fault) old new = AppendsBeginning old.held new.held text × CountsFault fault old.counts new.counts
