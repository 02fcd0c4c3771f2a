-- The content of a line: its bytes up to a line feed, read from a reader.
use Rattle.std.specs.Prelude.{◌≡◌, ◌≢◌, ℕ, ◌≤◌, List, [], ◌∷◌, ◌++◌, length, All, Option, Some, None, Result, Ok, Err}
use Rattle.std.specs.Io.KnownBytes.{Consumes, IsAtEnd}
use Rattle.counted_io.specs.Counting.{next_count}
use Rattle.counted_io.specs.ReaderWriter.{Reader}
use Rattle.counted_io.specs.declared.content.Stop.{Stop}
use Rattle.counted_io.specs.declared.content.Stop.TheVariants.{LineFeed, EndOfInput, TooLong, ReadFailed}

-- no byte is the line feed, 10
abbrev pub HasNoLineFeed : List ℕ → Type 0
HasNoLineFeed bytes = All (λ b. b ≢ 10) bytes

-- the effect of reading one byte on the reader
abbrev pub IsByteRead : {E : Type 0} → Reader → Reader → Result (Option ℕ) E → Type 0
IsByteRead old new (Ok (Some byte)) = (new.failed ≡ old.failed) × Consumes old.left new.left (byte ∷ [])
IsByteRead old new (Ok None) = (new.failed ≡ old.failed) × Consumes old.left new.left [] × IsAtEnd new.left
IsByteRead old new (Err error) = (new.failed ≢ old.failed) × Consumes old.left new.left []

-- The effect of reading up to a line feed on the reader, and why it stopped: at a line feed, which is taken but not part of the content; at the end
-- of the input; at the 231st byte; or at a failed read. If the reader's bytes are known, nothing else was taken.
abbrev pub IsContentRead : List ℕ → Reader → Reader → Stop → Type 0
IsContentRead content old new LineFeed =
    (new.failed ≡ old.failed) × HasNoLineFeed content × (length content ≤ 230) × Consumes old.left new.left (content ++ 10 ∷ [])
IsContentRead content old new EndOfInput =
    (new.failed ≡ old.failed) × HasNoLineFeed content × (length content ≤ 230) × Consumes old.left new.left content × IsAtEnd new.left
IsContentRead content old new TooLong =
    (new.failed ≡ old.failed) × (taken : List ℕ) × HasNoLineFeed taken × (length taken ≡ 231) × Consumes old.left new.left taken
IsContentRead content old new ReadFailed =
    (new.failed ≢ old.failed) × HasNoLineFeed content × (length content ≤ 230) × Consumes old.left new.left content

-- a failed read adds one to the count; any other stop leaves the count unchanged
abbrev pub AddsStop : Stop → ℕ → ℕ → Type 0
AddsStop LineFeed old new = new ≡ old
AddsStop EndOfInput old new = new ≡ old
AddsStop TooLong old new = new ≡ old
AddsStop ReadFailed old new = new ≡ next_count old
