-- The effect of one look at a reader's buffer on the content of a line.
use Rattle.std.specs.Prelude.{◌≡◌, ◌≢◌, ℕ, ◌+◌, ◌<◌, ◌≤◌, List, [], ◌∷◌, ◌++◌, length, take, Option, Some, None, OnSome}
use Rattle.std.specs.Io.KnownBytes.{Consumes, IsAtEnd}
use Rattle.counted_io.specs.Content.{HasNoLineFeed}
use Rattle.counted_io.specs.ReaderWriter.{Reader}
use Rattle.counted_io.specs.declared.content.Stop.{Stop}
use Rattle.counted_io.specs.declared.content.Stop.TheVariants.{LineFeed, EndOfInput, TooLong, ReadFailed}

-- the buffer shows all of a line with this content, and the line feed that ends it
pub record IsLineInBuffer (buffer content : List ℕ) : Type 0 where
  pub shown : length content < length buffer
  pub no_line_feed : HasNoLineFeed content
  pub ends : take (length content + 1) buffer ≡ content ++ 10 ∷ []

-- the content grows by a part that has no line feed
abbrev pub GrowsBy : List ℕ → List ℕ → List ℕ → Type 0
GrowsBy content new_content part = (new_content ≡ content ++ part) × HasNoLineFeed part × (length new_content ≤ 230)

-- The content grows by bytes that the buffer shows, and those bytes are taken. The line then continues, or it stops for a reason. The end of the
-- input is claimed only if the bytes are known.
abbrev pub IsBufferRead : List ℕ → List ℕ → Reader → Reader → Option Stop → Type 0
IsBufferRead content new_content old new None =
    (new.failed ≡ old.failed) × (part : List ℕ) × GrowsBy content new_content part × (0 < length part) × Consumes old.left new.left part
IsBufferRead content new_content old new (Some LineFeed) =
    (new.failed ≡ old.failed) × (part : List ℕ) × GrowsBy content new_content part × Consumes old.left new.left (part ++ 10 ∷ [])
IsBufferRead content new_content old new (Some EndOfInput) =
    (new.failed ≡ old.failed) × (new_content ≡ content) × Consumes old.left new.left [] × OnSome old.left (IsAtEnd new.left)
IsBufferRead content new_content old new (Some TooLong) =
    (new.failed ≡ old.failed) × (part : List ℕ) × HasNoLineFeed part × (length content + length part ≡ 231) × Consumes old.left new.left part
IsBufferRead content new_content old new (Some ReadFailed) =
    (new.failed ≢ old.failed) × (new_content ≡ content) × Consumes old.left new.left []
