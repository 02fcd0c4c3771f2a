-- Lines of a file (TIGER/Line 2006, record layouts: a record is a line), and how they are read.
use Rattle.std.specs.Prelude.{◌≡◌, ◌≢◌, ℕ, ◌+◌, ◌-◌, ◌^◌, ◌<◌, ◌≤◌, ◌⊎◌, ◌==◌, if◌then◌else◌, List, [], ◌∷◌, ◌++◌, length, Option, Some, None, Result, Ok, Err}
use Rattle.std.specs.Io.KnownBytes.{IsAtEnd}
use Rattle.counted_io.specs.Content.{HasNoLineFeed}
use Rattle.counted_io.specs.ReaderWriter.{Reader}
use Rattle.tl_records.specs.declared.fault.LineFault.{LineFault}
use Rattle.tl_records.specs.declared.fault.LineFaultKind.{LineFaultKind}
use Rattle.tl_records.specs.declared.fault.LineFaultKind.TheVariants.{WrongLength, Read, TooManyLines}

-- a line without its terminator, and its number, counted from 1
pub record LineParts : Type 0 where
  pub number : ℕ
  pub bytes : List ℕ

-- the same line number, without any bytes
abbrev pub emptied : LineParts → LineParts
emptied line = record { number = line.number; bytes = [] }

-- the last byte is a carriage return, 13
abbrev pub EndsInCarriageReturn : List ℕ → Type 0
EndsInCarriageReturn bytes = (front : List ℕ) × (bytes ≡ front ++ 13 ∷ [])

-- how a line ends: with LF that isn't preceded by CR, with CR LF, or, if it is a nonempty last line, without a terminator
pub data IsEnded (file line rest : List ℕ) : Type 0 where
  by_lf : file ≡ line ++ 10 ∷ rest → ¬ EndsInCarriageReturn line → IsEnded file line rest
  by_cr_lf : file ≡ line ++ 13 ∷ 10 ∷ rest → IsEnded file line rest
  missing : file ≡ line → rest ≡ [] → line ≢ [] → IsEnded file line rest

-- a file begins with this line, and the rest follows the line's terminator
pub record IsFirstLine (file line rest : List ℕ) : Type 0 where
  pub no_line_feed : HasNoLineFeed line
  pub ended : IsEnded file line rest

-- a file begins with these lines, one after the other, followed by the rest
abbrev pub AreFirstLines : List ℕ → List (List ℕ) → List ℕ → Type 0
AreFirstLines file [] rest = file ≡ rest
AreFirstLines file (line ∷ lines) rest = (after : List ℕ) × IsFirstLine file line after × AreFirstLines after lines rest

-- the lines of a file: first lines until nothing is left
abbrev pub AreLines : List ℕ → List (List ℕ) → Type 0
AreLines file lines = AreFirstLines file lines []

-- a property of a reader's bytes before and after a call, if they are known
abbrev pub IfKnown : Option (List ℕ) → Option (List ℕ) → (List ℕ → List ℕ → Type 0) → Type 0
IfKnown None after P = Unit {0}
IfKnown (Some file) None P = ⊥
IfKnown (Some file) (Some rest) P = P file rest

-- a file begins with this line, which has at most 230 bytes and ends within 231
abbrev pub IsNextLine : List ℕ → List ℕ → List ℕ → Type 0
IsNextLine line file rest = IsFirstLine file line rest × (length line ≤ 230) × (length file ≤ length rest + 231)

-- a file begins with 231 bytes without a line feed
abbrev pub BeginsTooLong : List ℕ → List ℕ → Type 0
BeginsTooLong file rest = (taken : List ℕ) × (file ≡ taken ++ rest) × HasNoLineFeed taken × (length taken ≡ 231)

-- the maximum number of bytes read from the line after this number before it is refused: none if its number doesn't fit in 32 bits
abbrev pub max_bytes : ℕ → ℕ
max_bytes number = if number == 2 ^ 32 - 1 then 0 else 230

-- a file begins with at most this many bytes without a line feed, after which a read failed
abbrev pub FailsWithin : ℕ → List ℕ → List ℕ → Type 0
FailsWithin most file rest = (taken : List ℕ) × (file ≡ taken ++ rest) × HasNoLineFeed taken × (length taken ≤ most)

-- a file has one more byte than the rest
abbrev pub HasOneMoreByte : List ℕ → List ℕ → Type 0
HasOneMoreByte file rest = (byte : ℕ) × (file ≡ byte ∷ rest)

-- why the line after this number can't be read: it is too long, a read failed, or it would be line 2^32
abbrev pub IsUnreadableLine : ℕ → LineFaultKind → Reader → Reader → Type 0
IsUnreadableLine number WrongLength old new = (new.failed ≡ old.failed) × (number < 2 ^ 32 - 1) × IfKnown old.left new.left BeginsTooLong
IsUnreadableLine number Read old new = (new.failed ≢ old.failed) × IfKnown old.left new.left (FailsWithin (max_bytes number))
IsUnreadableLine number TooManyLines old new = (new.failed ≡ old.failed) × (number ≡ 2 ^ 32 - 1) × IfKnown old.left new.left HasOneMoreByte
IsUnreadableLine number flaw old new = ⊥

-- the effect of reading the next line on the line and the reader; a line has no line feed and at most 230 bytes, whatever reader it came from
abbrev pub IsLineRead : LineParts → LineParts → Reader → Reader → Result (Option (Unit {0})) LineFault → Type 0
IsLineRead line new_line old new (Ok (Some done)) =
    (new.failed ≡ old.failed) × (line.number < 2 ^ 32 - 1) × (new_line.number ≡ line.number + 1) × IfKnown old.left new.left (IsNextLine new_line.bytes) × HasNoLineFeed new_line.bytes × (length new_line.bytes ≤ 230)
IsLineRead line new_line old new (Ok None) =
    (new.failed ≡ old.failed) × (new_line ≡ emptied line) × IsAtEnd new.left × IfKnown old.left new.left (λ file rest. file ≡ [])
IsLineRead line new_line old new (Err fault) =
    (new_line ≡ emptied line) × (fault.line ≡ line.number + 1) × IsUnreadableLine line.number fault.flaw old new

-- a line's bytes without a trailing carriage return, if they have one
abbrev pub IsWithoutCarriageReturn : List ℕ → List ℕ → Type 0
IsWithoutCarriageReturn content line = (content ≡ line ++ 13 ∷ []) ⊎ ((content ≡ line) × (¬ EndsInCarriageReturn content))
