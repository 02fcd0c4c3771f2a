-- Questions about a segment, which always have an answer: yes or no. A test compares a number read from the segment with a constant, a block
-- brings its code with it, and all other questions are made of these.
use Rattle.std.specs.Prelude.{ℕ, ◌+◌, ◌*◌, ◌≤◌, ◌<◌, ◌^◌, Bool, true, false, not, List, [], ◌∷◌, length, take, drop, is_some, slice_get}
use Rattle.std.specs.Prelude.{FitsSigned, if◌then◌else◌}
use Rattle.std.specs.Bool.{beq}
use Rattle.std.specs.Int.{w64}
use Rattle.bpf_helpers.specs.Meaning.{truth, coordinate, field_number, is_name, or_zero, sides}
use Rattle.bpf_insn.specs.Arithmetic.{immediate_operand, condition_holds}
use Rattle.bpf_insn.specs.declared.instruction.Condition.{Condition}
use Rattle.bpf_insn.specs.declared.instruction.Condition.TheVariants as condition
use Rattle.bpf_insn.specs.declared.instruction.Insn.{Insn}
use Rattle.bpf_insn.specs.declared.instruction.Width.TheVariants.{Bits64}
use Rattle.cql2.specs.declared.column.CoordinateColumn.{CoordinateColumn}
use Rattle.cql2.specs.declared.column.CoordinateColumn.TheVariants.{Frlong, Frlat, Tolong, Tolat}
use Rattle.cql2.specs.declared.column.NumberColumn.{NumberColumn}
use Rattle.cql2.specs.declared.column.NumberColumn.TheVariants.{Tlid, Fraddl, Toaddl, Fraddr, Toaddr, Zipl, Zipr, Statel, Stater, Countyl, Countyr, Placel}
use Rattle.cql2.specs.declared.column.NumberColumn.TheVariants.{Placer, Tractl, Tractr, Blockl, Blockr}
use Rattle.cql2.specs.declared.filter.Comparison.{Comparison}
use Rattle.cql2.specs.declared.filter.Comparison.TheVariants.{Equal, NotEqual, Less, LessOrEqual, Greater, GreaterOrEqual}
use Rattle.tl_segments.specs.Range.{AreBytes}
use Rattle.tl_segments.specs.Segment.{SegmentParts, names_of, ranges_of}
use Rattle.tl_segments.specs.declared.name.TheConstants.{NAME_LENGTH}
use Rattle.tl_records.specs.declared.layout.TheConstants.{RECORD_LENGTH}
use Rattle.cql2_code.specs.declared.question.Chunk.{Chunk}
use Rattle.cql2_code.specs.declared.question.Chunk.TheVariants.{Byte, Word, DoubleWord}
use Rattle.cql2_code.specs.declared.question.Subject.{Subject}
use Rattle.cql2_code.specs.declared.question.Subject.TheVariants.{Number, HasNumber, Coordinate, Names, Ranges, InRange, NameIs, Load}
use Rattle.cql2_code.specs.declared.question.Test.{Test}

-- the id of a numeric column in helper functions
abbrev pub field_id : NumberColumn → ℕ
field_id Tlid = 0
field_id Fraddl = 1
field_id Toaddl = 2
field_id Fraddr = 3
field_id Toaddr = 4
field_id Zipl = 5
field_id Zipr = 6
field_id Statel = 7
field_id Stater = 8
field_id Countyl = 9
field_id Countyr = 10
field_id Placel = 11
field_id Placer = 12
field_id Tractl = 13
field_id Tractr = 14
field_id Blockl = 15
field_id Blockr = 16

-- the id of a coordinate in helper functions
abbrev pub coordinate_id : CoordinateColumn → ℕ
coordinate_id Frlong = 0
coordinate_id Frlat = 1
coordinate_id Tolong = 2
coordinate_id Tolat = 3

-- the number of bytes that are read from a record at once
abbrev pub chunk_length : Chunk → ℕ
chunk_length Byte = 1
chunk_length Word = 4
chunk_length DoubleWord = 8

-- the little-endian number of a list of bytes
abbrev pub bytes_value : List ℕ → ℕ
bytes_value [] = 0
bytes_value (byte ∷ bytes) = byte + 256 * bytes_value bytes

-- the number that a test looks at in a segment
abbrev pub value : Subject → SegmentParts → ℕ
value (Number column) segment = or_zero (field_number segment.bytes (field_id column))
value (HasNumber column) segment = truth (is_some (field_number segment.bytes (field_id column)))
value (Coordinate column) segment = coordinate segment.bytes (coordinate_id column)
value Names segment = length segment.names
value Ranges segment = length (ranges_of segment)
value (InRange range house) segment = sides house (slice_get (ranges_of segment) range)
value (NameIs name required) segment = truth (is_name (take NAME_LENGTH required) (slice_get (names_of segment) name))
value (Load chunk at) segment = bytes_value (take (chunk_length chunk) (drop at segment.bytes))

-- A subject can be read: a chunk lies within the record, and numbers and bytes are within their types' ranges.
abbrev pub IsSoundSubject : Subject → Type 0
IsSoundSubject (InRange range house) = (range < 2 ^ 16) × (house < 2 ^ 64)
IsSoundSubject (NameIs name required) = (name < 2 ^ 16) × AreBytes 32 required
IsSoundSubject (Load chunk at) = at + chunk_length chunk ≤ RECORD_LENGTH
IsSoundSubject subject = Unit {0}

-- a test's subject is sound, and its operand fits into 64 bits
pub record IsSoundTest (test : Test) : Type 0 where
  pub subject : IsSoundSubject test.subject
  pub operand : FitsSigned w64 test.operand

-- the jump condition for a comparison of signed numbers
abbrev pub condition_of : Comparison → Condition
condition_of Equal = condition.Equal
condition_of NotEqual = condition.NotEqual
condition_of Less = condition.SignedLess
condition_of LessOrEqual = condition.SignedLessOrEqual
condition_of Greater = condition.SignedGreater
condition_of GreaterOrEqual = condition.SignedGreaterOrEqual

-- the answer of a test, compared in 64 bits
abbrev pub is_so : Test → SegmentParts → Bool
is_so test segment = condition_holds (condition_of test.comparison) Bits64 (value test.subject segment) (immediate_operand test.operand)

-- A block: its code, by the answer that falls through its end and by the number of words to skip past the end otherwise; and its answer.
pub record Block : Type 0 where
  pub code : Bool → ℕ → List Insn
  pub answer : SegmentParts → Bool

-- Questions. One kind is already decided. Two questions are joined with one of the two answers as the neutral one: if the first question has that
-- answer, the second one decides, and otherwise the first one does. With neutral answer yes this is AND, with no it is OR.
pub data Question : Type 0 where
  Decided : (found : Bool) → Question
  Holds : (test : Test) → Question
  Opposite : (question : Question) → Question
  Joined : (neutral : Bool) (first second : Question) → Question
  Coded : (block : Block) → Question

abbrev pub joined : Bool → Bool → Bool → Bool
joined neutral first second = if beq first neutral then second else first

-- the answer of a question
abbrev pub answer : Question → SegmentParts → Bool
answer (Decided found) segment = found
answer (Holds test) segment = is_so test segment
answer (Opposite question) segment = not (answer question segment)
answer (Joined neutral first second) segment = joined neutral (answer first segment) (answer second segment)
answer (Coded block) segment = block.answer segment

-- a question, or its opposite
abbrev pub if_asked : Question → Bool → Question
if_asked question true = question
if_asked question false = Opposite question
