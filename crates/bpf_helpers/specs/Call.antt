-- Calls of helper functions: what their arguments must be, and what they return, write and set. Arguments are words; a pointer into the frame is
-- its offset.
use Rattle.std.specs.Prelude.{◌≡◌, ℕ, ◌+◌, ◌≤◌, Bool, List, [], ◌++◌, Option, length, take, drop, slice_get, get_or, is_some}
use Rattle.tl_segments.specs.Segment.{SegmentParts, names_of, ranges_of}
use Rattle.bpf_insn.specs.declared.memory.TheConstants.{FRAME_LENGTH}
use Rattle.bpf_kinds.specs.Interval.{Admits}
use Rattle.bpf_helpers.specs.Helper.{signature}
use Rattle.bpf_helpers.specs.Meaning.{truth, field_number, or_zero, sides, is_name, first_bytes, coordinate}
use Rattle.bpf_helpers.specs.Group.{frame_use}
use Rattle.bpf_helpers.specs.declared.helper.Helper.{Helper}
use Rattle.bpf_helpers.specs.declared.helper.Helper.TheVariants.{Field, HasField, NameCount, RangeCount, InRange, NameCopy, NameIs, Emit, Coord}
use Rattle.bpf_helpers.specs.declared.signature.Argument.{Argument}
use Rattle.bpf_helpers.specs.declared.signature.Argument.TheVariants.{Unused, Number, Frame}
use Rattle.bpf_helpers.specs.declared.signature.FrameUse.{FrameUse}
use Rattle.bpf_helpers.specs.declared.signature.FrameUse.TheVariants.{Nothing, Writes, Reads}
use Rattle.bpf_helpers.specs.declared.signature.Group.{Group}
use Rattle.bpf_helpers.specs.declared.signature.Group.TheVariants as group

-- the first, second and third argument, in registers 1 to 3
abbrev pub first : List ℕ → ℕ
first arguments = get_or arguments 0 0

abbrev pub second : List ℕ → ℕ
second arguments = get_or arguments 1 0

abbrev pub third : List ℕ → ℕ
third arguments = get_or arguments 2 0

-- a word that is valid as an argument
abbrev pub Meets : Argument → ℕ → Type 0
Meets Unused word = Unit {0}
Meets (Number numbers) word = Admits numbers word
Meets Frame word = Unit {0}

-- the bytes that a call reads or writes lie within the frame
abbrev pub LieWithin : FrameUse → List ℕ → Type 0
LieWithin Nothing arguments = Unit {0}
LieWithin Writes arguments = second arguments + third arguments ≤ FRAME_LENGTH
LieWithin Reads arguments = second arguments + third arguments ≤ FRAME_LENGTH

-- the arguments meet the helper function's signature
pub record MeetsSignature (helper : Helper) (arguments : List ℕ) : Type 0 where
  pub count : length arguments ≡ 3
  pub each : (at : ℕ) → Meets (get_or (signature helper).arguments at Unused) (get_or arguments at 0)
  pub within : LieWithin (frame_use (signature helper).group) arguments

-- the bytes of the frame that a call reads
abbrev pub bytes_read : {A : Type 0} → FrameUse → List ℕ → List A → List A
bytes_read Reads arguments frame = take (third arguments) (drop (second arguments) frame)
bytes_read otherwise arguments frame = []

-- the number of bytes that a call writes
abbrev pub written_length : FrameUse → List ℕ → ℕ
written_length Writes arguments = third arguments
written_length otherwise arguments = 0

-- memory with bytes written over it, starting at a place
abbrev pub write : {A : Type 0} → List A → ℕ → List A → List A
write memory at bytes = take at memory ++ bytes ++ drop (at + length bytes) memory

-- the effect of a call: its answer, the bytes that it writes into the frame where its second argument points, and the score
pub record Called : Type 0 where
  pub answer : ℕ
  pub written : List ℕ
  pub score : ℕ

-- a call that only returns an answer
abbrev pub answers : ℕ → ℕ → Called
answers score answer = record { answer = answer; written = []; score = score }

-- The meaning of a helper function, by its group: a number computed from the record's bytes or from the segment, and the arguments; whether a part
-- of the segment equals bytes of the frame; what is copied into the frame, if the segment has it; the new score.
pub data Meaning : Type 0 where
  ReadsRecord : (computed : List ℕ → List ℕ → ℕ) → Meaning
  ReadsSegment : (computed : SegmentParts → List ℕ → ℕ) → Meaning
  ComparesFrame : (equal : SegmentParts → List ℕ → List ℕ → Bool) → Meaning
  CopiesIntoFrame : (copied : SegmentParts → List ℕ → Option (List ℕ)) → Meaning
  SetsScore : (set : List ℕ → ℕ) → Meaning

abbrev pub group_of : Meaning → Group
group_of (ReadsRecord computed) = group.ReadsRecord
group_of (ReadsSegment computed) = group.ReadsSegment
group_of (ComparesFrame equal) = group.ComparesFrame
group_of (CopiesIntoFrame copied) = group.CopiesIntoFrame
group_of (SetsScore set) = group.SetsScore

-- the meaning of each helper function
abbrev pub meaning : Helper → Meaning
meaning Field = ReadsRecord (λ line arguments. or_zero (field_number line (first arguments)))
meaning HasField = ReadsRecord (λ line arguments. truth (is_some (field_number line (first arguments))))
meaning NameCount = ReadsSegment (λ segment arguments. length segment.names)
meaning RangeCount = ReadsSegment (λ segment arguments. length (ranges_of segment))
meaning InRange = ReadsSegment (λ segment arguments. sides (second arguments) (slice_get (ranges_of segment) (first arguments)))
meaning NameCopy = CopiesIntoFrame (λ segment arguments. slice_get (names_of segment) (first arguments))
meaning NameIs = ComparesFrame (λ segment arguments bytes. is_name bytes (slice_get (names_of segment) (first arguments)))
meaning Emit = SetsScore (λ arguments. first arguments)
meaning Coord = ReadsRecord (λ line arguments. coordinate line (first arguments))

-- the effect of a call of a helper function with this meaning
abbrev pub does : Meaning → SegmentParts → List ℕ → List ℕ → ℕ → Called
does (ReadsRecord computed) segment arguments bytes score = answers score (computed segment.bytes arguments)
does (ReadsSegment computed) segment arguments bytes score = answers score (computed segment arguments)
does (ComparesFrame equal) segment arguments bytes score = answers score (truth (equal segment arguments bytes))
does (CopiesIntoFrame copied) segment arguments bytes score = record {
  answer = truth (is_some (copied segment arguments));
  written = first_bytes (third arguments) (copied segment arguments);
  score = score;
}
does (SetsScore set) segment arguments bytes score = answers (set arguments) 0

-- the effect of a call with these arguments on a segment, given the bytes of the frame that it reads and the score before it
abbrev pub call : Helper → SegmentParts → List ℕ → List ℕ → ℕ → Called
call helper segment arguments bytes score = does (meaning helper) segment arguments bytes score
