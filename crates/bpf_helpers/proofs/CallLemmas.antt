-- What calls of the helper functions return, write and set.
use Rattle.std.proofs.Common.{◌≡◌, ◌≢◌, ℕ, pos, option_map, ◌==◌, if◌then◌else◌, Bool, true, false, cond, ◌^◌, ◌<◌, ◌≤◌, zero, suc, List}
use Rattle.std.proofs.Common.{[], ◌∷◌, All, length, get_or, drop, replicate, slice_index, slice_get, Option, Some, None, IfSome}
use Rattle.std.proofs.Common.{is_some, refl, ap, sym, ◌∙◌, subst, arith}
use Rattle.std.specs.List.{find}
use Rattle.std.proofs.lemmas.Bool.{eqb-true}
use Rattle.std.proofs.lemmas.Grind.{common_steps}
use Rattle.std.proofs.lemmas.List.Elements.{All-cons}
use Rattle.std.proofs.lemmas.List.{length-replicate}
use Rattle.tl_fields.specs.Coordinate.{coordinate_of, negative}
use Rattle.numerals.specs.Numeral.{decimal_in}
use Rattle.numerals.proofs.NumeralLemmas.{decimal_in-lt}
use Rattle.tl_fields.specs.Number.{number_of, trim}
use Rattle.tl_fields.specs.Field.{field_of}
use Rattle.tl_segments.specs.Range.{AreBytes, lies_on}
use Rattle.tl_segments.specs.Segment.{SegmentParts, IsSegment, names_of, ranges_of}
use Rattle.tl_segments.specs.declared.range.RangeFields.{RangeFields}
use Rattle.tl_segments.proofs.SegmentLemmas.{AreBytes-field_of, below-take}
use Rattle.bpf_kinds.specs.Interval.{Admits, between, single}
use Rattle.bpf_kinds.specs.declared.interval.Interval.{Interval}
use Rattle.bpf_helpers.specs.Call.{Meaning, MeetsSignature, call, does, first, meaning, second, group_of, third, written_length}
use Rattle.bpf_helpers.specs.Call.Meaning.{ReadsRecord, ReadsSegment, ComparesFrame, CopiesIntoFrame, SetsScore}
use Rattle.bpf_helpers.specs.Helper.{any_number, by_number, signature}
use Rattle.bpf_helpers.specs.Meaning.{truth, bytes_at, field_number, or_zero, sides, first_bytes, coordinate_word}
use Rattle.bpf_helpers.specs.Group.{frame_use}
use Rattle.bpf_helpers.specs.declared.fields.TheConstants.{FIELDS, COORDINATES}
use Rattle.bpf_helpers.specs.declared.helper.Helper.{Helper}
use Rattle.bpf_helpers.specs.declared.helper.Helper.TheVariants.{Field, HasField, NameCount, RangeCount, InRange, NameCopy, NameIs, Emit, Coord}
use Rattle.bpf_helpers.specs.declared.helper.TheConstants.{HELPERS}
use Rattle.bpf_helpers.specs.declared.signature.Argument.TheVariants.{Unused, Number, Frame}
use Rattle.bpf_helpers.specs.declared.signature.FrameUse.TheVariants.{Nothing, Writes}
use Rattle.bpf_helpers.specs.declared.signature.Group.{Group}

-- `find` returns the first element or one of the rest that passes the test
found-by : {X : Type 0} (p : X → Bool) (y : X) (ys : List X) (x : X) (b : Bool) → p y ≡ b → (find p ys ≡ Some x → p x ≡ true)
    → cond b (Some y) (find p ys) ≡ Some x → p x ≡ true
found-by p y ys x true is later found = cc
found-by p y ys x false is later found = later found

-- an element that `find` returns passes the test
found-passes : {X : Type 0} (p : X → Bool) (xs : List X) (x : X) → find p xs ≡ Some x → p x ≡ true
found-passes p [] x e = cc
found-passes p (y ∷ ys) x e = found-by p y ys x (p y) refl (found-passes p ys x) e

-- a helper function that a number finds has this number in the table
pub by_number_own : (number : ℕ) (helper : Helper) → by_number number ≡ Some helper → (signature helper).number ≡ number
by_number_own number helper found =
    eqb-true (signature helper).number number (found-passes (λ helper. (signature helper).number == number) HELPERS helper found)

-- Properties of each row of the table: the clause for all others is checked for each of them.

-- a call that reads or writes the frame takes a pointer into it as its second argument, and a byte count as its third

pub frame_pointer : (helper : Helper) → frame_use (signature helper).group ≢ Nothing → get_or (signature helper).arguments 1 Unused ≡ Frame
frame_pointer Field uses = absurd (uses refl)
frame_pointer otherwise uses = grind arith

pub frame_length : (helper : Helper) → frame_use (signature helper).group ≢ Nothing
    → get_or (signature helper).arguments 2 Unused ≡ Number (between 1 30)
frame_length Field uses = absurd (uses refl)
frame_length otherwise uses = grind arith

-- there are three arguments
pub three-required : (helper : Helper) → get_or (signature helper).arguments 0 Unused ∷ get_or (signature helper).arguments 1 Unused ∷ get_or
    (signature helper).arguments 2 Unused ∷ [] ≡ (signature helper).arguments
three-required Field = refl
three-required otherwise = refl

-- the group in the table is that of the helper function's meaning
pub group-is : (helper : Helper) → group_of (meaning helper) ≡ (signature helper).group
group-is Field = refl
group-is otherwise = refl

-- all answers are words
below-any_number : (helper : Helper) → (signature helper).answer.high < 2 ^ 64
below-any_number Field = omega arith
below-any_number otherwise = omega arith

truth-bit : (b : Bool) → Admits (between 0 1) (truth b)
truth-bit true = record { above = omega arith; below = omega arith }
truth-bit false = record { above = omega arith; below = omega arith }

or_zero-digits : (number : Option ℕ) → IfSome number (λ n. n < 10 ^ 11) → Admits (between 0 99999999999) (or_zero number)
or_zero-digits None small = record { above = omega arith; below = omega arith }
or_zero-digits (Some n) small = record { above = omega arith; below = omega arith }

number-digits : (field : List ℕ) → Admits (between 0 99999999999) (or_zero (number_of field))
unfolding number_of
number-digits field = or_zero-digits (number_of field) (decimal_in-lt 11 (trim field))

-- no field's number has more digits
pub number_below : (field : List ℕ) (n : ℕ) → number_of field ≡ Some n → n ≤ 99999999999
number_below field n is = let digits = number-digits field in (rw is at digits).below

sides-bits : (house : ℕ) (range : Option RangeFields) → Admits (between 0 3) (sides house range)
sides-bits house None = record { above = omega arith; below = omega arith }
sides-bits house (Some range) =
    let left = truth-bit (lies_on house range.fraddl range.toaddl) in
    let right = truth-bit (lies_on house range.fraddr range.toaddr) in
    record { above = omega arith; below = omega (arith, left.below, right.below) }

positive-fits : (amount : Option ℕ) → IfSome amount (λ n. n < 10 ^ 9) → Admits any_number (coordinate_word (option_map pos amount))
positive-fits None small = record { above = omega arith; below = omega arith }
positive-fits (Some n) small = record { above = omega arith; below = omega arith }

negative-fits : (amount : Option ℕ) → Admits any_number (coordinate_word (option_map negative amount))
negative-fits None = record { above = omega arith; below = omega arith }
negative-fits (Some zero) = record { above = omega arith; below = omega arith }
negative-fits (Some (suc n)) = record { above = omega arith; below = omega arith }

signed-fits : (text : List ℕ) (minus plus : Bool) → Admits any_number
    (coordinate_word (if minus then option_map negative (decimal_in 9 (drop 1 text)) else
    (if plus then option_map pos (decimal_in 9 (drop 1 text)) else option_map pos (decimal_in 9 text))))
signed-fits text true plus = negative-fits (decimal_in 9 (drop 1 text))
signed-fits text false true = positive-fits (decimal_in 9 (drop 1 text)) (decimal_in-lt 9 (drop 1 text))
signed-fits text false false = positive-fits (decimal_in 9 text) (decimal_in-lt 9 text)

coordinate-fits : (field : List ℕ) → Admits any_number (coordinate_word (coordinate_of field))
unfolding coordinate_of
coordinate-fits field = signed-fits (trim field) (slice_index (trim field) 0 == 45) (slice_index (trim field) 0 == 43)

-- the names of a segment are 30 bytes each
names-bytes : (segment : SegmentParts) → IsSegment segment → All (AreBytes 30) (names_of segment)
names-bytes segment is = All-cons (AreBytes 30) (field_of segment.bytes 20 49) segment.names
    (AreBytes-field_of segment.bytes 228 20 49 is.bytes (omega arith) (omega arith) (omega arith)) is.names

IfSome-slice_get : {X : Type 0} (P : X → Type 0) (xs : List X) (index : ℕ) → All P xs → IfSome (slice_get xs index) P
IfSome-slice_get P [] index all = tt
IfSome-slice_get P (x ∷ xs) zero all = all 0 x (omega arith)
IfSome-slice_get P (x ∷ xs) (suc index) all = IfSome-slice_get P xs index (λ k d inside. all (suc k) d (omega arith))

replicate-bytes : (count i : ℕ) → slice_index (replicate count 32) i < 2 ^ 8
replicate-bytes zero i = omega arith
replicate-bytes (suc count) zero = omega arith
replicate-bytes (suc count) (suc i) = replicate-bytes count i

AreBytes-none : AreBytes 0 []
AreBytes-none = record { length = refl; bytes = λ i. omega arith }

AreBytes-first : (count : ℕ) (name : Option (List ℕ)) → IfSome name (AreBytes 30) → count ≤ 30 → AreBytes count (first_bytes count name)
AreBytes-first count None are few = record { length = length-replicate count 32; bytes = replicate-bytes count }
AreBytes-first count (Some name) are few = let long = are.length in
    record { length = grind (arith, common_steps); bytes = below-take count name are.bytes }

-- What a helper function does stays within bounds: its answer, what it copies, and the score that it sets.

abbrev IsBounded : Meaning → Interval → List ℕ → Type 0
IsBounded (ReadsRecord computed) answer arguments = (segment : SegmentParts) → IsSegment segment → Admits answer (computed segment.bytes arguments)
IsBounded (ReadsSegment computed) answer arguments = (segment : SegmentParts) → IsSegment segment → Admits answer (computed segment arguments)
IsBounded (ComparesFrame equal) answer arguments = answer ≡ between 0 1
IsBounded (CopiesIntoFrame copied) answer arguments = (answer ≡ between 0 1) × (third arguments ≤ 30)
    × ((segment : SegmentParts) → IsSegment segment → IfSome (copied segment arguments) (AreBytes 30))
IsBounded (SetsScore set) answer arguments = (answer ≡ single 0) × (set arguments < 2 ^ 64)

is-bounded : (helper : Helper) (arguments : List ℕ) → MeetsSignature helper arguments
    → IsBounded (meaning helper) (signature helper).answer arguments
is-bounded Field arguments meets = λ segment is. number-digits (bytes_at segment.bytes (slice_get FIELDS (first arguments)))
is-bounded HasField arguments meets = λ segment is. truth-bit (is_some (field_number segment.bytes (first arguments)))
is-bounded NameCount arguments meets = λ segment is. record { above = omega arith; below = is.few_names }
is-bounded RangeCount arguments meets = λ segment is. let few = is.few_ranges in record { above = omega arith; below = omega arith }
is-bounded InRange arguments meets = λ segment is. sides-bits (second arguments) (slice_get (ranges_of segment) (first arguments))
is-bounded NameCopy arguments meets = record {
  0 = refl;
  1 = (meets.each 2).below;
  2 =
      λ segment is. IfSome-slice_get (AreBytes 30) (names_of segment) (first arguments) (names-bytes segment is);
}
is-bounded NameIs arguments meets = refl
is-bounded Emit arguments meets = record { 0 = refl; 1 = omega (arith, (meets.each 0).below) }
is-bounded Coord arguments meets = λ segment is. coordinate-fits (bytes_at segment.bytes (slice_get COORDINATES (first arguments)))

-- the answer of a call is a number of the table's interval

does-admits : (m : Meaning) (answer : Interval) (segment : SegmentParts) (arguments bytes : List ℕ) (score : ℕ) → IsSegment segment
    → IsBounded m answer arguments → Admits answer (does m segment arguments bytes score).answer
does-admits (ReadsRecord computed) answer segment arguments bytes score is bounded = bounded segment is
does-admits (ReadsSegment computed) answer segment arguments bytes score is bounded = bounded segment is
does-admits (ComparesFrame equal) answer segment arguments bytes score is bounded = rw bounded (truth-bit (equal segment arguments bytes))
does-admits (CopiesIntoFrame copied) answer segment arguments bytes score is bounded =
    rw bounded.0 (truth-bit (is_some (copied segment arguments)))
does-admits (SetsScore set) answer segment arguments bytes score is bounded =
    rw bounded.0 (record { above = omega arith; below = omega arith })

pub answer-admits : (helper : Helper) (segment : SegmentParts) (arguments bytes : List ℕ) (score : ℕ) → IsSegment segment
    → MeetsSignature helper arguments → Admits (signature helper).answer (call helper segment arguments bytes score).answer
answer-admits helper segment arguments bytes score is meets =
    does-admits (meaning helper) (signature helper).answer segment arguments bytes score is (is-bounded helper arguments meets)

-- the answer is a word
pub answer-fits : (helper : Helper) (segment : SegmentParts) (arguments bytes : List ℕ) (score : ℕ) → IsSegment segment
    → MeetsSignature helper arguments → (call helper segment arguments bytes score).answer < 2 ^ 64
answer-fits helper segment arguments bytes score is meets =
    let admits = answer-admits helper segment arguments bytes score is meets in
    omega (arith, admits.below, below-any_number helper)

-- a call that writes to the frame writes the number of bytes given by its third argument

does-bytes : (m : Meaning) (answer : Interval) (segment : SegmentParts) (arguments bytes : List ℕ) (score : ℕ) → IsSegment segment
    → IsBounded m answer arguments → AreBytes (written_length (frame_use (group_of m)) arguments)
    (does m segment arguments bytes score).written
does-bytes (CopiesIntoFrame copied) answer segment arguments bytes score is bounded =
    AreBytes-first (third arguments) (copied segment arguments) (bounded.2 segment is) bounded.1
does-bytes otherwise answer segment arguments bytes score is bounded = AreBytes-none

pub written-bytes : (helper : Helper) (segment : SegmentParts) (arguments bytes : List ℕ) (score : ℕ) → IsSegment segment
    → MeetsSignature helper arguments → AreBytes (written_length (frame_use (signature helper).group) arguments)
    (call helper segment arguments bytes score).written
written-bytes helper segment arguments bytes score is meets =
    subst (λ (s : Group). AreBytes (written_length (frame_use s) arguments) (call helper segment arguments bytes score).written)
    (group-is helper)
    (does-bytes (meaning helper) (signature helper).answer segment arguments bytes score is (is-bounded helper arguments meets))

pub written-length : (helper : Helper) (segment : SegmentParts) (arguments bytes : List ℕ) (score : ℕ) → IsSegment segment
    → MeetsSignature helper arguments → length (call helper segment arguments bytes score).written ≡ written_length
    (frame_use (signature helper).group) arguments
written-length helper segment arguments bytes score is meets = (written-bytes helper segment arguments bytes score is meets).length

-- other calls write nothing

does-write-nothing : (m : Meaning) (segment : SegmentParts) (arguments bytes : List ℕ) (score : ℕ) → frame_use (group_of m) ≢ Writes
    → (does m segment arguments bytes score).written ≡ []
does-write-nothing (CopiesIntoFrame copied) segment arguments bytes score not = absurd (not refl)
does-write-nothing otherwise segment arguments bytes score not = refl

pub written-nothing : (helper : Helper) (segment : SegmentParts) (arguments bytes : List ℕ) (score : ℕ)
    → frame_use (signature helper).group ≢ Writes → (call helper segment arguments bytes score).written ≡ []
written-nothing helper segment arguments bytes score not =
    does-write-nothing (meaning helper) segment arguments bytes score (λ writes. not (ap frame_use (sym (group-is helper)) ∙ writes))
