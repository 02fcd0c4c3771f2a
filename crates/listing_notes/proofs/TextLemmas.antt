-- The text of what is known determines it: kinds with the same text are equal.
use Rattle.std.proofs.Common.{◌≡◌, ◌≢◌, ℕ, suc, ◌+◌, ◌-◌, ◌*◌, ◌/◌, ◌%◌, ◌^◌, ◌<◌, ◌≤◌, ℤ, pos, negsuc, Bool, true, false, List, [], ◌∷◌, ◌++◌, length, get_or}
use Rattle.std.proofs.Common.{nat_le, ◌==◌, ◌&&◌, if◌then◌else◌, refl, sym, ap, subst, ◌∙◌, arith}
use Rattle.std.proofs.Common.{rules, append_assoc, Decides}
use Rattle.std.proofs.lemmas.Int.{ints}
use Rattle.std.specs.Prelude.{codes, decimal, FitsSigned}
use Rattle.std.specs.Int.{w16}
use Rattle.std.specs.Ordering.{int_eq}
use Rattle.std.specs.Fmt.{signed_decimal}
use Rattle.std.proofs.lemmas.Fmt.{decimal_injective, decimal_nonempty, signed_decimal_injective}
use Rattle.std.proofs.lemmas.Bool.{true≢false, and_parts, and_from}
use Rattle.std.specs.Str.{bytes_eq}
use Rattle.std.proofs.lemmas.Slice.Eq.{bytes_eq-Decides, slice_eq-Decides}
use Rattle.std.specs.Cmp.{booleans_Decides}
use Rattle.std.proofs.Math.Bool.{beq}
use lib.Pointwise.{pointwise}
use Rattle.std.proofs.lemmas.Bool.Decides.{nat_tests, Decides-int_eq}
use Rattle.std.proofs.lemmas.List.{append_cancel_left, append_cancel_right, append-nil, ext_get_or}
use Rattle.std.proofs.lemmas.List.FromFn.{get_or-map-range_with_len, length-map-range_with_len}
use Rattle.bpf_kinds.specs.Interval as interval
use Rattle.bpf_kinds.specs.Interval.{between, is_single}
use Rattle.bpf_kinds.specs.declared.interval.Interval.{Interval}
use Rattle.bpf_kinds.specs.Kind as kind
use Rattle.bpf_kinds.specs.Offsets as offsets
use Rattle.bpf_kinds.specs.declared.kind.Kind.{Kind}
use Rattle.bpf_kinds.specs.declared.kind.Kind.TheVariants.{Number, Record, Frame, Nothing}
use Rattle.bpf_kinds.specs.declared.offsets.Offsets.{Offsets}
use Rattle.bpf_insn.specs.declared.memory.TheConstants.{FRAME_LENGTH, SLOTS, SLOT_LENGTH}
use Rattle.bpf_frame.specs.FrameMap as map
use Rattle.bpf_frame.specs.FrameMap.{Contents, FitsKind, slot_kind}
use Rattle.bpf_frame.specs.OrderLaws.{same_maps, same_tests}
use Rattle.bpf_verify.specs.LiftedState.{IsProperState}
use Rattle.bpf_verify.specs.declared.abstract_state.AbstractState.{AbstractState}
use Rattle.listing_notes.proofs.SplitLemmas.{BeginsWith, IsDigit, AreDigits, decimal-digits, decimal-excludes, excludes, first, fronts-equal, rest}
use Rattle.listing_notes.specs.Notation.{IsPart, begins_negative, end_text, held_text, interval_text, is_any, kind_text, mark_code, marks_text, offsets_text}
use Rattle.listing_notes.specs.Notation.{part_name, part_text, range_text, slot_marks, slot_text}
use Rattle.listing_notes.specs.declared.notation.Part.{Part}
use Rattle.listing_notes.specs.declared.notation.Part.TheVariants.{Register, Slot}

-- numbers differ if the test says so
pub differs : (m n : ℕ) → (m == n) ≡ false → m ≡ n → ⊥
differs m n test same = grind (arith, nat_tests)

first-digit : (xs : List ℕ) → 0 < length xs → AreDigits xs → IsDigit (first xs)
first-digit [] some digits = absurd (omega arith)
first-digit (x ∷ xs) some digits = digits.0

decimal-first : (n : ℕ) → n < 2 ^ 64 → IsDigit (first (decimal n))
decimal-first n small = first-digit (decimal n) (decimal_nonempty n small) (decimal-digits n small)

-- a range's text determines its parts
pub record RangeParts : Type 0 where
  pub single : Bool
  pub low : List ℕ
  pub high : List ℕ

abbrev written : RangeParts → List ℕ
written x = range_text x.single x.low x.high

abbrev after_low : Bool → List ℕ → List ℕ
after_low true high = []
after_low false high = codes ".." ++ high

after_low-begins : (single : Bool) (high : List ℕ) → BeginsWith 46 (after_low single high)
after_low-begins true high = tt
after_low-begins false high = refl

range-is : (single : Bool) (low high : List ℕ) → range_text single low high ≡ low ++ after_low single high
range-is true low high = sym (append-nil low)
range-is false low high = append_assoc low (codes "..") high

after_low-injective : (p q : Bool) (b d : List ℕ) → after_low p b ≡ after_low q d → (p ≡ q) × (p ≡ false → b ≡ d)
after_low-injective true true b d same = (refl, λ no. absurd (true≢false no))
after_low-injective true false b d same = let n : 0 ≡ suc (suc (length d)) = ap length same in absurd (omega arith)
after_low-injective false true b d same = let n : suc (suc (length b)) ≡ 0 = ap length same in absurd (omega arith)
after_low-injective false false b d same = (refl, λ _. ap rest (ap rest same))

range-injective : (x y : RangeParts) → excludes 46 x.low ≡ true → excludes 46 y.low ≡ true → written x ≡ written y
    → (x.single ≡ y.single) × (x.low ≡ y.low) × (x.single ≡ false → x.high ≡ y.high)
range-injective x y excluded excluded_other same =
    let both : x.low ++ after_low x.single x.high ≡ y.low ++ after_low y.single y.high =
    sym (range-is x.single x.low x.high) ∙ same ∙ range-is y.single y.low y.high in
    let lows : x.low ≡ y.low = fronts-equal 46 x.low y.low (after_low x.single x.high) (after_low y.single y.high)
    (record { excluded = excluded; begins = after_low-begins x.single x.high })
    (record { excluded = excluded_other; begins = after_low-begins y.single y.high }) both in
    let tails : after_low x.single x.high ≡ after_low y.single y.high =
    append_cancel_left x.low _ _ (both ∙ ap (λ (xs : List ℕ). xs ++ after_low y.single y.high) (sym lows)) in
    let others = after_low-injective x.single y.single x.high y.high tails in
    (others.0, lows, others.1)

-- the first byte of a number's text begins no other text
pub record StartsNumber (byte : ℕ) : Type 0 where
  pub not_unknown : byte ≢ 63
  pub not_frame : byte ≢ 102
  pub not_mark : byte ≢ 109
  pub not_record : byte ≢ 114

starts : (byte : ℕ) → byte ≤ 57 → StartsNumber byte
starts byte small = record {
  not_unknown = λ is. absurd (omega arith);
  not_frame = λ is. absurd (omega arith);
  not_mark = λ is. absurd (omega arith);
  not_record = λ is. absurd (omega arith);
}

first-of-range : (p : Bool) (low high : List ℕ) → 0 < length low → first (range_text p low high) ≡ first low
first-of-range p [] high some = absurd (omega arith)
first-of-range true (x ∷ low) high some = refl
first-of-range false (x ∷ low) high some = refl

-- ends of intervals
abbrev IsEnd : Bool → ℕ → Type 0
IsEnd false number = number < 2 ^ 64
IsEnd true number = (2 ^ 63 ≤ number) × (number < 2 ^ 64)

end-plain : (p : Bool) (n : ℕ) → IsEnd p n → excludes 46 (end_text p n) ≡ true
end-plain false n is = decimal-excludes 46 n (omega arith) is
end-plain true n is = let small : 2 ^ 64 - n < 2 ^ 64 = omega (arith, is.0) in decimal-excludes 46 (2 ^ 64 - n) (omega arith) small

end-some : (p : Bool) (n : ℕ) → IsEnd p n → 0 < length (end_text p n)
end-some false n is = decimal_nonempty n is
end-some true n is = omega arith

end-first : (p : Bool) (n : ℕ) → IsEnd p n → first (end_text p n) ≤ 57
end-first false n is = (decimal-first n is).below
end-first true n is = omega arith

end-injective : (p q : Bool) (m n : ℕ) → IsEnd p m → IsEnd q n → end_text p m ≡ end_text q n → (p ≡ q) × (m ≡ n)
end-injective false false m n is other same = (refl, decimal_injective m n is other same)
end-injective false true m n is other same =
    let above = (decimal-first m is).above in let byte : first (decimal m) ≡ 45 = ap first same in absurd (omega arith)
end-injective true false m n is other same =
    let above = (decimal-first n other).above in let byte : 45 ≡ first (decimal n) = ap first same in absurd (omega arith)
end-injective true true m n is other same =
    let above = is.0 in let below = is.1 in let above_other = other.0 in let below_other = other.1 in
    let equal : 2 ^ 64 - m ≡ 2 ^ 64 - n = decimal_injective _ _ (omega arith) (omega arith) (ap rest same) in
    (refl, omega arith)

is-end : (p : Bool) (low n : ℕ) → nat_le (2 ^ 63) low ≡ p → low ≤ n → n < 2 ^ 64 → IsEnd p n
is-end false low n test above fits = fits
is-end true low n test above fits = let begins : 2 ^ 63 ≤ low = grind (arith, nat_tests) in (omega arith, fits)

low-end : (x : Interval) → interval.IsProper x → IsEnd (begins_negative x) x.low
low-end x proper =
    let ordered = proper.ordered in let fits = proper.fits in is-end (begins_negative x) x.low x.low refl (omega arith) (omega arith)

-- intervals, by whether they contain all numbers
abbrev range_of : Interval → RangeParts
range_of x = record { single = is_single x; low = end_text (begins_negative x) x.low; high = end_text (begins_negative x) x.high }

abbrev shown : Bool → Interval → List ℕ
shown any x = if any then codes "any number" else written (range_of x)

first-of-interval : (x : Interval) → interval.IsProper x → first (written (range_of x)) ≡ first (end_text (begins_negative x) x.low)
first-of-interval x proper =
    let high : List ℕ = end_text (begins_negative x) x.high in
    first-of-range (is_single x) (end_text (begins_negative x) x.low) high (end-some (begins_negative x) x.low (low-end x proper))

shown-first : (any : Bool) (x : Interval) → interval.IsProper x → StartsNumber (first (shown any x))
shown-first true x proper = record {
  not_unknown = λ is. absurd (omega arith);
  not_frame = λ is. absurd (omega arith);
  not_mark = λ is. absurd (omega arith);
  not_record = λ is. absurd (omega arith);
}
shown-first false x proper =
    starts _ (subst (λ (byte : ℕ). byte ≤ 57) (sym (first-of-interval x proper)) (end-first (begins_negative x) x.low (low-end x proper)))

any-differs : (x : Interval) → interval.IsProper x → codes "any number" ≢ written (range_of x)
any-differs x proper same =
    let byte : 97 ≡ first (end_text (begins_negative x) x.low) = ap first same ∙ first-of-interval x proper in
    let below = end-first (begins_negative x) x.low (low-end x proper) in
    absurd (omega arith)

ends-equal : (p : Bool) (x y : Interval) → IsEnd p x.high → IsEnd p y.high → x.low ≡ y.low → is_single x ≡ is_single y
    → (is_single x ≡ false → end_text p x.high ≡ end_text p y.high) → x.high ≡ y.high
ends-equal p x y is other same alike more = by-test (is_single x) refl
  where
    by-test : (single : Bool) → is_single x ≡ single → x.high ≡ y.high
    by-test true one = let other_one : is_single y ≡ true = sym alike ∙ one in grind (arith, nat_tests)
    by-test false several = (end-injective p p x.high y.high is other (more several)).1

ends-of-all : (x : Interval) → is_any x ≡ true → (x.low ≡ 0) × (x.high ≡ 2 ^ 64 - 1)
ends-of-all x all =
    let both = and_parts (x.low == 0) (x.high == 2 ^ 64 - 1) all in
    let first_is : (x.low == 0) ≡ true = both.0 in
    let last_is : (x.high == 2 ^ 64 - 1) ≡ true = both.1 in
    (grind (arith, nat_tests), grind (arith, nat_tests))

same-interval : (low high l h : ℕ) → low ≡ l → high ≡ h → between low high ≡ between l h
same-interval low high l h lows highs = cc

ranges-equal : (x y : Interval) → interval.IsProper x → interval.IsProper y → written (range_of x) ≡ written (range_of y) → x ≡ y
ranges-equal x y proper other same =
    let p : Bool = begins_negative x in
    let end = low-end x proper in
    let end_other = low-end y other in
    let parts = range-injective (range_of x) (range_of y) (end-plain p x.low end) (end-plain (begins_negative y) y.low end_other) same in
    let lows = end-injective p (begins_negative y) x.low y.low end end_other parts.1 in
    let signs : p ≡ begins_negative y = lows.0 in
    let more : is_single x ≡ false → end_text p x.high ≡ end_text p y.high =
    λ several. parts.2 several ∙ ap (λ (b : Bool). end_text b y.high) (sym signs) in
    same-interval x.low x.high y.low y.high lows.1
    (ends-equal p x y (is-end p x.low x.high refl proper.ordered proper.fits) (is-end p y.low y.high (sym signs) other.ordered other.fits) lows.1
    parts.0 more)

pub interval-injective : (x y : Interval) → interval.IsProper x → interval.IsProper y → interval_text x ≡ interval_text y → x ≡ y
interval-injective x y proper other same = by-test (is_any x) (is_any y) refl refl same
  where
    by-test : (any all : Bool) → is_any x ≡ any → is_any y ≡ all → shown any x ≡ shown all y → x ≡ y
    by-test true true all_x all_y same =
        let ends = ends-of-all x all_x in
        let ends_other = ends-of-all y all_y in
        same-interval x.low x.high y.low y.high (ends.0 ∙ sym ends_other.0) (ends.1 ∙ sym ends_other.1)
    by-test true false all_x some_y same = absurd (any-differs y other same)
    by-test false true some_x all_y same = absurd (any-differs x proper (sym same))
    by-test false false some_x some_y same = ranges-equal x y proper other same

interval-first : (x : Interval) → interval.IsProper x → StartsNumber (first (interval_text x))
interval-first x proper = shown-first (is_any x) x proper

-- offsets
signed-plain : (z : ℤ) → FitsSigned w16 z → excludes 46 (signed_decimal z) ≡ true
signed-plain (pos n) fits = decimal-excludes 46 n (omega arith) (omega (arith, ints))
signed-plain (negsuc n) fits = decimal-excludes 46 (suc n) (omega arith) (omega (arith, ints))

signed-injective : (y z : ℤ) → FitsSigned w16 y → FitsSigned w16 z → signed_decimal y ≡ signed_decimal z → y ≡ z
signed-injective y z fits other same = signed_decimal_injective y z (omega (arith, ints)) (omega (arith, ints)) same

highs-equal : (x y : Offsets) (single : Bool) → int_eq x.low x.high ≡ single → x.low ≡ y.low → int_eq x.low x.high ≡ int_eq y.low y.high
    → (int_eq x.low x.high ≡ false → x.high ≡ y.high) → x.high ≡ y.high
highs-equal x y true one same alike more =
    let other : int_eq y.low y.high ≡ true = sym alike ∙ one in grind (arith, ints, Decides-int_eq)
highs-equal x y false several same alike more = more several

same-offsets : (low high l h : ℤ) → low ≡ l → high ≡ h → offsets.between low high ≡ offsets.between l h
same-offsets low high l h lows highs = cc

abbrev offset_range_of : Offsets → RangeParts
offset_range_of x = record { single = int_eq x.low x.high; low = signed_decimal x.low; high = signed_decimal x.high }

pub offsets-injective : (x y : Offsets) → offsets.IsProper x → offsets.IsProper y → offsets_text x ≡ offsets_text y → x ≡ y
offsets-injective x y proper other same =
    let parts = range-injective (offset_range_of x) (offset_range_of y) (signed-plain x.low proper.low) (signed-plain y.low other.low) same in
    let lows : x.low ≡ y.low = signed-injective x.low y.low proper.low other.low parts.1 in
    let highs : x.high ≡ y.high = highs-equal x y _ refl lows parts.0
    (λ several. signed-injective x.high y.high proper.high other.high (parts.2 several)) in
    same-offsets x.low x.high y.low y.high lows highs

-- kinds
pub kind-injective : (k l : Kind) → kind.IsProper k → kind.IsProper l → kind_text k ≡ kind_text l → k ≡ l
kind-injective (Number x) (Number y) proper other same = ap Number (interval-injective x y proper other same)
kind-injective (Number x) (Record y) proper other same = absurd ((interval-first x proper).not_record (ap first same))
kind-injective (Number x) (Frame y) proper other same = absurd ((interval-first x proper).not_frame (ap first same))
kind-injective (Number x) Nothing proper other same = absurd ((interval-first x proper).not_unknown (ap first same))
kind-injective (Record x) (Number y) proper other same = absurd ((interval-first y other).not_record (sym (ap first same)))
kind-injective (Record x) (Record y) proper other same =
    ap Record (offsets-injective x y proper other (append_cancel_left (codes "record + ") _ _ same))
kind-injective (Record x) (Frame y) proper other same = absurd (differs 114 102 refl (ap first same))
kind-injective (Record x) Nothing proper other same = absurd (differs 114 63 refl (ap first same))
kind-injective (Frame x) (Number y) proper other same = absurd ((interval-first y other).not_frame (sym (ap first same)))
kind-injective (Frame x) (Record y) proper other same = absurd (differs 102 114 refl (ap first same))
kind-injective (Frame x) (Frame y) proper other same =
    ap Frame (offsets-injective x y proper other (append_cancel_left (codes "frame + ") _ _ same))
kind-injective (Frame x) Nothing proper other same = absurd (differs 102 63 refl (ap first same))
kind-injective Nothing (Number y) proper other same = absurd ((interval-first y other).not_unknown (sym (ap first same)))
kind-injective Nothing (Record y) proper other same = absurd (differs 63 114 refl (ap first same))
kind-injective Nothing (Frame y) proper other same = absurd (differs 63 102 refl (ap first same))
kind-injective Nothing Nothing proper other same = refl

-- slots: a text of marks isn't the text of any kind
data IsMarkCode (byte : ℕ) : Type 0 where
  Written : byte ≡ 109 → IsMarkCode byte
  Unknown : byte ≡ 63 → IsMarkCode byte

mark-is : (mark : Bool) → IsMarkCode (mark_code mark)
mark-is true = Written refl
mark-is false = Unknown refl

not-number : (byte : ℕ) → IsMarkCode byte → StartsNumber byte → ⊥
not-number byte (Written is) starts = starts.not_mark is
not-number byte (Unknown is) starts = starts.not_unknown is

not-record : (byte : ℕ) → IsMarkCode byte → byte ≡ 114 → ⊥
not-record byte (Written is) other = absurd (omega arith)
not-record byte (Unknown is) other = absurd (omega arith)

not-frame : (byte : ℕ) → IsMarkCode byte → byte ≡ 102 → ⊥
not-frame byte (Written is) other = absurd (omega arith)
not-frame byte (Unknown is) other = absurd (omega arith)

marks-first : (marks : List Bool) → 0 < length marks → IsMarkCode (first (marks_text marks))
marks-first [] some = absurd (omega arith)
marks-first (mark ∷ marks) some = mark-is mark

-- a slot of a kind, with the marks of its bytes
abbrev pub CanHold : Kind → List Bool → Type 0
CanHold k marks = kind.IsProper k × (0 < length marks)

pub held-injective : (k l : Kind) (marks others : List Bool) → CanHold k marks → CanHold l others
    → held_text k marks ≡ held_text l others → (k ≡ l) × (k ≡ Nothing → marks_text marks ≡ marks_text others)
held-injective Nothing Nothing marks others slot other same = (refl, λ _. same)
held-injective Nothing (Number y) marks others slot other same =
    absurd (not-number _ (marks-first marks slot.1) (subst StartsNumber (sym (ap first same)) (interval-first y other.0)))
held-injective Nothing (Record y) marks others slot other same = absurd (not-record _ (marks-first marks slot.1) (ap first same))
held-injective Nothing (Frame y) marks others slot other same = absurd (not-frame _ (marks-first marks slot.1) (ap first same))
held-injective (Number x) Nothing marks others slot other same =
    absurd (not-number _ (marks-first others other.1) (subst StartsNumber (ap first same) (interval-first x slot.0)))
held-injective (Record x) Nothing marks others slot other same = absurd (not-record _ (marks-first others other.1) (sym (ap first same)))
held-injective (Frame x) Nothing marks others slot other same = absurd (not-frame _ (marks-first others other.1) (sym (ap first same)))
held-injective (Number x) (Number y) marks others slot other same =
    (kind-injective (Number x) (Number y) slot.0 other.0 same, λ no. absurd (search rules))
held-injective (Number x) (Record y) marks others slot other same =
    (kind-injective (Number x) (Record y) slot.0 other.0 same, λ no. absurd (search rules))
held-injective (Number x) (Frame y) marks others slot other same =
    (kind-injective (Number x) (Frame y) slot.0 other.0 same, λ no. absurd (search rules))
held-injective (Record x) (Number y) marks others slot other same =
    (kind-injective (Record x) (Number y) slot.0 other.0 same, λ no. absurd (search rules))
held-injective (Record x) (Record y) marks others slot other same =
    (kind-injective (Record x) (Record y) slot.0 other.0 same, λ no. absurd (search rules))
held-injective (Record x) (Frame y) marks others slot other same =
    (kind-injective (Record x) (Frame y) slot.0 other.0 same, λ no. absurd (search rules))
held-injective (Frame x) (Number y) marks others slot other same =
    (kind-injective (Frame x) (Number y) slot.0 other.0 same, λ no. absurd (search rules))
held-injective (Frame x) (Record y) marks others slot other same =
    (kind-injective (Frame x) (Record y) slot.0 other.0 same, λ no. absurd (search rules))
held-injective (Frame x) (Frame y) marks others slot other same =
    (kind-injective (Frame x) (Frame y) slot.0 other.0 same, λ no. absurd (search rules))

same-mark : (a b : Bool) → mark_code a ≡ mark_code b → a ≡ b
same-mark true true same = refl
same-mark true false same = absurd (omega arith)
same-mark false true same = absurd (omega arith)
same-mark false false same = refl

same-marks : (marks others : List Bool) → marks_text marks ≡ marks_text others → marks ≡ others
same-marks [] [] same = refl
same-marks [] (other ∷ others) same = let n : 0 ≡ suc (length (marks_text others)) = ap length same in absurd (omega arith)
same-marks (mark ∷ marks) [] same = let n : suc (length (marks_text marks)) ≡ 0 = ap length same in absurd (omega arith)
same-marks (mark ∷ marks) (other ∷ others) same =
    let head : mark ≡ other = same-mark mark other (ap first same) in
    let more : marks ≡ others = same-marks marks others (ap rest same) in
    cc

mark-in-slot : (marks : List Bool) (slot byte : ℕ) → byte < SLOT_LENGTH
    → get_or (slot_marks marks slot) byte false ≡ get_or marks (SLOT_LENGTH * slot + byte) false
mark-in-slot marks slot byte within =
    get_or-map-range_with_len (λ (at : ℕ). get_or marks (SLOT_LENGTH * slot + at) false) 0 SLOT_LENGTH byte byte false within (omega arith)

length-slot_marks : (marks : List Bool) (slot : ℕ) → length (slot_marks marks slot) ≡ SLOT_LENGTH
length-slot_marks marks slot =
    length-map-range_with_len (λ (at : ℕ). get_or marks (SLOT_LENGTH * slot + at) false) 0 SLOT_LENGTH

some-marks : (marks : List Bool) (slot : ℕ) → 0 < length (slot_marks marks slot)
some-marks marks slot = let count = length-slot_marks marks slot in omega arith

marks-injective : (marks others : List Bool) (slot byte : ℕ) → byte < SLOT_LENGTH
    → marks_text (slot_marks marks slot) ≡ marks_text (slot_marks others slot)
    → get_or marks (SLOT_LENGTH * slot + byte) false ≡ get_or others (SLOT_LENGTH * slot + byte) false
marks-injective marks others slot byte within same =
    sym (mark-in-slot marks slot byte within) ∙ ap (λ (xs : List Bool). get_or xs byte false) (same-marks (slot_marks marks slot) (slot_marks others slot) same)
    ∙ mark-in-slot others slot byte within

same-fit : (k : Kind) (a b : Bool) → FitsKind k a → FitsKind k b → (k ≡ Nothing → a ≡ b) → a ≡ b
same-fit (Number x) a b fit other same = fit ∙ sym other
same-fit (Record x) a b fit other same = fit ∙ sym other
same-fit (Frame x) a b fit other same = fit ∙ sym other
same-fit Nothing a b fit other same = same refl

-- a slot's text determines its kind and the marks of its bytes
slot-injective : (x y : Contents) (slot : ℕ) → map.IsProper x → map.IsProper y → slot_text x slot ≡ slot_text y slot
    → (slot_kind x slot ≡ slot_kind y slot) × (slot_kind x slot ≡ Nothing → marks_text (slot_marks x.marks slot) ≡ marks_text (slot_marks y.marks slot))
slot-injective x y slot proper other same =
    held-injective (slot_kind x slot) (slot_kind y slot) (slot_marks x.marks slot) (slot_marks y.marks slot)
    (proper.kinds slot, some-marks x.marks slot) (other.kinds slot, some-marks y.marks slot) same

pub slot-kinds : (x y : Contents) (slot : ℕ) → map.IsProper x → map.IsProper y → slot_text x slot ≡ slot_text y slot
    → slot_kind x slot ≡ slot_kind y slot
slot-kinds x y slot proper other same = (slot-injective x y slot proper other same).0

pub mark-at : (x y : Contents) (at : ℕ) → map.IsProper x → map.IsProper y → slot_text x (at / SLOT_LENGTH) ≡ slot_text y (at / SLOT_LENGTH)
    → get_or x.marks at false ≡ get_or y.marks at false
mark-at x y at proper other same =
    let slot : ℕ = at / SLOT_LENGTH in
    let byte : ℕ = at % SLOT_LENGTH in
    let held = slot-injective x y slot proper other same in
    let place : SLOT_LENGTH * slot + byte ≡ at = omega arith in
    same-fit (slot_kind x slot) _ _ (proper.fit at) (subst (λ (k : Kind). FitsKind k (get_or y.marks at false)) (sym held.0) (other.fit at))
    (λ nothing. subst (λ (n : ℕ). get_or x.marks n false ≡ get_or y.marks n false) place
    (marks-injective x.marks y.marks slot byte (omega arith) (held.1 nothing)))

pub slot-marks : (x y : Contents) (slot : ℕ) → map.IsProper x → map.IsProper y → slot_text x slot ≡ slot_text y slot
    → slot_marks x.marks slot ≡ slot_marks y.marks slot
slot-marks x y slot proper other same =
    ext_get_or false _ _ (length-slot_marks x.marks slot ∙ sym (length-slot_marks y.marks slot))
    (λ byte within. let count = length-slot_marks x.marks slot in
    let place : (SLOT_LENGTH * slot + byte) / SLOT_LENGTH ≡ slot = omega arith in
    mark-in-slot x.marks slot byte (omega arith)
    ∙ mark-at x y (SLOT_LENGTH * slot + byte) proper other (subst (λ (n : ℕ). slot_text x n ≡ slot_text y n) (sym place) same)
    ∙ sym (mark-in-slot y.marks slot byte (omega arith)))

-- the texts of all slots determine the map
frames-equal : (x y : Contents) → map.IsProper x → map.IsProper y → ((slot : ℕ) → slot < SLOTS → slot_text x slot ≡ slot_text y slot) → x ≡ y
frames-equal x y proper other same = same_maps x y
    (ext_get_or false x.marks y.marks (proper.count ∙ sym other.count)
    (λ at within. mark-at x y at proper other (let count = proper.count in same (at / SLOT_LENGTH) (omega arith))))
    (ext_get_or Nothing x.kinds y.kinds (proper.slots ∙ sym other.slots)
    (λ slot within. slot-kinds x y slot proper other (let count = proper.slots in same slot (omega arith))))

same-known : (registers others : List Kind) (frame other : Contents) → registers ≡ others → frame ≡ other
    → let x : AbstractState = record { registers = registers; frame = frame } in let y : AbstractState = record { registers = others; frame = other } in x ≡ y
same-known registers others frame other registers_same frames_same = cc

pub states-equal : (x y : AbstractState) → IsProperState x → IsProperState y → ((part : Part) → IsPart part → part_text x part ≡ part_text y part) → x ≡ y
states-equal x y proper other same = same-known x.registers y.registers x.frame y.frame
    (ext_get_or Nothing x.registers y.registers (proper.count ∙ sym other.count)
    (λ register within. let count = proper.count in kind-injective _ _ (proper.kinds register) (other.kinds register)
    (same (Register register) (omega arith))))
    (frames-equal x.frame y.frame proper.frame other.frame (λ slot within. same (Slot slot) within))

-- names
pub names-differ : (x y : Part) → IsPart x → IsPart y → part_name x ≡ part_name y → x ≡ y
names-differ (Register x) (Register y) is other same =
    ap Register (decimal_injective x y (omega arith) (omega arith) (ap rest same))
names-differ (Register x) (Slot y) is other same = absurd (differs 114 91 refl (ap first same))
names-differ (Slot x) (Register y) is other same = absurd (differs 91 114 refl (ap first same))
names-differ (Slot x) (Slot y) is other same =
    let numbers = append_cancel_right (decimal (FRAME_LENGTH - SLOT_LENGTH * x)) (decimal (FRAME_LENGTH - SLOT_LENGTH * y)) (codes "]")
    (append_cancel_left (codes "[r10-") _ _ same) in
    let equal : FRAME_LENGTH - SLOT_LENGTH * x ≡ FRAME_LENGTH - SLOT_LENGTH * y =
    decimal_injective (FRAME_LENGTH - SLOT_LENGTH * x) (FRAME_LENGTH - SLOT_LENGTH * y) (omega arith) (omega arith) numbers in
    ap Slot (omega arith)

-- whether the texts are the same is whether what is known is the same
pub kinds-same : (k l : Kind) (test : Bool) → kind.IsProper k → kind.IsProper l → Decides test (k ≡ l)
    → test ≡ bytes_eq (kind_text k) (kind_text l)
kinds-same k l test proper other decides = same_tests test (bytes_eq (kind_text k) (kind_text l))
    (λ same. decides.1 (kind-injective k l proper other ((bytes_eq-Decides (kind_text k) (kind_text l)).0 same)))
    (λ same. (bytes_eq-Decides (kind_text k) (kind_text l)).1 (ap kind_text (decides.0 same)))

held-same : (k l : Kind) (marks others : List Bool) → k ≡ l → marks ≡ others → held_text k marks ≡ held_text l others
held-same k l marks others kinds_same marks_same = ap (λ (kind : Kind). held_text kind marks) kinds_same ∙ ap (held_text l) marks_same

pub slot-texts-same : (x y : Contents) (slot : ℕ) → map.IsProper x → map.IsProper y
    → Decides (bytes_eq (slot_text x slot) (slot_text y slot)) ((slot_kind x slot ≡ slot_kind y slot) × (slot_marks x.marks slot ≡ slot_marks y.marks slot))
slot-texts-same x y slot proper other = (
  (λ same. let texts = (bytes_eq-Decides (slot_text x slot) (slot_text y slot)).0 same in
      (slot-kinds x y slot proper other texts, slot-marks x y slot proper other texts)),
  (λ both. (bytes_eq-Decides (slot_text x slot) (slot_text y slot)).1
      (held-same (slot_kind x slot) (slot_kind y slot) (slot_marks x.marks slot) (slot_marks y.marks slot) both.0 both.1)),
)

-- two tests of the same are equal
pub both-decide : {A B : Type 0} (p q test : Bool) → Decides p A → Decides q B → Decides test (A × B) → (p && q) ≡ test
both-decide p q test decides_p decides_q decides = same_tests (p && q) test
    (λ same. let both = decides.0 same in and_from p q (decides_p.1 both.0) (decides_q.1 both.1))
    (λ same. let both = and_parts p q same in decides.1 (decides_p.0 both.0, decides_q.0 both.1))

pub decides-same : (test : Bool) (k l m n : Kind) → k ≡ m → l ≡ n → Decides test (k ≡ l) → Decides test (m ≡ n)
decides-same test k l m n first_is second_is decides =
    ((λ yes. sym first_is ∙ decides.0 yes ∙ second_is), (λ same. decides.1 (first_is ∙ same ∙ sym second_is)))

pub marks-decide : (marks others xs ys : List Bool) (test : Bool) → marks ≡ xs → others ≡ ys → test ≡ pointwise beq marks others → Decides test (xs ≡ ys)
marks-decide marks others xs ys test first_is second_is is =
    slice_eq-Decides booleans_Decides xs ys test (is ∙ ap (λ zs. pointwise beq zs others) first_is ∙ ap (pointwise beq xs) second_is)
