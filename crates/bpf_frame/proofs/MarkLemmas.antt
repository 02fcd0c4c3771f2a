-- The marks of single bytes after bytes are marked, tested and joined.
use Rattle.std.proofs.Common.{◌≡◌, ◌≢◌, ℕ, ◌+◌, ◌*◌, ◌/◌, add-zero, ◌<◌, ◌≤◌, Bool, true, false, ◌⊎◌, List, length, get_or, inl, inr, refl}
use Rattle.std.proofs.Common.{◌∙◌, sym, arith}
use Rattle.std.proofs.lemmas.Bool.{cases_lt}
use Rattle.std.proofs.lemmas.List.{append-nil, take-append-drop}
use Rattle.bpf_frame.specs.FrameMap.{Contents, IsMarked, AllWritten, with_marks, fit_marks, IsWithin}
use Rattle.bpf_frame.proofs.SlotLemmas.{length-filled, get_or-filled_before, get_or-filled_inside, get_or-filled_after}
use Rattle.bpf_insn.specs.declared.memory.TheConstants.{SLOT_LENGTH}
use Rattle.bpf_kinds.specs.declared.kind.Kind.{Kind}
use Rattle.bpf_kinds.specs.declared.kind.Kind.TheVariants.{Number, Nothing}

pub length-with_marks : (b : Bool) (marks : List Bool) (from len : ℕ) → from + len ≤ length marks
    → length (with_marks b marks from len) ≡ length marks
length-with_marks b marks from len within = length-filled b marks from len (from + len) refl within

-- the marks of the bytes in the range
pub get_or-with_marks : (b : Bool) (marks : List Bool) (from len at : ℕ) → from + len ≤ length marks → from ≤ at → at < from + len
    → get_or (with_marks b marks from len) at false ≡ b
get_or-with_marks b marks from len at within above below = get_or-filled_inside b marks from len (from + len) false at refl within above
    below

-- the marks of all other bytes are unchanged
pub get_or-other_marks : (b : Bool) (marks : List Bool) (from len at : ℕ) → from + len ≤ length marks → (from ≤ at → at < from + len → ⊥)
    → get_or (with_marks b marks from len) at false ≡ get_or marks at false
get_or-other_marks b marks from len at within outside =
    elim (cases_lt at from) [
      | inl before ↦ get_or-filled_before b marks from len (from + len) false at refl within before
      | inr above ↦
          elim (cases_lt at (from + len)) [
            | inl below ↦ absurd (outside above below)
            | inr beyond ↦ get_or-filled_after b marks from len (from + len) false at refl within beyond
          ]
    ]

-- each byte in the range is marked
pub marked_inside : (marks : List Bool) (from len at : ℕ) → from + len ≤ length marks → from ≤ at → at < from + len
    → IsMarked (with_marks true marks from len) at
marked_inside = get_or-with_marks true

-- a byte is one of a range, or it isn't
inside_or_not : (from end at : ℕ) → ((from ≤ at) × (at < end)) ⊎ (from ≤ at → at < end → ⊥)
inside_or_not from end at =
    elim (cases_lt at from) [
      | inl before ↦ inr (λ above below. absurd (omega arith))
      | inr above ↦ elim (cases_lt at end) [
        | inl below ↦ inl (above, below)
        | inr beyond ↦ inr (λ first below. absurd (omega arith))
      ]
    ]

-- a byte is marked for one of two reasons: it was marked before, or it is in the range
pub marked_before_or_inside : (marks : List Bool) (from len at : ℕ) → from + len ≤ length marks
    → IsMarked (with_marks true marks from len) at → IsMarked marks at ⊎ ((from ≤ at) × (at < from + len))
marked_before_or_inside marks from len at within marked =
    elim (inside_or_not from (from + len) at) [
      | inl inside ↦ inr inside
      | inr outside ↦ inl (sym (get_or-other_marks true marks from len at within outside) ∙ marked)
    ]

-- no mark is removed
pub mark_preserves : (marks : List Bool) (from len at : ℕ) → from + len ≤ length marks → IsMarked marks at
    → IsMarked (with_marks true marks from len) at
mark_preserves marks from len at within marked =
    elim (inside_or_not from (from + len) at) [
      | inl inside ↦ marked_inside marks from len at within inside.0 inside.1
      | inr outside ↦ get_or-other_marks true marks from len at within outside ∙ marked
    ]

-- marking no bytes changes no marks
pub mark_none : (marks : List Bool) (from : ℕ) → from ≤ length marks → with_marks true marks from 0 ≡ marks
mark_none marks from within = simp (append-nil, add-zero, take-append-drop)

-- fitting marks to a slot's kind keeps their number, and the marks of the bytes of other slots
pub length-fit_marks : (k : Kind) (marks : List Bool) (slot : ℕ) → SLOT_LENGTH * slot + SLOT_LENGTH ≤ length marks
    → length (fit_marks k marks slot) ≡ length marks
length-fit_marks (Number x) marks slot within = length-with_marks true marks (SLOT_LENGTH * slot) SLOT_LENGTH within
length-fit_marks Nothing marks slot within = refl
length-fit_marks pointer marks slot within = length-with_marks false marks (SLOT_LENGTH * slot) SLOT_LENGTH within

pub get_or-unfit_marks : (k : Kind) (marks : List Bool) (slot at : ℕ) → SLOT_LENGTH * slot + SLOT_LENGTH ≤ length marks
    → at / SLOT_LENGTH ≢ slot → get_or (fit_marks k marks slot) at false ≡ get_or marks at false
get_or-unfit_marks (Number x) marks slot at within other = get_or-other_marks true marks (SLOT_LENGTH * slot) SLOT_LENGTH at within
    (λ above below. other (omega arith))
get_or-unfit_marks Nothing marks slot at within other = refl
get_or-unfit_marks pointer marks slot at within other = get_or-other_marks false marks (SLOT_LENGTH * slot) SLOT_LENGTH at within
    (λ above below. other (omega arith))

-- a map within another one has at least its bytes written
pub all_written_within : (map other : Contents) (from to : ℕ) → IsWithin map other → AllWritten other.marks from to
    → AllWritten map.marks from to
all_written_within map other from to within all = λ at above below. within.marks at (all at above below)
