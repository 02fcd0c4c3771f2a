-- Maps stay proper: each kind is proper, and each mark fits the kind of its byte's slot.
use Rattle.std.proofs.Common.{◌≡◌, ℕ, zero, suc, ◌+◌, ◌-◌, ◌*◌, ◌/◌, ◌<◌, ◌≤◌, Bool, true, false, List, length, get_or, replicate, refl}
use Rattle.std.proofs.Common.{◌∙◌, sym, subst, arith}
use Rattle.std.specs.Prelude.{IsTrue}
use Rattle.std.proofs.lemmas.Bool.{both_ways}
use Rattle.std.proofs.lemmas.List.{length-replicate, length-set}
use Rattle.bpf_frame.specs.FrameMap.{Contents, IsProper, IsMarked, FitsKind, slot_kind, touch, mark, set_slot, fit_marks}
use Rattle.bpf_frame.specs.FrameMap.{with_marks, unwritten}
use Rattle.bpf_frame.proofs.MarkLemmas.{length-with_marks, get_or-with_marks, get_or-other_marks, length-fit_marks, get_or-unfit_marks}
use Rattle.bpf_frame.proofs.SlotLemmas.{length-filled, touch_each, mark_each, set_kind_each}
use Rattle.bpf_insn.specs.declared.memory.TheConstants.{FRAME_LENGTH, SLOT_LENGTH, SLOTS}
use Rattle.bpf_kinds.specs.Kind as kind
use Rattle.bpf_kinds.specs.declared.kind.Kind.{Kind}
use Rattle.bpf_kinds.specs.declared.kind.Kind.TheVariants.{Number, Record, Frame, Nothing}

length-touched : (map : Contents) (from to : ℕ) → IsProper map → from ≤ to → to < FRAME_LENGTH → length (touch map from to).kinds ≡ SLOTS
length-touched map from to proper ordered within =
    length-filled Nothing map.kinds (from / SLOT_LENGTH) (to / SLOT_LENGTH + 1 - from / SLOT_LENGTH) (to / SLOT_LENGTH + 1) (omega arith)
    (omega (arith, proper.slots)) ∙ proper.slots

pub touch_is_proper : (map : Contents) (from to : ℕ) → IsProper map → from ≤ to → to < FRAME_LENGTH → IsProper (touch map from to)
touch_is_proper map from to proper ordered within = record {
  count = proper.count;
  slots = length-touched map from to proper ordered within;
  kinds = touch_each from to proper ordered within (λ slot. kind.IsProper) (λ slot at above below same. tt)
      (λ slot apart. proper.kinds slot);
  fit = λ at.
      touch_each from to proper ordered within (λ slot k. at / SLOT_LENGTH ≡ slot → FitsKind k (get_or map.marks at false))
      (λ slot touched above below lies same. tt)
      (λ slot apart same. subst (λ (n : ℕ). FitsKind (slot_kind map n) (get_or map.marks at false)) same (proper.fit at))
      (at / SLOT_LENGTH) refl;
}

-- bytes in the frame have marks
pub in_frame : (map : Contents) (end : ℕ) → IsProper map → end ≤ FRAME_LENGTH → end ≤ length map.marks
in_frame map end proper within = subst (λ (n : ℕ). end ≤ n) (sym proper.count) within

length-marked : (map : Contents) (from len : ℕ) → IsProper map → from + len ≤ FRAME_LENGTH → length (mark map from len).kinds ≡ SLOTS
length-marked map from zero proper within = proper.slots
length-marked map from (suc more) proper within = length-touched map from (from + more) proper (omega arith) (omega arith)

pub mark_is_proper : (map : Contents) (from len : ℕ) → IsProper map → from + len ≤ FRAME_LENGTH → IsProper (mark map from len)
mark_is_proper map from len proper within = record {
  count = length-with_marks true map.marks from len (in_frame map (from + len) proper within) ∙ proper.count;
  slots = length-marked map from len proper within;
  kinds = mark_each from len proper within (λ slot. kind.IsProper) (λ slot at above below same. tt) (λ slot apart. proper.kinds slot);
  fit = λ at.
      mark_each from len proper within
      (λ slot k. at / SLOT_LENGTH ≡ slot → FitsKind k (get_or (with_marks true map.marks from len) at false))
      (λ slot first above below lies same. tt)
      (λ slot apart same.
      subst (FitsKind (slot_kind map slot)) (sym (get_or-other_marks true map.marks from len at (in_frame map (from + len) proper within)
      (λ above below. apart at above below same)))
      (subst (λ (n : ℕ). FitsKind (slot_kind map n) (get_or map.marks at false)) same (proper.fit at)))
      (at / SLOT_LENGTH) refl;
}

-- a slot's bytes are in the frame
pub slot_in_frame : (map : Contents) (slot : ℕ) → IsProper map → slot < SLOTS → SLOT_LENGTH * slot + SLOT_LENGTH ≤ length map.marks
slot_in_frame map slot proper within = in_frame map (SLOT_LENGTH * slot + SLOT_LENGTH) proper (omega arith)

-- the marks of a slot's bytes, fitted to its kind
pub fit_here : (k : Kind) (marks : List Bool) (slot at : ℕ) → SLOT_LENGTH * slot + SLOT_LENGTH ≤ length marks → at / SLOT_LENGTH ≡ slot
    → FitsKind k (get_or (fit_marks k marks slot) at false)
fit_here (Number x) marks slot at within same = get_or-with_marks true marks (SLOT_LENGTH * slot) SLOT_LENGTH at within (omega arith)
    (omega arith)
fit_here Nothing marks slot at within same = tt
fit_here pointer marks slot at within same = get_or-with_marks false marks (SLOT_LENGTH * slot) SLOT_LENGTH at within (omega arith)
    (omega arith)

pub set_slot_is_proper : (map : Contents) (slot : ℕ) (k : Kind) → IsProper map → slot < SLOTS → kind.IsProper k
    → IsProper (set_slot map slot k)
set_slot_is_proper map slot k proper within is_proper =
    let inside : slot < length map.kinds = omega (arith, proper.slots) in
    let marks = slot_in_frame map slot proper within in
    record {
      count = length-fit_marks k map.marks slot marks ∙ proper.count;
      slots = length-set map.kinds slot k ∙ proper.slots;
      kinds = set_kind_each map.kinds slot k inside (λ other. kind.IsProper) is_proper (λ other apart. proper.kinds other);
      fit = λ at.
          set_kind_each map.kinds slot k inside (λ other l. at / SLOT_LENGTH ≡ other
          → FitsKind l (get_or (fit_marks k map.marks slot) at false))
          (fit_here k map.marks slot at marks)
          (λ other apart same.
          subst (FitsKind (slot_kind map other)) (sym (get_or-unfit_marks k map.marks slot at marks (λ here. apart (sym same ∙ here))))
          (subst (λ (n : ℕ). FitsKind (slot_kind map n) (get_or map.marks at false)) same (proper.fit at)))
          (at / SLOT_LENGTH) refl;
    }

-- the elements of a list that repeats one element
pub get_or-alike : {X : Type 0} (n at : ℕ) (x : X) → get_or (replicate n x) at x ≡ x
get_or-alike zero at x = refl
get_or-alike (suc n) zero x = refl
get_or-alike (suc n) (suc at) x = get_or-alike n at x

-- a map in which nothing is known is proper
pub unwritten_is_proper : IsProper unwritten
unwritten_is_proper = record {
  count = length-replicate FRAME_LENGTH false;
  slots = length-replicate SLOTS Nothing;
  kinds = λ slot. subst kind.IsProper (sym (get_or-alike SLOTS slot Nothing)) tt;
  fit = λ at. subst (λ (k : Kind). FitsKind k (get_or (replicate FRAME_LENGTH false) at false))
      (sym (get_or-alike SLOTS (at / SLOT_LENGTH) Nothing)) tt;
}

-- a kind that is no pointer
abbrev pub IsNoPointer : Kind → Type 0
IsNoPointer (Number x) = Unit {0}
IsNoPointer (Record x) = ⊥
IsNoPointer (Frame x) = ⊥
IsNoPointer Nothing = Unit {0}

no_pointer : (k : Kind) (mark : Bool) → FitsKind k mark → IsTrue mark → IsNoPointer k
no_pointer (Number x) mark fits marked = tt
no_pointer Nothing mark fits marked = tt
no_pointer pointer mark fits marked = both_ways mark fits marked

-- a slot with a marked byte holds no pointer
pub no_pointer_at_mark : (map : Contents) (slot at : ℕ) → IsProper map → at / SLOT_LENGTH ≡ slot → IsMarked map.marks at
    → IsNoPointer (slot_kind map slot)
no_pointer_at_mark map slot at proper same marked =
    no_pointer (slot_kind map slot) _ (subst (λ (n : ℕ). FitsKind (slot_kind map n) (get_or map.marks at false)) same (proper.fit at))
    marked
