-- Operations on maps are monotone: a lower map has more bytes written, and stays lower if the same happens to both.
use Rattle.std.proofs.Common.{◌≡◌, ◌≢◌, ℕ, zero, suc, ◌+◌, ◌*◌, ◌/◌, ◌<◌, ◌≤◌, false, length, inl, inr, refl, ◌∙◌, sym, subst, arith}
use Rattle.std.specs.Prelude.{IsTrue}
use Rattle.std.proofs.lemmas.Bool.{both_ways, cases_eq}
use Rattle.bpf_frame.proofs.MarkLemmas.{mark_preserves, marked_inside, marked_before_or_inside, get_or-with_marks, get_or-unfit_marks}
use Rattle.bpf_frame.proofs.ProperLemmas.{in_frame, slot_in_frame, touch_is_proper}
use Rattle.bpf_frame.proofs.ReadLemmas.{written_at, written_from}
use Rattle.bpf_frame.proofs.SlotLemmas.{slot_kind-touched, touch_each, mark_each, set_kind_each}
use Rattle.bpf_frame.specs.FrameMap.{Contents, IsProper, IsMarked, IsWithin, slot_kind, all_written, mark, touch, set_slot, fit_marks}
use Rattle.bpf_insn.specs.declared.memory.TheConstants.{FRAME_LENGTH, SLOT_LENGTH, SLOTS}
use Rattle.bpf_kinds.specs.Kind as kind
use Rattle.bpf_kinds.proofs.KindLemmas.{within-nothing}
use Rattle.bpf_kinds.proofs.ListLemmas.{set_both}
use Rattle.bpf_kinds.specs.declared.interval.Interval.{Interval}
use Rattle.bpf_kinds.specs.declared.kind.Kind.{Kind}
use Rattle.bpf_kinds.specs.declared.kind.Kind.TheVariants.{Number, Nothing}

-- a map that lies within another still does after bytes of the other are touched
pub touch_widens : {x a : Contents} (low high : ℕ) → IsProper a → low ≤ high → high < FRAME_LENGTH → IsWithin x a
    → IsWithin x (touch a low high)
touch_widens {x} low high proper-a ordered short within = record {
  marks = λ at marked. within.marks at marked;
  kinds = touch_each low high proper-a ordered short (λ slot k. kind.IsWithin (slot_kind x slot) k)
      (λ slot at above below same. within-nothing (slot_kind x slot)) (λ slot apart. within.kinds slot);
}

-- a lower map and a higher one
module _ {x a : Contents} (proper-x : IsProper x) (proper-a : IsProper a) where
  -- marks of the lower map, which has more bytes marked
  marks_within_touched : (from len less at : ℕ) → from + len ≤ FRAME_LENGTH → less ≤ len → ((at : ℕ) → IsMarked a.marks at → IsMarked x.marks at)
      → IsMarked (mark a from less).marks at → IsMarked (mark x from len).marks at
  marks_within_touched from len less at short fewer within marked =
      let fits = in_frame x (from + len) proper-x short in
      elim (marked_before_or_inside a.marks from less at (in_frame a (from + less) proper-a (omega arith)) marked) [
        | inl old ↦ mark_preserves x.marks from len at fits (within at old)
        | inr inside ↦ marked_inside x.marks from len at fits inside.0 (omega (arith, inside.1))
      ]

  module _ {slot : ℕ} where
    -- a byte of a slot that is marked if the slot is set to a kind is marked if the slot is set to a kind within it
    fit_both : (k l : Kind) (at : ℕ) → slot < SLOTS → l ≢ Nothing → kind.IsWithin k l → at / SLOT_LENGTH ≡ slot
        → IsMarked (fit_marks l a.marks slot) at → IsMarked (fit_marks k x.marks slot) at
    fit_both (Number n) (Number m) at inside known below same marked =
        marked_inside x.marks (SLOT_LENGTH * slot) SLOT_LENGTH at (slot_in_frame x slot proper-x inside) (omega arith) (omega arith)
    fit_both k (Number m) at inside known below same marked = absurd below
    fit_both k Nothing at inside known below same marked = absurd (known refl)
    fit_both k l at inside known below same marked =
        let fits = slot_in_frame a slot proper-a inside in
        absurd (both_ways _ (get_or-with_marks false a.marks (SLOT_LENGTH * slot) SLOT_LENGTH at fits (omega arith) (omega arith)) marked)

  -- the lower one lies within the higher one after bytes of the higher one are touched
  module _ (low high : ℕ) (short : high < FRAME_LENGTH) (within : IsWithin x (touch a low high)) where
    -- nothing is known of touched slots, so every kind lies within what is known of them
    within_touched : (k : Kind) (slot : ℕ) → low ≤ high → low / SLOT_LENGTH ≤ slot → slot ≤ high / SLOT_LENGTH
        → kind.IsWithin k (slot_kind (touch a low high) slot)
    within_touched k slot ordered above below =
        subst (kind.IsWithin k) (sym (slot_kind-touched low high proper-a ordered short slot above below)) (within-nothing k)

    -- bytes within this range may be touched in the lower one
    pub touch_lowers : (from to : ℕ) → low ≤ from → from ≤ to → to ≤ high → IsWithin (touch x from to) (touch a low high)
    touch_lowers from to above ordered below = record {
      marks = λ at marked. within.marks at marked;
      kinds = touch_each from to proper-x ordered (omega arith) (λ slot k. kind.IsWithin k (slot_kind (touch a low high) slot))
          (λ slot at first last same. within_touched Nothing slot (omega arith) (omega arith) (omega arith))
          (λ slot apart. within.kinds slot);
    }

    -- and marked
    pub mark_lowers : (from len : ℕ) → low ≤ from → from + len ≤ high + 1 → low ≤ high → IsWithin (mark x from len) (touch a low high)
    mark_lowers from len above below ordered = record {
      marks = λ at marked. mark_preserves x.marks from len at (in_frame x (from + len) proper-x (omega arith)) (within.marks at marked);
      kinds = mark_each from len proper-x (omega arith) (λ slot k. kind.IsWithin k (slot_kind (touch a low high) slot))
          (λ slot at first last same. within_touched Nothing slot ordered (omega arith) (omega arith))
          (λ slot apart. within.kinds slot);
    }

    -- and a number may be set in a slot
    pub set_number_lowers : (slot : ℕ) (n : Interval) → low ≤ SLOT_LENGTH * slot → SLOT_LENGTH * slot + 7 ≤ high
        → IsWithin (set_slot x slot (Number n)) (touch a low high)
    set_number_lowers slot n above below = record {
      marks = λ at marked.
          mark_preserves x.marks (SLOT_LENGTH * slot) SLOT_LENGTH at (slot_in_frame x slot proper-x (omega arith)) (within.marks at marked);
      kinds = set_kind_each x.kinds slot (Number n) (omega (arith, proper-x.slots))
          (λ other k. kind.IsWithin k (slot_kind (touch a low high) other))
          (within_touched (Number n) slot (omega arith) (omega arith) (omega arith))
          (λ other apart. within.kinds other);
    }

    -- some of these bytes may be marked in both, at least as many in the lower one
    pub mark_within_touched : (from len less : ℕ) → less ≤ len → low ≤ from → from + len ≤ high + 1 → low ≤ high
        → IsWithin (mark x from len) (mark (touch a low high) from less)
    mark_within_touched from len less fewer above below ordered = record {
      marks = λ at marked. marks_within_touched from len less at (omega arith) fewer within.marks marked;
      kinds = mark_each from less (touch_is_proper a low high proper-a ordered short) (omega arith)
          (λ slot k. kind.IsWithin (slot_kind (mark x from len) slot) k)
          (λ slot at first last same. within-nothing (slot_kind (mark x from len) slot))
          (λ slot apart. (mark_lowers from len above below ordered).kinds slot);
    }

  -- the lower one lies within the higher one
  module _ (within : IsWithin x a) where
    -- if the higher one has a range written, the lower one has each part of the range written. The ranges may be empty, and may extend past the end
    -- of the frame.
    pub all_written_falls : (from to low high : ℕ) → low ≤ from → to ≤ high → IsTrue (all_written a.marks low high)
        → IsTrue (all_written x.marks from to)
    all_written_falls from to low high below above all =
        let same : length x.marks ≡ length a.marks = proper-x.count ∙ sym proper-a.count in
        written_from x.marks from to
        (λ at first last short. within.marks at (written_at a.marks low high at (omega arith) (omega arith) (omega arith) all))

    -- it still does after bytes are touched in both, in the lower one within those of the higher one
    pub touch_is_monotone : (from to low high : ℕ) → low ≤ from → from ≤ to → to ≤ high → high < FRAME_LENGTH
        → IsWithin (touch x from to) (touch a low high)
    touch_is_monotone from to low high above ordered below short =
        touch_lowers low high short (touch_widens low high proper-a (omega arith) short within) from to above ordered below

    kinds_are_monotone : (from len slot : ℕ) → from + len ≤ FRAME_LENGTH
        → kind.IsWithin (slot_kind (mark x from len) slot) (slot_kind (mark a from len) slot)
    kinds_are_monotone from zero slot short = within.kinds slot
    kinds_are_monotone from (suc more) slot short =
        (touch_is_monotone from (from + more) from (from + more) (omega arith) (omega arith) (omega arith) (omega arith)).kinds slot

    -- after the same bytes are marked in both
    pub mark_is_monotone : (from len : ℕ) → from + len ≤ FRAME_LENGTH → IsWithin (mark x from len) (mark a from len)
    mark_is_monotone from len short = record {
      marks = λ at marked. marks_within_touched from len len at short (omega arith) within.marks marked;
      kinds = λ slot. kinds_are_monotone from len slot short;
    }

    -- a mark of the higher map after a slot is set in both: a number's bytes are marked in both, and a pointer's in neither
    fit_is_monotone : (k l : Kind) (slot at : ℕ) → slot < SLOTS → l ≢ Nothing → kind.IsWithin k l
        → IsMarked (fit_marks l a.marks slot) at → IsMarked (fit_marks k x.marks slot) at
    fit_is_monotone k l slot at inside known below marked =
        elim (cases_eq (at / SLOT_LENGTH) slot) [
          | inl same ↦ fit_both k l at inside known below same marked
          | inr other ↦
              get_or-unfit_marks k x.marks slot at (slot_in_frame x slot proper-x inside) other
              ∙ within.marks at (sym (get_or-unfit_marks l a.marks slot at (slot_in_frame a slot proper-a inside) other) ∙ marked)
        ]

    -- after a slot is set in both, to kinds of which one lies within the other
    pub set_slot_is_monotone : (slot : ℕ) (k l : Kind) → slot < SLOTS → l ≢ Nothing → kind.IsWithin k l
        → IsWithin (set_slot x slot k) (set_slot a slot l)
    set_slot_is_monotone slot k l inside known below = record {
      marks = λ at marked. fit_is_monotone k l slot at inside known below marked;
      kinds = set_both kind.IsWithin Nothing Nothing x.kinds a.kinds slot k l (proper-x.slots ∙ sym proper-a.slots) below within.kinds;
    }
