-- Single marks and kinds, after a part of them is filled or one is set.
use Rattle.std.proofs.Common.{◌≡◌, ◌≢◌, ℕ, zero, suc, ◌+◌, ◌-◌, ◌*◌, ◌/◌, ◌<◌, ◌≤◌, List, ◌++◌, take, drop, length, get_or, set, replicate}
use Rattle.std.proofs.Common.{inl, inr, refl, sym, ap, ◌∙◌, subst, arith}
use Rattle.std.proofs.lemmas.Bool.{cases_lt, cases_eq}
use Rattle.std.proofs.lemmas.List.{places, get_or_past, get_or-set_same, get_or-set_other}
use Rattle.bpf_frame.specs.FrameMap.{Contents, IsProper, slot_kind, touch, mark}
use Rattle.bpf_insn.specs.Frame.{IsApart, clear_slots, overwrite_slots}
use Rattle.bpf_insn.specs.declared.memory.TheConstants.{FRAME_LENGTH, SLOT_LENGTH, SLOTS}
use Rattle.bpf_kinds.specs.declared.kind.Kind.{Kind}
use Rattle.bpf_kinds.specs.declared.kind.Kind.TheVariants.{Nothing}

-- a list with a part filled with one element

pub length-filled : {X : Type 0} (x : X) (xs : List X) (first count end : ℕ) → first + count ≡ end → end ≤ length xs
    → length (take first xs ++ replicate count x ++ drop end xs) ≡ length xs
length-filled x xs first count end same within = grind (arith, places)

module _ {X : Type 0} (x : X) (xs : List X) (first count end : ℕ) (d : X) (at : ℕ) (same : first + count ≡ end)
    (within : end ≤ length xs) where
  pub get_or-filled_before : at < first → get_or (take first xs ++ replicate count x ++ drop end xs) at d ≡ get_or xs at d
  get_or-filled_before before = grind (arith, places)

  pub get_or-filled_inside : first ≤ at → at < end → get_or (take first xs ++ replicate count x ++ drop end xs) at d ≡ x
  get_or-filled_inside above below = grind (arith, places)

  pub get_or-filled_after : end ≤ at → get_or (take first xs ++ replicate count x ++ drop end xs) at d ≡ get_or xs at d
  get_or-filled_after beyond = grind (arith, places)

-- the slots of a nonempty range of bytes
pub overwrite_some : {X : Type 0} (nothing : X) (slots : List X) (from len : ℕ) → 0 < len
    → clear_slots nothing slots from (from + len - 1) ≡ overwrite_slots nothing slots from len
overwrite_some nothing slots from zero some = absurd (omega arith)
overwrite_some nothing slots from (suc more) some = let last : from + suc more - 1 ≡ from + more = omega arith in
    ap (λ (to : ℕ). clear_slots nothing slots from to) last

-- there are no slots outside the frame
pub slot_kind_past : (map : Contents) (slot : ℕ) → IsProper map → SLOTS ≤ slot → slot_kind map slot ≡ Nothing
slot_kind_past map slot proper past = get_or_past map.kinds slot Nothing (omega (arith, proper.slots))

-- slots that are touched, one by one

module _ {map : Contents} (from to : ℕ) (proper : IsProper map) (ordered : from ≤ to) (within : to < FRAME_LENGTH) where
  pub slot_kind-touched : (slot : ℕ) → from / SLOT_LENGTH ≤ slot → slot ≤ to / SLOT_LENGTH → slot_kind (touch map from to) slot ≡ Nothing
  slot_kind-touched slot above below =
      get_or-filled_inside Nothing map.kinds (from / SLOT_LENGTH) (to / SLOT_LENGTH + 1 - from / SLOT_LENGTH)
      (to / SLOT_LENGTH + 1) Nothing slot
      (omega arith) (omega (arith, proper.slots)) above (omega arith)

  pub slot_kind-before_touched : (slot : ℕ) → slot < from / SLOT_LENGTH → slot_kind (touch map from to) slot ≡ slot_kind map slot
  slot_kind-before_touched slot before =
      get_or-filled_before Nothing map.kinds (from / SLOT_LENGTH) (to / SLOT_LENGTH + 1 - from / SLOT_LENGTH)
      (to / SLOT_LENGTH + 1) Nothing slot
      (omega arith) (omega (arith, proper.slots)) before

  pub slot_kind-after_touched : (slot : ℕ) → to / SLOT_LENGTH < slot → slot_kind (touch map from to) slot ≡ slot_kind map slot
  slot_kind-after_touched slot beyond =
      get_or-filled_after Nothing map.kinds (from / SLOT_LENGTH) (to / SLOT_LENGTH + 1 - from / SLOT_LENGTH)
      (to / SLOT_LENGTH + 1) Nothing slot
      (omega arith) (omega (arith, proper.slots)) (omega arith)

  -- a fact about Nothing in touched slots, and about the kinds of all other slots, holds of every kind after touching
  pub touch_each : (Property : ℕ → Kind → Type 0) → ((slot at : ℕ) → from ≤ at → at ≤ to → at / SLOT_LENGTH ≡ slot → Property slot Nothing)
      → ((slot : ℕ) → IsApart slot from (to + 1 - from) → Property slot (slot_kind map slot))
      → (slot : ℕ) → Property slot (slot_kind (touch map from to) slot)
  touch_each Property inside outside slot =
      elim (cases_lt slot (from / SLOT_LENGTH)) [
        | inl before ↦
            subst (Property slot) (sym (slot_kind-before_touched slot before)) (outside slot (λ at first last same. absurd (omega arith)))
        | inr above ↦
            elim (cases_lt (to / SLOT_LENGTH) slot) [
              | inl beyond ↦
                  subst (Property slot) (sym (slot_kind-after_touched slot beyond)) (outside slot (λ at first last same. absurd (omega arith)))
              | inr below ↦
                  subst (Property slot) (sym (slot_kind-touched slot above below))
                  (elim (cases_lt (SLOT_LENGTH * slot) from) [
                    | inl early ↦ inside slot from (omega arith) ordered (omega arith)
                    | inr late ↦ inside slot (SLOT_LENGTH * slot) late (omega arith) (omega arith)
                  ])
            ]
      ]

-- the same after marking bytes
pub mark_each : {map : Contents} (from len : ℕ) → IsProper map → from + len ≤ FRAME_LENGTH → (Property : ℕ → Kind → Type 0)
    → ((slot at : ℕ) → from ≤ at → at < from + len → at / SLOT_LENGTH ≡ slot → Property slot Nothing)
    → ((slot : ℕ) → IsApart slot from len → Property slot (slot_kind map slot)) → (slot : ℕ) → Property slot (slot_kind (mark map from len) slot)
mark_each from zero proper within Property inside outside slot = outside slot (λ at first last same. absurd (omega arith))
mark_each from (suc more) proper within Property inside outside slot =
    touch_each from (from + more) proper (omega arith) (omega arith) Property
    (λ touched at first last same. inside touched at first (omega arith) same)
    (λ other apart. outside other (λ at first last same. apart at first (omega arith) same))
    slot

-- nothing is known of the slots of touched or marked bytes, and the others keep their kinds

pub touch_forgets : (map : Contents) (from to at : ℕ) → IsProper map → to < FRAME_LENGTH → from ≤ at → at ≤ to
    → slot_kind (touch map from to) (at / SLOT_LENGTH) ≡ Nothing
touch_forgets map from to at proper within above below =
    slot_kind-touched from to proper (omega arith) within (at / SLOT_LENGTH) (omega arith) (omega arith)

pub touch_leaves : (map : Contents) (from to slot : ℕ) → IsProper map → from ≤ to → to < FRAME_LENGTH → IsApart slot from (to + 1 - from)
    → slot_kind (touch map from to) slot ≡ slot_kind map slot
touch_leaves map from to slot proper ordered within apart =
    touch_each from to proper ordered within (λ other k. other ≡ slot → k ≡ slot_kind map slot)
    (λ other at first last same is. absurd (apart at first (omega arith) (same ∙ is)))
    (λ other free is. ap (λ (n : ℕ). slot_kind map n) is)
    slot refl

pub mark_forgets : (map : Contents) (from len at : ℕ) → IsProper map → from + len ≤ FRAME_LENGTH → from ≤ at → at < from + len
    → slot_kind (mark map from len) (at / SLOT_LENGTH) ≡ Nothing
mark_forgets map from len at proper within above below =
    mark_each from len proper within (λ slot k. slot ≡ at / SLOT_LENGTH → k ≡ Nothing) (λ slot other first last same is. refl)
    (λ slot apart is. absurd (apart at above below (sym is)))
    (at / SLOT_LENGTH) refl

pub mark_leaves : (map : Contents) (from len slot : ℕ) → IsProper map → from + len ≤ FRAME_LENGTH → IsApart slot from len
    → slot_kind (mark map from len) slot ≡ slot_kind map slot
mark_leaves map from len slot proper within apart =
    mark_each from len proper within (λ other k. other ≡ slot → k ≡ slot_kind map slot)
    (λ other at first last same is. absurd (apart at first last (same ∙ is)))
    (λ other free is. ap (λ (n : ℕ). slot_kind map n) is)
    slot refl

-- a fact about a kind that is set, and about the kinds of all other slots, holds of every kind afterwards
pub set_kind_each : (kinds : List Kind) (slot : ℕ) (k : Kind) → slot < length kinds → (Property : ℕ → Kind → Type 0) → Property slot k
    → ((other : ℕ) → other ≢ slot → Property other (get_or kinds other Nothing)) → (other : ℕ)
    → Property other (get_or (set kinds slot k) other Nothing)
set_kind_each kinds slot k within Property here others other =
    elim (cases_eq other slot) [
      | inl same ↦ subst (λ (n : ℕ). Property n (get_or (set kinds slot k) n Nothing)) (sym same)
          (subst (Property slot) (sym (get_or-set_same kinds slot k Nothing within)) here)
      | inr apart ↦ subst (Property other) (sym (get_or-set_other kinds slot other k Nothing apart)) (others other apart)
    ]
