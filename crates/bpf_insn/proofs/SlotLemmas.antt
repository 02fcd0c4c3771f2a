-- The bytes that make up a whole slot.
use Rattle.std.proofs.Common.{◌≡◌, ◌↔◌, ℕ, ◌*◌, ◌/◌, ◌%◌, ◌==◌, ◌⊎◌, true, false, Some, inl, inr, ap, ◌∙◌, arith}
use Rattle.std.proofs.lemmas.Bool.{cases_Bool}
use Rattle.std.proofs.lemmas.Bool.Decides.{nat_tests}
use Rattle.bpf_insn.specs.Frame.{slot_at}
use Rattle.bpf_insn.specs.declared.memory.TheConstants.{SLOT_LENGTH}

pub slot_at-is : (at count slot : ℕ) → slot_at at count ≡ Some slot → (count ≡ SLOT_LENGTH) × (at ≡ SLOT_LENGTH * slot)
slot_at-is at count slot is = by_count (cases_Bool (count == SLOT_LENGTH)) (cases_Bool (at % SLOT_LENGTH == 0)) is
  where
    by_count : ((count == SLOT_LENGTH) ≡ true) ⊎ ((count == SLOT_LENGTH) ≡ false) → ((at % SLOT_LENGTH == 0) ≡ true)
        ⊎ ((at % SLOT_LENGTH == 0) ≡ false) → slot_at at count ≡ Some slot → (count ≡ SLOT_LENGTH) × (at ≡ SLOT_LENGTH * slot)
    by_count (inl whole) (inl first) found =
        let all : count ≡ SLOT_LENGTH = grind (arith, nat_tests) in
        let begins : at % SLOT_LENGTH ≡ 0 = grind (arith, nat_tests) in
        let place : at / SLOT_LENGTH ≡ slot = cc in
        (all, omega (arith, begins, place))
    by_count (inl whole) (inr other) found = absurd (grind arith)
    by_count (inr part) first found = absurd (grind arith)

pub slot_at-slot : (slot : ℕ) → slot_at (SLOT_LENGTH * slot) SLOT_LENGTH ≡ Some slot
slot_at-slot slot =
    let place : SLOT_LENGTH * slot / SLOT_LENGTH ≡ slot = omega arith in
    let test : (SLOT_LENGTH * slot % SLOT_LENGTH == 0) ≡ true = grind (arith, nat_tests) in
    rw test (ap (λ (n : ℕ). Some n) place)

-- a range of bytes is a slot if and only if it has the length of a slot and begins where the slot begins
pub slot_at-exact : (at count slot : ℕ) → (slot_at at count ≡ Some slot) ↔ ((count ≡ SLOT_LENGTH) × (at ≡ SLOT_LENGTH * slot))
slot_at-exact at count slot = (
  slot_at-is at count slot,
  (λ is. ap (λ (n : ℕ). slot_at n count) is.1 ∙ ap (slot_at (SLOT_LENGTH * slot)) is.0 ∙ slot_at-slot slot),
)
