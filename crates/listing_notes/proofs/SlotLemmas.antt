-- The slots that have one of some bytes.
use Rattle.std.proofs.Common.{◌≡◌, ◌⊎◌, ◌↔◌, inl, inr, ℕ, ◌+◌, ◌*◌, ◌<◌, ◌≤◌, ℤ, pos, negsuc, ◌≤ℤ◌, Bool, true, refl, rules, arith}
use Rattle.std.specs.Prelude.{IsTrue, int_le, ◌&&◌}
use Rattle.std.proofs.lemmas.Bool.{and_parts, and_from, cases_lt}
use Rattle.std.proofs.lemmas.Int.{ints}
use Rattle.bpf_insn.specs.declared.memory.TheConstants.{SLOT_LENGTH}
use Rattle.listing_notes.specs.Reads.{HasOneOf, has_one_of}
use Rattle.listing_notes.specs.declared.reads.Bytes.{Bytes}

first-in : (bytes : Bytes) (slot : ℕ) (first : ℤ) → bytes.first ≡ first → first ≤ℤ bytes.last → first ≤ℤ pos (SLOT_LENGTH * slot + 7)
    → pos (SLOT_LENGTH * slot) ≤ℤ bytes.last → HasOneOf bytes slot
first-in bytes slot (pos n) is ordered begins ends = by-case (cases_lt n (SLOT_LENGTH * slot))
  where
    by-case : (n < SLOT_LENGTH * slot) ⊎ (SLOT_LENGTH * slot ≤ n) → HasOneOf bytes slot
    by-case (inl below) = record {
      at = SLOT_LENGTH * slot;
      in_slot = omega arith;
      from_first = omega (arith, ints);
      to_last = ends;
    }
    by-case (inr above) = record {
      at = n;
      in_slot = omega (arith, ints);
      from_first = omega (arith, ints);
      to_last = ordered;
    }
first-in bytes slot (negsuc n) is ordered begins ends = record {
  at = SLOT_LENGTH * slot;
  in_slot = omega arith;
  from_first = omega (arith, ints);
  to_last = ends;
}

le-from : (x y : ℤ) → int_le x y ≡ true → x ≤ℤ y
le-from x y test = search rules

le-to : (x y : ℤ) → x ≤ℤ y → int_le x y ≡ true
le-to x y below = search rules

pub one-of-bytes : (bytes : Bytes) (slot : ℕ) → IsTrue (has_one_of bytes slot) ↔ HasOneOf bytes slot
one-of-bytes bytes slot = (from-test, to-test)
  where
    first_test : Bool
    first_test = int_le bytes.first bytes.last

    begins_test : Bool
    begins_test = int_le bytes.first (pos (SLOT_LENGTH * slot + 7))

    ends_test : Bool
    ends_test = int_le (pos (SLOT_LENGTH * slot)) bytes.last

    from-test : (first_test && begins_test && ends_test) ≡ true → HasOneOf bytes slot
    from-test test =
        let tests = and_parts (first_test && begins_test) ends_test test in
        let more = and_parts first_test begins_test tests.0 in
        first-in bytes slot bytes.first refl (le-from bytes.first bytes.last more.0)
        (le-from bytes.first (pos (SLOT_LENGTH * slot + 7)) more.1) (le-from (pos (SLOT_LENGTH * slot)) bytes.last tests.1)

    to-test : HasOneOf bytes slot → (first_test && begins_test && ends_test) ≡ true
    to-test one =
        let above = one.from_first in
        let below = one.to_last in
        let there = one.in_slot in
        and_from (first_test && begins_test) ends_test
        (and_from first_test begins_test (le-to bytes.first bytes.last (omega (arith, ints)))
        (le-to bytes.first (pos (SLOT_LENGTH * slot + 7)) (omega (arith, ints))))
        (le-to (pos (SLOT_LENGTH * slot)) bytes.last (omega (arith, ints)))
