use Rattle.std.proofs.Common.{◌≡◌, ℤ, pos, ◌+ℤ◌, ◌&&◌, int_le, true, false, to_z, of_z, w32, refl, arith}
use Rattle.std.proofs.lemmas.Int.{ints}
use Rattle.bpf_verify.proofs.memory.lie_within.Goals as goal

-- both tests, if the first one holds
both_tests : {first end limit first' end' limit' : ℤ} → first ≡ first' → end ≡ end' → limit ≡ limit' → int_le (pos 0) first ≡ true
    → int_le end limit ≡ (int_le (pos 0) first' && int_le end' limit')
both_tests is-first is-end is-limit holds = rw (← is-first, ← is-end, ← is-limit, holds) refl

-- both tests, if the first one fails
first_test : (first first' end' limit' : ℤ) → first ≡ first' → int_le (pos 0) first ≡ false
    → int_le (pos 0) first ≡ (int_le (pos 0) first' && int_le end' limit')
first_test first first' end' limit' is-first fails = rw (← is-first, fails) refl

pub overflow_add-end : goal.overflow_add-end
overflow_add-end c = omega (arith, ints)

pub returns-then-first-ge0 : goal.returns-then-first-ge0
returns-then-first-ge0 c =
    let first : to_z w32 (of_z w32 (to_z w32 (of_z w32 c.from.result) +ℤ to_z w32 (of_z w32 c.from-2.result))) ≡ c.args.offsets.low +ℤ
    c.args.offset = omega (arith, ints) in
    let end : to_z w32 (of_z w32 (to_z w32 (of_z w32 (to_z w32 (of_z w32 c.from-3.result) +ℤ to_z w32 (of_z w32 c.from-4.result))) +ℤ to_z
    w32 c.args.count)) ≡ (c.args.offsets.high +ℤ c.args.offset) +ℤ pos c.args.count = omega (arith, ints) in
    let limit : to_z w32 c.args.bytes ≡ pos c.args.bytes = omega (arith, ints) in
    both_tests first end limit c.if-first-ge0.true

pub returns-else-first-ge0 : goal.returns-else-first-ge0
returns-else-first-ge0 c =
    let first : to_z w32 (of_z w32 (to_z w32 (of_z w32 c.from.result) +ℤ to_z w32 (of_z w32 c.from-2.result))) ≡ c.args.offsets.low +ℤ
    c.args.offset = omega (arith, ints) in
    first_test _ _ ((c.args.offsets.high +ℤ c.args.offset) +ℤ pos c.args.count) (pos c.args.bytes) first c.if-first-ge0.false
