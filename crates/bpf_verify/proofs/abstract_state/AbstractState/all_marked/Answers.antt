use Rattle.std.proofs.Common.{◌≡◌, ℕ, zero, suc, ◌+◌, ◌-◌, ◌≤◌, ℤ, ◌+ℤ◌, unsigned_abs, ◌∙◌, refl, arith}
use Rattle.std.proofs.lemmas.Int.{ints}
use Rattle.bpf_frame.specs.FrameMap.{all_written}
use Rattle.bpf_kinds.specs.declared.offsets.Offsets.{Offsets}
use Rattle.bpf_verify.specs.Transfer.{all_marked}
use Rattle.bpf_verify.specs.declared.abstract_state.AbstractState.{AbstractState}
use Rattle.bpf_verify.proofs.abstract_state.AbstractState.all_marked.Goals as goal

-- the first and the last of some bytes, at least one of them
marked_is : (abstract_state : AbstractState) (offsets : Offsets) (offset : ℤ) {first last : ℕ} (count : ℕ) → 1 ≤ count
    → first ≡ unsigned_abs (offsets.low +ℤ offset) → last ≡ unsigned_abs (offsets.high +ℤ offset) + count - 1
    → all_written abstract_state.frame.marks first last ≡ all_marked abstract_state offsets offset count
marked_is abstract_state offsets offset zero some is_first is_last = absurd (omega arith)
marked_is abstract_state offsets offset {last} (suc more) some is_first is_last =
    let beyond : last ≡ unsigned_abs (offsets.high +ℤ offset) + more = omega arith in rw (is_first, beyond) refl

pub returns : goal.returns
returns c =
    let first : c.byte_at-2.result ≡ unsigned_abs (c.args.offsets.low +ℤ c.args.offset) = omega (arith, ints) in
    let last : c.byte_at.result + c.args.count - 1 ≡ unsigned_abs (c.args.offsets.high +ℤ c.args.offset) + c.args.count - 1 =
    omega (arith, ints) in
    c.all_written.ensures.value ∙ marked_is c.args.self.now c.args.offsets c.args.offset c.args.count (omega arith) first last
