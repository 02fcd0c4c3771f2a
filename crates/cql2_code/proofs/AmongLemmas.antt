-- A byte that is loaded once and compared with several bytes is a sound block.
use Rattle.std.proofs.Common.{◌≡◌, ℕ, ◌+◌, ◌<◌, ◌^◌, ◌==◌, pos, Bool, true, false, ◌||◌, is_some, List, [], ◌∷◌, ◌++◌, inl, inr, if◌then◌else◌}
use Rattle.std.proofs.Common.{refl, sym, ap, ◌∙◌, subst, arith}
use Rattle.std.specs.Prelude.{nat_le}
use Rattle.std.specs.List.{list_any}
use Rattle.bpf_insn.specs.Arithmetic.{condition_holds, immediate_operand}
use Rattle.bpf_insn.specs.Code.{word_count}
use Rattle.bpf_insn.specs.declared.instruction.Insn.{Insn}
use Rattle.bpf_insn.specs.declared.instruction.Source.TheVariants.{Immediate}
use Rattle.bpf_insn.specs.declared.instruction.Width.TheVariants.{Bits64}
use Rattle.tl_segments.specs.Segment.{SegmentParts, IsSegment}
use Rattle.cql2.specs.declared.filter.Comparison.TheVariants.{Equal, NotEqual}
use Rattle.cql2_code.specs.Among.{among, comparisons}
use Rattle.cql2_code.specs.Layout.{first_skip, load, skip_if}
use Rattle.cql2_code.specs.Question.{condition_of}
use Rattle.cql2_code.specs.declared.question.Chunk.TheVariants.{Byte}
use Rattle.cql2_code.proofs.AbstractState.{answered, resting, state_before}
use Rattle.cql2_code.proofs.Accepted.{skip_good, skip_needs}
use Rattle.cql2_code.proofs.Blocks.{IsSoundBlock, Settled}
use Rattle.cql2_code.proofs.ByteLemmas.{AreSmall, byte_read, equal_numbers}
use Rattle.cql2_code.proofs.Codes.{Joint, first_jump, first_target, joint_of, jumps_on, second_placed, skip_by, skip_is}
use Rattle.cql2_code.proofs.Good.{AreGoodAt, Asks, Rests, good-append, good_chain, good_jump, good_passes, is_immediate, needs_at}
use Rattle.cql2_code.proofs.Leads.{Arrives, IsAt, exit_of}
use Rattle.cql2_code.proofs.Loads.{chunk_number, loads}
use Rattle.cql2_code.proofs.NumberLemmas.{compared, small_fits}
use Rattle.cql2_code.proofs.Passes.{needed_by, passes_load}
use Rattle.cql2_code.proofs.Runs.{skip_leads, skip_reaches, taken_to}
use Rattle.cql2_code.proofs.Steps.{with_0, Begins, HasAt, Reaches, Scratch, Setting, and_on, begins_at, branches_on_immediate, has_front, running}
use Rattle.cql2_code.proofs.Steps.{state, steps_on}

module _ (keeps : Bool) where
  -- the comparisons need the byte in register 0

  chain_by_needs : (near : Bool) (byte skip : ℕ) (rest : List Insn)
      → needed_by keeps (skip_by near Equal (Immediate (pos byte)) skip ++ rest) (resting keeps) ≡ answered keeps
  chain_by_needs true byte skip rest = refl
  chain_by_needs false byte skip rest = refl

  comparisons_need : (byte : ℕ) (bytes : List ℕ) (falls : Bool) (skip : ℕ)
      → needed_by keeps (comparisons byte bytes falls skip) (resting keeps) ≡ answered keeps
  comparisons_need byte [] falls skip = skip_needs keeps (if falls then NotEqual else Equal) (Immediate (pos byte)) skip
  comparisons_need byte (next ∷ bytes) falls skip =
      let rest = comparisons next bytes falls skip in
      let over = first_skip falls false (word_count rest) skip in
      subst (λ (insns : List Insn). needed_by keeps (insns ++ rest) (resting keeps) ≡ answered keeps)
      (skip_is Equal (Immediate (pos byte)) over) (chain_by_needs (nat_le over 32767) byte over rest)

  -- a comparison before others, which need the byte, too
  record Chained (code : List Insn) (place : ℕ) (insns : List Insn) (skip : ℕ) : Type 0 where
    has : HasAt code place insns
    next : Asks keeps code (place + word_count insns)
    target : Rests keeps code (place + word_count insns + skip)

  asks : (code : List Insn) (place : ℕ) → Rests keeps code place → Asks keeps code place
  asks code place rests = record { begins = rests.begins; needs = inl rests.needs }

  chain_by_good : (code : List Insn) (place : ℕ) (near : Bool) (byte skip : ℕ)
      → (let insns = skip_by near Equal (Immediate (pos byte)) skip in Chained code place insns skip → AreGoodAt keeps code place insns)
  chain_by_good code place true byte skip chained = (
    good_chain keeps code place (condition_of Equal) (pos byte) skip
        (record { at = chained.has.0; next = chained.next; target = asks code (place + 1 + skip) chained.target }),
    tt,
  )
  chain_by_good code place false byte skip chained =
      let e : place + 2 ≡ place + 1 + 1 = omega arith in
      let jumps : Asks keeps code (place + 1) = record {
        begins = ap is_some chained.has.1.0;
        needs = inl (ap (state_before keeps) chained.has.1.0);
      } in (
        good_chain keeps code place (condition_of NotEqual) (pos byte) 1
            (record { at = chained.has.0; next = jumps; target = subst (Asks keeps code) e chained.next }),
        (good_jump keeps code (place + 1) skip chained.has.1.0 (subst (λ (p : ℕ). Rests keeps code (p + skip)) e chained.target), tt),
      )

  chain_good : (code : List Insn) (place byte skip : ℕ)
      → (let insns = skip_if Equal (Immediate (pos byte)) skip in Chained code place insns skip → AreGoodAt keeps code place insns)
  chain_good code place byte skip =
      subst (λ (insns : List Insn). Chained code place insns skip → AreGoodAt keeps code place insns) (skip_is Equal (Immediate (pos byte)) skip)
      (chain_by_good code place (nat_le skip 32767) byte skip)

  comparisons_good : (code : List Insn) (byte : ℕ) (bytes : List ℕ) (falls : Bool) (skip place : ℕ)
      → Settled keeps code place (comparisons byte bytes falls skip) skip → AreGoodAt keeps code place (comparisons byte bytes falls skip)
  comparisons_good code byte [] falls skip place placed =
      skip_good keeps code place (if falls then NotEqual else Equal) (Immediate (pos byte)) skip (is_immediate (pos byte)) placed
  comparisons_good code byte (next ∷ bytes) falls skip place placed =
      let rest = comparisons next bytes falls skip in
      let over = first_skip falls false (word_count rest) skip in
      let first = skip_if Equal (Immediate (pos byte)) over in
      let middle = place + word_count first in
      let joint = joint_of place first rest skip in
      let after = second_placed (Rests keeps code) code place first rest skip placed in
      let needs = needs_at keeps code middle rest (resting keeps) after.has after.end.needs ∙ comparisons_need next bytes falls skip in
      good-append keeps code place first rest
      (chain_good code place byte over
      (record {
        has = has_front code place first rest placed.has;
        next = record { begins = begins_at code middle rest after.has after.end.begins; needs = inr needs };
        target = first_target (Rests keeps code) joint falls false placed.end placed.target;
      }))
      (comparisons_good code next bytes falls skip middle after)

-- runs of the comparisons

holds_equal : (number byte : ℕ) → number < 2 ^ 8 → byte < 2 ^ 8
    → condition_holds (condition_of Equal) Bits64 number (immediate_operand (pos byte)) ≡ (number == byte)
holds_equal number byte small others =
    compared Equal (pos number) (pos byte) (small_fits number (omega arith)) (small_fits byte (omega arith)) ∙ equal_numbers number byte

or_false : (a : Bool) → (a || false) ≡ a
or_false true = refl
or_false false = refl

-- where a comparison before others jumps
same_exit : (joint : Joint) (falls : Bool) → first_jump joint falls false ≡ exit_of falls true joint.end joint.skip
same_exit joint true = joint.is
same_exit joint false = jumps_on joint

-- a comparison decides, or those after it do
chain_leads : (on : Setting) (held : Scratch) (joint : Joint) (falls found rest : Bool)
    → Reaches on (running on held joint.start) (running on held (if found then first_jump joint falls false else joint.middle))
    → Arrives on (running on held joint.middle) (exit_of falls rest joint.end joint.skip)
    → Arrives on (running on held joint.start) (exit_of falls (found || rest) joint.end joint.skip)
chain_leads on held joint falls true rest reaches later =
    subst (Arrives on (running on held joint.start)) (same_exit joint falls) (record { scratch = held; reaches = reaches })
chain_leads on held joint falls false rest reaches later = record {
  scratch = later.scratch;
  reaches = and_on on _ (running on held joint.middle) _ reaches later.reaches;
}

byte_small : (segment : SegmentParts) → IsSegment segment → (at : ℕ) → at < 228 → chunk_number Byte segment.bytes at < 2 ^ 8
byte_small segment is at within = rw (byte_read segment is at within) (is.bytes.bytes at)

-- a number is compared with these bytes, one after the other
module _ (on : Setting) (from : Scratch) (number : ℕ) (small : number < 2 ^ 8) where
  comparisons_lead : (byte : ℕ) (bytes : List ℕ) (falls : Bool) (skip place : ℕ) → AreSmall (byte ∷ bytes)
      → IsAt on.code place (comparisons byte bytes falls skip) skip
      → Arrives on (running on (with_0 from number) place)
      (exit_of falls (list_any (λ other. number == other) (byte ∷ bytes)) (place + word_count (comparisons byte bytes falls skip)) skip)
  comparisons_lead byte [] falls skip place others placed =
      let comparison = if falls then NotEqual else Equal in
      let end = place + word_count (skip_if comparison (Immediate (pos byte)) skip) in
      subst (Arrives on (running on (with_0 from number) place))
      (taken_to Equal falls number (immediate_operand (pos byte)) end skip
      ∙ ap (λ (found : Bool). exit_of falls found end skip) (holds_equal number byte small others.0 ∙ sym (or_false (number == byte))))
      (skip_leads on (with_0 from number) (Immediate (pos byte)) number (immediate_operand (pos byte))
      (branches_on_immediate on from number (pos byte)) comparison skip place placed)
  comparisons_lead byte (next ∷ bytes) falls skip place others placed =
      let held = with_0 from number in
      let rest = comparisons next bytes falls skip in
      let over = first_skip falls false (word_count rest) skip in
      let first = skip_if Equal (Immediate (pos byte)) over in
      let joint = joint_of place first rest skip in
      let after = second_placed (Begins on.code) on.code place first rest skip placed in
      let before : IsAt on.code place first over = record {
        has = has_front on.code place first rest placed.has;
        end = begins_at on.code joint.middle rest after.has after.end;
        target = first_target (Begins on.code) joint falls false placed.end placed.target;
      } in
      let reaches = skip_reaches on held (Immediate (pos byte)) number (immediate_operand (pos byte))
      (branches_on_immediate on from number (pos byte)) Equal over place before in
      let later = list_any (λ other. number == other) (next ∷ bytes) in
      chain_leads on held joint falls (number == byte) later
      (subst (λ (found : Bool). Reaches on (running on held place) (running on held (if found then joint.middle + over else joint.middle)))
      (holds_equal number byte small others.0) reaches)
      (subst (λ (p : ℕ). Arrives on (running on held joint.middle) (exit_of falls later p skip)) joint.is
      (comparisons_lead next bytes falls skip joint.middle others.1 after))

-- the block
pub among_sound : (at byte : ℕ) (bytes : List ℕ) → at < 228 → AreSmall (byte ∷ bytes) → IsSoundBlock (among at byte bytes)
among_sound at byte bytes within small = record {
  needs = λ keeps falls skip. refl;
  good = λ keeps code falls skip place saved placed.
      let rest = comparisons byte bytes falls skip in
      let after = second_placed (Rests keeps code) code place (load Byte at ∷ []) rest skip placed in
      let needs = needs_at keeps code (place + 1) rest (resting keeps) after.has after.end.needs ∙ comparisons_need keeps byte bytes falls skip in (
        good_passes keeps code place (load Byte at) (answered keeps) placed.has.0 needs (passes_load keeps Byte at (omega arith)),
        comparisons_good keeps code byte bytes falls skip (place + 1) after,
      );
  leads = λ on falls skip place segment placed scratch.
      let rest = comparisons byte bytes falls skip in
      let joint = joint_of place (load Byte at ∷ []) rest skip in
      let after = second_placed (Begins on.code) on.code place (load Byte at ∷ []) rest skip placed in
      let number = chunk_number Byte on.segment.bytes at in
      let there = comparisons_lead on scratch number (byte_small on.segment segment at within) byte bytes falls skip (place + 1) small after in
      let long = segment.bytes.length in
      let does = loads on scratch Byte at (omega arith) in
      subst (λ (p : ℕ). Arrives on (running on scratch place) (exit_of falls (list_any (λ other. number == other) (byte ∷ bytes)) p skip)) joint.is
      (record {
        scratch = there.scratch;
        reaches = steps_on on (state on scratch place) (running on (with_0 scratch number) (place + 1)) _
            (does.step place placed.has.0 (begins_at on.code (place + 1) rest after.has after.end)) there.reaches;
      });
}
