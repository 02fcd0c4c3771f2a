use Rattle.std.proofs.Common.{rules, ◌≡◌, ◌∙◌, sym, ap, arith, length, FitsSigned, w32}
use Rattle.std.proofs.lemmas.List.{take_all}
use Rattle.std.proofs.lemmas.Option.{none-some}
use Rattle.bpf_insn.specs.Code.{word_count}
use Rattle.bpf_insn.proofs.SpanLemmas.{ends_within}
use Rattle.bpf_flow.proofs.FlowLemmas.{instruction_at_index, next_place, lead_more, all_jumps_forward, jumps_by, leads_by}
use Rattle.bpf_flow.proofs.flow.check_jumps.Goals as goal
use Rattle.bpf_flow.proofs.flow.check_jumps.Goals.{in-Some+in_ok-check_jump, in_default}

pub check_jump-requires-clause-jump : goal.check_jump-requires-clause-jump
check_jump-requires-clause-jump g c =
    let fits : FitsSigned w32 c.in-Some.distance = search rules in
    jumps_by c.args.code.now c.loop-insn.place c.insn-item.result c.in-Some.distance fits
    (instruction_at_index c.loop-insn.insn-index c.loop-insn.place
    (record { same = c.instructions-instructions.ensures.value; within = c.loop-insn-test.true; is = c.insn-item.is })
    c.loop-insn.invariant.place) c.in-Some.ensures

pub overflow_add-place : goal.overflow_add-place
overflow_add-place g c =
    let is_insn = instruction_at_index c.loop-insn.insn-index c.loop-insn.place
    (record { same = c.instructions-instructions.ensures.value; within = c.loop-insn-test.true; is = c.insn-item.is })
    c.loop-insn.invariant.place in
    let ends = ends_within c.args.code.now c.loop-insn.place c.insn-item.result is_insn in
    let sized = c.instructions-instructions.ensures.sized in omega (arith, c.words-place.ensures)

pub loop-insn-preserved : goal.loop-insn-preserved
loop-insn-preserved g c =
    let is_insn = instruction_at_index c.loop-insn.insn-index c.loop-insn.place
    (record { same = c.instructions-instructions.ensures.value; within = c.loop-insn-test.true; is = c.insn-item.is })
    c.loop-insn.invariant.place in
    record {
      place = next_place c.loop-insn.insn-index c.loop-insn.place c.words-place.result
          (record { same = c.instructions-instructions.ensures.value; within = c.loop-insn-test.true; is = c.insn-item.is })
          c.loop-insn.invariant.place c.words-place.ensures;
      jumps = lead_more c.args.code.now c.loop-insn.place c.words-place.result c.insn-item.result is_insn c.words-place.ensures
          c.loop-insn.invariant.jumps
          (elim c.match-jump_distance.branch [
            | in-Some+in_ok-check_jump w ↦
                let fits : FitsSigned w32 w.in-Some.distance = search rules in
                leads_by c.insn-item.result fits w.in-Some.ensures w.in_ok-check_jump.ensures.ok
            | in_default w ↦ λ distance jumps. absurd (none-some distance (w.in_default.ensures ∙ jumps))
          ]);
    }

pub returns-clause-ok : goal.returns-clause-ok
returns-clause-ok g c =
    let same = c.instructions-instructions.ensures.value in
    let all : word_count c.args.code.now ≡ c.loop-insn.place =
    ap word_count (sym (take_all c.loop-insn.insn-index c.args.code.now
    (let long = ap length same in omega (arith, c.loop-insn-test.false)))) ∙ sym c.loop-insn.invariant.place in
    all_jumps_forward c.args.code.now c.loop-insn.place (omega arith) c.loop-insn.invariant.jumps
