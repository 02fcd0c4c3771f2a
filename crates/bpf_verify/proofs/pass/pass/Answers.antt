use Rattle.std.proofs.Common.{◌≡◌, ◌+◌, ◌<◌, ◌≤◌, ◌++◌, ◌∷◌, [], ℕ, List, Option, Some, length, take, get_or, refl, sym, ap, subst, ◌∙◌, arith, rules}
use Rattle.std.proofs.lemmas.List.{length-take-le, take_all, take_more}
use Rattle.bpf_insn.specs.Code.{instruction_at}
use Rattle.bpf_insn.specs.declared.instruction.Insn.{Insn}
use Rattle.bpf_insn.specs.declared.value.Area.{Area}
use Rattle.bpf_flow.proofs.FlowLemmas.{instruction_at_index}
use Rattle.bpf_flow.specs.Flow.{IsForward}
use Rattle.bpf_verify.specs.Annotation.{area_of}
use Rattle.bpf_verify.specs.Pass.{PassState, AreProper, Visits, pending, visit_of}
use Rattle.bpf_verify.specs.Visit.{Visit}
use Rattle.bpf_verify.proofs.AreaLemmas.{all_have_immediates, areas_hold, one_more_has_immediates}
use Rattle.bpf_verify.proofs.SoundRuns.{good_is_safe}
use Rattle.bpf_verify.proofs.PassLemmas.{IsAnnotatedUpTo, length-found, starts, continues, refuses, accepts, shows, shows_refusal}
use Rattle.bpf_verify.proofs.VisitLemmas.{visited_all-more}
use Rattle.bpf_verify.proofs.pass.pass.Goals as goal

module _ {code items : List Insn} (index : ℕ) {insn : Insn} (same : items ≡ code) (within : index < length items)
    (is : insn ≡ get_or items index insn) where
  -- the current instruction of the pass
  comes_to : {worklist : PassState} {areas : List (Option Area)} {visits : List Visit} → IsAnnotatedUpTo code (take index code) worklist areas visits
      → instruction_at code worklist.place ≡ Some insn
  comes_to {worklist} progress = instruction_at_index index worklist.place (record { same = same; within = within; is = is }) progress.at

  -- the instructions passed so far, and one more
  passed_more : take (index + 1) code ≡ take index code ++ insn ∷ []
  passed_more =
      ap (take (index + 1)) (sym same) ∙ take_more items index insn within ∙ ap (λ (next : Insn). take index items ++ next ∷ []) (sym is)
      ∙ ap (λ (code : List Insn). take index code ++ insn ∷ []) same

  module _ {before after : PassState} {areas more : List (Option Area)} {area : Option Area} {earlier : List Visit} where
    -- an iteration
    one_more : IsForward code → IsAnnotatedUpTo code (take index code) before areas earlier → Visits insn before after
        → AreProper (pending after) → area ≡ area_of (pending before before.place) insn → more ≡ areas ++ area ∷ []
        → IsAnnotatedUpTo code (take (index + 1) code) after more (earlier ++ visit_of before insn ∷ [])
    one_more forward progress visits proper found pushed =
        let all : more ≡ areas ++ area_of (pending before before.place) insn ∷ [] =
        pushed ∙ ap (λ (area : Option Area). areas ++ area ∷ []) found in
        rw (passed_more, all) (continues code (take index code) insn before after areas earlier forward (comes_to progress) progress proper visits)

pub loop-insn-init : goal.loop-insn-init
loop-insn-init g c = record {
  visits = [];
  progress = subst (λ areas. IsAnnotatedUpTo c.args.flow.now.code [] c.in_ok-worklist.worklist areas []) (sym c.in_ok-areas.ensures.items)
      (starts c.args.flow.now.code c.in_ok-worklist.worklist c.in_ok-worklist.ensures);
  shown = refl;
  immediates = λ index insn below found. absurd (omega arith);
  room = omega (arith, c.in_ok-areas.ensures.capacity, ap length (c.instructions-instructions.ensures.value ∙ c.code.ensures.value));
}

pub visit-requires-clause-is_insn : goal.visit-requires-clause-is_insn
visit-requires-clause-is_insn g c =
    let progress = c.loop-insn.invariant.progress in
    ap (λ (code : List Insn). instruction_at code c.loop-insn.worklist.place) progress.of_code
    ∙ comes_to c.loop-insn.insn-index (c.instructions-instructions.ensures.value ∙ c.code.ensures.value) c.loop-insn-test.true
    c.insn-item.is progress

pub returns-in_err-visit-clause-err : goal.returns-in_err-visit-clause-err
returns-in_err-visit-clause-err g c =
    let progress = c.loop-insn.invariant.progress in
    let is_insn = comes_to c.loop-insn.insn-index (c.instructions-instructions.ensures.value ∙ c.code.ensures.value)
    c.loop-insn-test.true c.insn-item.is progress in
    let refused = refuses c.in_err-visit.field-0.0 is_insn progress c.in_err-visit.ensures.err in
    search rules

pub push_reserved-requires : goal.push_reserved-requires
push_reserved-requires g c =
    let same = c.instructions-instructions.ensures.value ∙ c.code.ensures.value in
    let many = length-found c.loop-insn.invariant.progress in
    omega (
      arith,
      c.loop-insn.areas.ok.0,
      c.loop-insn.invariant.room,
      many,
      length-take-le c.loop-insn.insn-index c.args.flow.now.code,
      c.loop-insn-test.true,
      ap length same,
    )

pub loop-insn-preserved : goal.loop-insn-preserved
loop-insn-preserved g c =
    let invariant = c.loop-insn.invariant in
    record {
      visits = invariant.visits ++ visit_of c.loop-insn.worklist c.insn-item.result ∷ [];
      progress = one_more c.loop-insn.insn-index (c.instructions-instructions.ensures.value ∙ c.code.ensures.value)
          c.loop-insn-test.true c.insn-item.is
          c.code.ensures.forward c.loop-insn.invariant.progress c.in_ok-visit.ensures.ok c.in_ok-visit.ensures.proper c.in_ok-visit.ensures.area
          c.push_reserved.ensures.items;
      shown = c.in_ok-visit.ensures.shown ∙ ap (λ visitor. g.V.Visitor.visited visitor (visit_of c.loop-insn.worklist c.insn-item.result)) invariant.shown
          ∙ visited_all-more g.V.Visitor.visited c.args.visitor.now invariant.visits (visit_of c.loop-insn.worklist c.insn-item.result);
      immediates = one_more_has_immediates c.args.flow.now.code c.loop-insn.insn-index c.insn-item.result
          (c.insn-item.is ∙ ap (λ (code : List Insn). get_or code c.loop-insn.insn-index c.insn-item.result)
          (c.instructions-instructions.ensures.value ∙ c.code.ensures.value)) c.visit.ensures.immediates invariant.immediates;
      room = omega (arith, c.loop-insn.invariant.room, c.push_reserved.ensures.capacity);
    }

pub returns-clause-ok : goal.returns-clause-ok
returns-clause-ok g c =
    let same = c.instructions-instructions.ensures.value ∙ c.code.ensures.value in
    accepts _ _ c.loop-insn.worklist _ (take_all c.loop-insn.insn-index c.args.flow.now.code
    (let long = ap length same in omega (arith, c.loop-insn-test.false))) c.loop-insn.invariant.progress

pub returns-clause-shown : goal.returns-clause-shown
returns-clause-shown g c =
    let same = c.instructions-instructions.ensures.value ∙ c.code.ensures.value in
    shows g.V.Visitor.visited c.args.visitor.now c.loop-insn.visitor (take_all c.loop-insn.insn-index c.args.flow.now.code
    (let long = ap length same in omega (arith, c.loop-insn-test.false))) c.loop-insn.invariant.progress c.loop-insn.invariant.shown

pub returns-in_err-visit-clause-shown_refusal : goal.returns-in_err-visit-clause-shown_refusal
returns-in_err-visit-clause-shown_refusal g c =
    let invariant = c.loop-insn.invariant in
    let same = c.instructions-instructions.ensures.value ∙ c.code.ensures.value in
    let shown = shows_refusal g.V.Visitor.visited c.loop-insn.insn-index c.args.visitor.now invariant.progress invariant.shown
    c.insn-item.result (passed_more c.loop-insn.insn-index same c.loop-insn-test.true c.insn-item.is) c.visit.new.visitor
    c.in_err-visit.field-0.0 c.in_err-visit.ensures.err c.in_err-visit.ensures.shown_refusal in
    search rules

pub returns-clause-areas : goal.returns-clause-areas
returns-clause-areas g c =
    let long = ap length (c.instructions-instructions.ensures.value ∙ c.code.ensures.value) in
    let all : length c.args.flow.now.code ≤ c.loop-insn.insn-index = omega (arith, c.loop-insn-test.false) in
    areas_hold c.args.flow.now.code _ c.code.ensures.forward (all_have_immediates _ _ all c.loop-insn.invariant.immediates)
    (accepts _ _ c.loop-insn.worklist _ (take_all c.loop-insn.insn-index c.args.flow.now.code all) c.loop-insn.invariant.progress)

pub returns-clause-safe : goal.returns-clause-safe
returns-clause-safe g c =
    let long = ap length (c.instructions-instructions.ensures.value ∙ c.code.ensures.value) in
    let all : length c.args.flow.now.code ≤ c.loop-insn.insn-index = omega (arith, c.loop-insn-test.false) in
    let accepted = accepts _ _ c.loop-insn.worklist _ (take_all c.loop-insn.insn-index c.args.flow.now.code all) c.loop-insn.invariant.progress in
    good_is_safe c.args.flow.now.code c.code.ensures.forward (all_have_immediates _ _ all c.loop-insn.invariant.immediates)
    (accepted.annotation, accepted.is_least.good)
