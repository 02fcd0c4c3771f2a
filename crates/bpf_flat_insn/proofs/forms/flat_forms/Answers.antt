use Rattle.std.proofs.Common.{◌<◌, List, length, get_or, ap, ◌∙◌, subst, arith, is_some, rules}
use Rattle.bpf_insn.specs.Code.{place_of}
use Rattle.bpf_insn.specs.declared.instruction.Insn.{Insn}
use Rattle.bpf_flow.proofs.FlowLemmas.{instruction_at_index}
use Rattle.bpf_flat_insn.specs.Flat.{AreFlatForms}
use Rattle.bpf_flat_insn.proofs.FormLemmas.{forms_grow, form_at}
use Rattle.bpf_flat_insn.proofs.forms.flat_forms.Goals as goal

pub target_index-target-requires-clause-begins : goal.target_index-target-requires-clause-begins
target_index-target-requires-clause-begins g c =
    ap is_some (instruction_at_index c.loop-index.index c.place.result
    (record {
      same = c.instructions-instructions.ensures.value ∙ c.code-code.ensures.value;
      within = let same = ap length (c.instructions-instructions.ensures.value ∙ c.code-code.ensures.value) in let all = c.requires in
          let below = c.loop-index-test.true in omega arith;
      is = c.index-instructions-index.is;
    })
    (c.place.ensures ∙ ap (λ (code : List Insn). place_of code c.loop-index.index) c.code-code.ensures.value))

pub loop-index-preserved : goal.loop-index-preserved
loop-index-preserved g c =
    let items = c.instructions-instructions.ensures.value ∙ c.code-code.ensures.value in
    let within : c.loop-index.index < length c.args.flow.now.code = let all = c.requires in let below = c.loop-index-test.true in
    omega arith in
    let inside : c.loop-index.index < length c.instructions-instructions.result.now = let same = ap length items in omega arith in
    let place = c.place.ensures ∙ ap (λ (code : List Insn). place_of code c.loop-index.index) c.code-code.ensures.value in
    let is_insn = instruction_at_index c.loop-index.index c.place.result
    (record { same = items; within = inside; is = c.index-instructions-index.is }) place in
    let is = c.index-instructions-index.is ∙ ap (λ (code : List Insn). get_or code c.loop-index.index c.index-instructions-index.result)
    items in
    forms_grow c.loop-index.invariant (search rules) (record {
      within = within;
      insn = c.index-instructions-index.result;
      is_insn = is;
      form = form_at c.loop-index.index c.target_index-target.result place is_insn c.target_index-target.ensures
          c.flatten.ensures.insn c.flatten.ensures.immediates c.flatten.ensures.target c.flatten.ensures.area;
    })

pub returns : goal.returns
returns g c =
    let all = c.requires in
    subst (λ count. AreFlatForms c.args.flow.now.code c.args.areas.now count c.loop-index.flats.items)
    (omega (arith, c.loop-index-test.false)) c.loop-index.invariant
