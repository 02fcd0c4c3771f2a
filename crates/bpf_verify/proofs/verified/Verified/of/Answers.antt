use Rattle.std.proofs.Common.{◌≡◌, List, Option, ap, length, sym, ◌∙◌, subst}
use Rattle.bpf_flat_insn.proofs.FormLemmas.{instructions_of_forms}
use Rattle.bpf_flat_insn.specs.Flat.{AreFlatForms}
use Rattle.bpf_insn.specs.declared.instruction.Insn.{Insn}
use Rattle.bpf_insn.specs.declared.value.Area.{Area}
use Rattle.bpf_meaning.specs.RecordAlone.{reads_record_alone}
use Rattle.bpf_verify.specs.Verified.{AreVerified}
use Rattle.bpf_verify.proofs.verified.Verified.of.Goals as goal

pub flat_forms-requires : goal.flat_forms-requires
flat_forms-requires g c = ap length c.as_slice.ensures.value ∙ c.requires.areas.count

pub invariant_of-result : goal.invariant_of-result
invariant_of-result g c =
    let code = c.args.flow.now.code in
    let flats = c.in_ok-flat_forms.flat_forms.items in
    let forms = subst (λ (areas : List (Option Area)). AreFlatForms code areas (length code) flats) c.as_slice.ensures.value
    c.in_ok-flat_forms.ensures in
    let alone = c.reads_record_alone.result in
    subst (λ (code : List Insn). AreVerified code c.args.areas.items flats × (alone ≡ reads_record_alone code))
    (sym (instructions_of_forms code c.args.areas.items flats forms)) (
      record { safe = c.requires.safe; bases = c.requires.areas; forms = forms },
      c.reads_record_alone.ensures ∙ ap reads_record_alone (c.instructions.ensures.value ∙ c.code.ensures.value),
    )

pub returns-clause-code : goal.returns-clause-code
returns-clause-code g c =
    instructions_of_forms c.args.flow.now.code c.as_slice.result.now c.in_ok-flat_forms.flat_forms.items c.in_ok-flat_forms.ensures
