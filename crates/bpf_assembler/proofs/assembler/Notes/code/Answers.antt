use Rattle.std.proofs.Common.{◌≡◌, ◌<◌, List, length, get_or, Result, Err, rules, inl, inr, sym, ap, ◌∙◌, subst}
use Rattle.bpf_insn.specs.declared.instruction.Insn.{Insn}
use Rattle.bpf_assembler.specs.declared.assembler.Item.{Item}
use Rattle.bpf_assembler.specs.declared.fault.TextFault.{TextFault}
use Rattle.bpf_assembler.proofs.NoteLemmas.{code-more, code-fault}
use Rattle.bpf_assembler.proofs.assembler.Notes.code.Goals as goal

pub loop-item-preserved : goal.loop-item-preserved
loop-item-preserved g c = λ statements notes.
    let items = c.args.self.now.items.items in
    let i = c.loop-item.item-index in
    let inside : i < length items = subst (λ (xs : List Item). i < length xs) c.deref-item-items.ensures.value c.loop-item-test.true in
    let is : c.item-item.result ≡ get_or items i c.item-item.result =
    subst (λ (xs : List Item). c.item-item.result ≡ get_or xs i c.item-item.result) c.deref-item-items.ensures.value c.item-item.is in
    let step = c.in_ok-push.ensures statements notes.labels_are in
    rw step.2 (code-more statements items i c.loop-item.builder inside is step.1) ∙ c.loop-item.invariant statements notes

pub returns-in_err-push : goal.returns-in_err-push
returns-in_err-push g c = λ statements notes.
    let items = c.args.self.now.items.items in
    let i = c.loop-item.item-index in
    let inside : i < length items = subst (λ (xs : List Item). i < length xs) c.deref-item-items.ensures.value c.loop-item-test.true in
    let is : c.item-item.result ≡ get_or items i c.item-item.result =
    subst (λ (xs : List Item). c.item-item.result ≡ get_or xs i c.item-item.result) c.deref-item-items.ensures.value c.item-item.is in
    let given : c.from_residual.result ≡ Err c.in_err-push.field-0.0 = search rules in
    rw given (elim (c.in_err-push.ensures statements notes.labels_are) [
      | inl memory ↦ inl memory
      | inr why ↦ inr
          (sym (c.loop-item.invariant statements notes) ∙ code-fault statements items i c.loop-item.builder inside is why.1
          ∙ ap (λ (f : TextFault). let r : Result (List Insn) TextFault = Err f in r) (sym why.2))
    ])
