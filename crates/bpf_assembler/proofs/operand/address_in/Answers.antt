use Rattle.std.proofs.Common.{refl, ap, ◌∙◌}
use Rattle.bpf_assembler.specs.Words.{is_sign}
use Rattle.bpf_assembler.specs.Operand.{register_in, offset_in}
use Rattle.bpf_assembler.proofs.WordLemmas.{before-found, before-missing, from-found, from-missing}
use Rattle.bpf_assembler.proofs.operand.address_in.Goals as goal

pub returns-in-Some : goal.returns-in-Some
returns-in-Some c =
    let base = c.register_in.ensures ∙ ap register_in (before-found is_sign c.args.text.now c.in-Some.sign c.in-Some.ensures.value) in
    let offset = c.offset_in.ensures ∙ ap offset_in (from-found is_sign c.args.text.now c.in-Some.sign c.in-Some.ensures.value) in
    rw (c.both.ensures, base, offset) refl

pub returns-in-None : goal.returns-in-None
returns-in-None c =
    let base = c.register_in-in-None.ensures ∙ ap register_in (before-missing is_sign c.args.text.now c.in-None.ensures.value) in
    let offset = c.offset_in-in-None.ensures ∙ ap offset_in (from-missing is_sign c.args.text.now c.in-None.ensures.value) in
    rw (c.both-in-None.ensures, base, offset) refl
