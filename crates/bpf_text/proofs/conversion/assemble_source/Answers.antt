use Rattle.std.proofs.Common.{◌≡◌, ◌⊎◌, List, ℕ, sym, subst, rules}
use Rattle.std.specs.Result.{IsErrAnd}
use Rattle.bpf_insn.specs.Code.{IsCodeOf}
use Rattle.bpf_text.proofs.SourceLemmas.{of_its_text}
use Rattle.bpf_assembler.specs.Text.{IsFirstFault, Means}
use Rattle.bpf_text.specs.declared.fault.SourceFault.TheVariants.{Text}
use Rattle.bpf_assembler.specs.declared.fault.TextFault.TheVariants.{Memory}
use Rattle.bpf_text.proofs.conversion.assemble_source.Goals as goal

pub returns-in_err-code-clause-only : goal.returns-in_err-code-clause-only
returns-in_err-code-clause-only g c = λ words small is.
    let means : Means c.in-Ok.text.now is.code = subst (λ (text : List ℕ). Means text is.code) (sym c.in-Ok.ensures.cases.0) is.means in
    let memory = c.in_err-code.ensures.only is.code means in
    search rules

pub returns-clause-only : goal.returns-clause-only
returns-clause-only g c = λ words small is.
    let means : Means c.in-Ok.text.now is.code = subst (λ (text : List ℕ). Means text is.code) (sym c.in-Ok.ensures.cases.0) is.means in
    c.in_ok-words.ensures.only words small (subst (IsCodeOf words) (sym (c.in_ok-code.ensures.only is.code means)) is.are_words)

pub returns-in_err-code-clause-refused : goal.returns-in_err-code-clause-refused
returns-in_err-code-clause-refused g c = λ fault is other.
    of_its_text (λ fault. IsErrAnd c.from_residual.result (λ given. (given ≡ fault) ⊎ (given ≡ Text Memory))) c.args.source.now fault
    (search rules) is other
    (λ flaw first not_memory.
    let first_of_text : IsFirstFault c.in-Ok.text.now flaw = subst (λ (text : List ℕ). IsFirstFault text flaw) (sym c.in-Ok.ensures.cases.0)
    first in
    let refused = c.in_err-code.ensures.refused flaw first_of_text not_memory in
    search rules)

pub returns-clause-refused : goal.returns-clause-refused
returns-clause-refused g c = λ fault is other.
    of_its_text (λ _. ⊥) c.args.source.now fault (search rules) is other
    (λ flaw first not_memory.
    c.in_ok-code.ensures.refused flaw (subst (λ (text : List ℕ). IsFirstFault text flaw) (sym c.in-Ok.ensures.cases.0) first) not_memory)
