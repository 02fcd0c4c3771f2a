use Rattle.std.proofs.Common.{List, ℕ, subst}
use Rattle.bpf_insn.specs.Code.{IsCodeOf}
use Rattle.bpf_program.proofs.VerdictLemmas.{refused_by_code}
use Rattle.commands.proofs.verify.check_owned.Goals as goal

pub returns-clause-err : goal.returns-clause-err
returns-clause-err g c =
    let is_code = subst (λ (bytes : List ℕ). IsCodeOf bytes c.in_ok-code.code) c.as_slice.ensures.value c.in_ok-code.ensures.ok in
    refused_by_code c.args.program.items c.in_ok-code.code c.check_code.result is_code c.check_code.ensures.err
