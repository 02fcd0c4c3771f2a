use Rattle.std.proofs.Common.{◌≤◌, refl, subst, length, arith}
use Rattle.std.proofs.lemmas.Bool.Decides.{nat_tests}
use Rattle.bpf_insn.specs.Code.{HasProgramSize, word_count}
use Rattle.bpf_insn.proofs.PlaceLemmas.{not_empty}
use Rattle.bpf_insn.proofs.code.CodeBuilder.finish.Goals as goal

pub invariant_of-result : goal.invariant_of-result
invariant_of-result g c =
    let long : 1 ≤ length c.self.inside.instructions.items = grind (arith, nat_tests, c.if-is_empty.ensures) in
    subst (λ code. HasProgramSize (word_count code)) c.self.view_is (not_empty c.self.inside.instructions.items long, c.self.invariant.2)

pub returns-clause-ok : goal.returns-clause-ok
returns-clause-ok g c = (refl, invariant_of-result g c)
