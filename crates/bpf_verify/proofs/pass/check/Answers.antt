use Rattle.std.proofs.Common.{rules}
use Rattle.bpf_verify.proofs.VerdictLemmas.{refused_for_memory}
use Rattle.bpf_verify.proofs.pass.check.Goals as goal

pub returns-in_err-pass-clause-only : goal.returns-in_err-pass-clause-only
returns-in_err-pass-clause-only g c accepted = let memory = refused_for_memory c.args.flow.now.code _ c.in_err-pass.ensures.err accepted in
    search rules
