use Rattle.std.proofs.Common.{rules}
use Rattle.bpf_verify.proofs.VerdictLemmas.{refused_for_memory}
use Rattle.bpf_verify.proofs.pass.verify_with.Goals as goal

pub returns-in_err-areas-clause-only : goal.returns-in_err-areas-clause-only
returns-in_err-areas-clause-only g c accepted = let memory = refused_for_memory c.args.flow.code _ c.in_err-areas.ensures.err accepted in
    search rules
