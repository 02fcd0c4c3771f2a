use Rattle.std.proofs.Common.{rules}
use Rattle.bpf_flow.proofs.FlowLemmas.{is_accepted}
use Rattle.bpf_flow.proofs.flow.Flow.of.Goals as goal

pub returns-in_err-check_jumps-clause-forward : goal.returns-in_err-check_jumps-clause-forward
returns-in_err-check_jumps-clause-forward g c = is_accepted c.args.code c.from_residual.result (search rules)

pub returns-in_err-check_last-clause-forward : goal.returns-in_err-check_last-clause-forward
returns-in_err-check_last-clause-forward g c = is_accepted c.args.code c.from_residual-in_err-check_last.result (search rules)
