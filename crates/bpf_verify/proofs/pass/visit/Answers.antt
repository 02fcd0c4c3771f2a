use Rattle.std.proofs.Common.{◌≡◌, pos, Option, IfSome, option_map, sym, ap, subst}
use Rattle.bpf_insn.specs.Jump.{jump_distance}
use Rattle.bpf_insn.specs.declared.instruction.Insn.{Insn}
use Rattle.bpf_flow.specs.Flow.{target_of}
use Rattle.bpf_verify.specs.LiftedState.{LiftedState, Unreached}
use Rattle.bpf_verify.specs.Transfer.{transfer}
use Rattle.bpf_verify.proofs.WorklistLemmas.{visited_states}
use Rattle.bpf_verify.proofs.PassLemmas.{joined_if-bottom}
use Rattle.bpf_verify.proofs.pass.visit.Goals as goal

pub returns-in_default-clause-ok : goal.returns-in_default-clause-ok
returns-in_default-clause-ok g c = record {
  edges = record { next = Unreached; target = Unreached };
  passes = ap (λ (state : LiftedState). transfer state c.args.insn) (sym c.in_default.ensures.value);
  proper = record { next = tt; target = tt };
  target = c.target-target.result;
  leads = subst (λ (o : Option Insn). IfSome o (λ insn. option_map pos c.target-target.result ≡ option_map
      (target_of c.args.worklist.now.place) (jump_distance insn))) c.requires.is_insn c.target-target.ensures.value;
  place = c.pop.ensures.place;
  code = c.pop.ensures.code;
  states = visited_states c.args.worklist.now c.pop.new.self c.pop.new.self c.target-target.result
      (record { next = Unreached; target = Unreached }) c.pop.ensures.waiting
      (λ other. sym (joined_if-bottom _ c.target-target.result other)) c.pop.ensures.straight;
}
