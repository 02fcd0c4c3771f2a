use Rattle.std.proofs.Common.{refl}
use Rattle.bpf_program.specs.declared.program.ProgramFault.TheVariants as program
use Rattle.commands.proofs.CarriedLemmas.{program_carried}
use Rattle.commands.proofs.verify.Verify.carry_out.Goals as goal

pub returns-in-Err-clause-carried : goal.returns-in-Err-clause-carried
returns-in-Err-clause-carried g c =
    rw c.of_program.ensures (program_carried g.F.Files.opens c.args.self.program _ c.in-Err.fault refl c.in-Err.ensures.refused
    c.in-Err.ensures.fault c.in-Err.ensures.uses
    (λ fault is. record {
      program = is.program;
      is_program = is.is_program;
      fault = program.Code fault;
      is_fault = (is.first, is.has_number);
      is_refusal = refl;
      unwritten = refl;
    }))
