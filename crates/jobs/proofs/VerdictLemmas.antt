-- Unless an allocation fails, the reply to a submission depends only on the table and the program.
use Rattle.std.proofs.Common.{◌≡◌, ◌≢◌, ℕ, List, refl, sym, ap, ◌∙◌}
use Rattle.bpf_program.proofs.VerdictLemmas as verdict
use Rattle.std.specs.Borrow.{Bor}
use Rattle.jobs.specs.Table.{Step, Table}
use Rattle.jobs.specs.declared.event.Event.TheVariants.{Submit}
use Rattle.jobs.specs.declared.event.Reply.{Reply}
use Rattle.jobs.specs.declared.event.Reply.TheVariants.{Submitted, Refused}
use Rattle.jobs.specs.declared.fault.JobFault.TheVariants.{Full, Program, Memory}

module _ (old new again : Table) (program : Bor (List ℕ)) where
  pub one_reply : (reply other : Reply) → Step old (Submit program) reply new → Step old (Submit program) other again
      → reply ≢ Refused Memory → other ≢ Refused Memory → reply ≡ other
  one_reply (Refused Memory) other is also known given = absurd (known refl)
  one_reply reply (Refused Memory) is also known given = absurd (given refl)
  one_reply (Submitted id) (Submitted next) is also known given = ap Submitted (is.1 ∙ sym also.1)
  one_reply (Submitted id) (Refused Full) is also known given = absurd (is.0 also.0)
  one_reply (Submitted id) (Refused (Program fault)) is also known given =
      absurd (also.2 (verdict.no_fault program.now is.2 fault is.3 also.1))
  one_reply (Refused Full) (Submitted id) is also known given = absurd (also.0 is.0)
  one_reply (Refused Full) (Refused Full) is also known given = refl
  one_reply (Refused Full) (Refused (Program fault)) is also known given = absurd (also.0 is.0)
  one_reply (Refused (Program fault)) (Submitted id) is also known given =
      absurd (is.2 (verdict.no_fault program.now also.2 fault also.3 is.1))
  one_reply (Refused (Program fault)) (Refused Full) is also known given = absurd (is.0 also.0)
  one_reply (Refused (Program a)) (Refused (Program b)) is also known given =
      ap (λ fault. Refused (Program fault)) (verdict.one_fault program.now a b is.1 also.1 is.2 also.2)
  one_reply (Submitted id) other is also known given = absurd also
  one_reply (Refused Full) other is also known given = absurd also
  one_reply (Refused (Program fault)) other is also known given = absurd also
  one_reply reply other is also known given = absurd is
