use Rattle.std.proofs.Common.{inl, inr, refl, arith}
use Rattle.command_line.proofs.dispatch.command.Goals as goal

pub returns-in-Ok-clause-done : goal.returns-in-Ok-clause-done
returns-in-Ok-clause-done g c = λ zero. (c.in-Ok.request, c.in-Ok.ensures, c.answer.ensures.done zero)

pub returns-in-Ok-clause-refused : goal.returns-in-Ok-clause-refused
returns-in-Ok-clause-refused g c = λ one. (c.in-Ok.request, c.in-Ok.ensures, c.answer.ensures.refused one)

pub returns-in-Ok-clause-usage : goal.returns-in-Ok-clause-usage
returns-in-Ok-clause-usage g c = λ two. inr (c.in-Ok.request, c.in-Ok.ensures, c.answer.ensures.usage two)

pub returns-in-Ok-clause-unusable : goal.returns-in-Ok-clause-unusable
returns-in-Ok-clause-unusable g c = λ three. (c.in-Ok.request, c.in-Ok.ensures, c.answer.ensures.unusable three)

pub returns-in-Ok-clause-memory : goal.returns-in-Ok-clause-memory
returns-in-Ok-clause-memory g c = λ four. inr (c.in-Ok.request, c.in-Ok.ensures, c.answer.ensures.memory four)

pub returns-in-Err-clause-usage : goal.returns-in-Err-clause-usage
returns-in-Err-clause-usage g c = λ two.
    inl (c.in-Err.ensures (λ memory. let four = c.status.ensures.memory memory in absurd (omega (arith, two, four))))

pub returns-in-Err-clause-memory : goal.returns-in-Err-clause-memory
returns-in-Err-clause-memory g c = λ four. inl (refl, c.report.ensures.memory (c.status.ensures.only four))
