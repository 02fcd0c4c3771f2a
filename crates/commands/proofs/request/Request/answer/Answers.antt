use Rattle.std.proofs.Common.{◌∙◌, sym}
use Rattle.commands.specs.Command.{of_flush}
use Rattle.commands.proofs.AnswerLemmas.{refused_ended, unusable_ended}
use Rattle.commands.proofs.request.Request.answer.Goals as goal

pub returns-in-Ok-clause-done : goal.returns-in-Ok-clause-done
returns-in-Ok-clause-done g c = λ is. record { unflushed = _; written = c.in-Ok.ensures.carried.outcome; flushed = c.flush.ensures.done is }

pub returns-in-Ok-clause-unusable : goal.returns-in-Ok-clause-unusable
returns-in-Ok-clause-unusable g c = λ three. of_flush _ c.in-Ok.ensures.carried.outcome (c.flush.ensures.failed three)

pub returns-in-Ok-clause-flushed : goal.returns-in-Ok-clause-flushed
returns-in-Ok-clause-flushed g c = λ _ same. c.flush.ensures.flushed (same ∙ sym c.in-Ok.ensures.carried.unflushed)

pub returns-in-Err-2-clause-refused : goal.returns-in-Err-2-clause-refused
returns-in-Err-2-clause-refused g c = refused_ended c.in-Err.failure c.in-Err.ensures.carried c.end_failed.ensures.ends

pub returns-in-Err-2-clause-unusable : goal.returns-in-Err-2-clause-unusable
returns-in-Err-2-clause-unusable g c = unusable_ended c.in-Err.failure c.in-Err.ensures.carried c.end_failed.ensures.ends
