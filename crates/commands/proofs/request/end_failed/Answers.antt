use Rattle.std.proofs.Common.{◌∙◌, ap}
use Rattle.commands.specs.Command.{after_failed_flush, after_write}
use Rattle.commands.specs.Failure.{status}
use Rattle.commands.proofs.AnswerLemmas.{before_flush}
use Rattle.commands.proofs.request.end_failed.Goals as goal

pub returns-in-Write-clause-ends : goal.returns-in-Write-clause-ends
returns-in-Write-clause-ends g c =
    after_write c.in-Write.field-0 c.in-Write.is (c.status-in-Write.ensures ∙ ap status c.in-Write.is) c.flush_last-flushed.ensures.bytes
    c.report.ensures c.flush_last-flushed.result c.flush_last-flushed.ensures.counts

pub returns-in_default : goal.returns-in_default
returns-in_default g c = let counts = c.in-Err.ensures.counts in record {
  ends = after_failed_flush (before_flush c.args.failure.now c.in_default.not-Write c.requires) c.status-in_default.ensures _ c.report.ensures
      (record { unchanged = c.in-Err.ensures.bytes; failed = counts.0; reported = c.report-in_default.ensures });
  flushed = counts.2;
  flushed_last = λ other. absurd (other c.status-in_default.ensures);
}
